use Rattle.std.proofs.Common.{take}
use Rattle.bar_memory.specs.StoredFiles.{AllOther}
use Rattle.bar_memory.proofs.stored_files.find.Given as goal

abbrev pub invariant-loop-at : goal.invariant-loop-at
invariant-loop-at l = AllOther l.name (take l.at l.files)
