use Rattle.std.proofs.Common.{take}
use Rattle.rs_decode.specs.Syndromes.{AreSyndromes}
use Rattle.rs_decode.proofs.syndromes.find_syndromes.Given as goal

abbrev pub invariant-loop-element : goal.invariant-loop-element
invariant-loop-element g l = AreSyndromes g.F.Field.nought g.F.Field.plus g.F.Field.times g.F.Field.power (take l.element-index l.word) l.syndromes
