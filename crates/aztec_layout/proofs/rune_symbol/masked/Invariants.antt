use Rattle.std.proofs.Common.{◌≡◌, take}
use Rattle.aztec_layout.specs.Rune.{masked}
use Rattle.aztec_layout.proofs.rune_symbol.masked.Given as goal

abbrev pub invariant-loop-word : goal.invariant-loop-word
invariant-loop-word l = l.all ≡ masked (take l.word-index l.fn.words)
