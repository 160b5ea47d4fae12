use Rattle.std.proofs.Common.{◌≡◌, ◌++◌, [], take}
use Rattle.aztec_layout.specs.ModeMessage.{word_bits}
use Rattle.aztec_layout.proofs.bit_rows.mode_bits.Given as goal

abbrev pub invariant-loop-word : goal.invariant-loop-word
invariant-loop-word l = l.row ≡ [] ++ word_bits 4 (take l.word-index l.words)
