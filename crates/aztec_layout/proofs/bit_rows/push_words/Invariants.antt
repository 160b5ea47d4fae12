use Rattle.std.proofs.Common.{◌≡◌, ◌++◌, take}
use Rattle.aztec_layout.specs.ModeMessage.{word_bits}
use Rattle.aztec_layout.proofs.bit_rows.push_words.Given as goal

abbrev pub invariant-loop-word : goal.invariant-loop-word
invariant-loop-word l = l.row ≡ l.initial.row ++ word_bits l.width (take l.word-index l.words)
