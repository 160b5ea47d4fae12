use Rattle.std.proofs.Common.{◌≡◌, ◌++◌, take}
use Rattle.aztec_layout.proofs.mode_message.push_words.Given as goal

abbrev pub invariant-loop-word : goal.invariant-loop-word
invariant-loop-word g l = l.words ≡ l.initial.words ++ take l.word-index l.more
