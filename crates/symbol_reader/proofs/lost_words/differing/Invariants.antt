use Rattle.std.proofs.Common.{◌≡◌, take}
use Rattle.symbol_reader.specs.Sight.{lost_between}
use Rattle.symbol_reader.proofs.lost_words.differing.Given as goal

abbrev pub invariant-loop-at : goal.invariant-loop-at
invariant-loop-at l = l.lost.items ≡ lost_between (take l.at l.words) (take l.at l.others)
