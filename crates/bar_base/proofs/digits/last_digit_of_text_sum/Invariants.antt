use Rattle.std.specs.Prelude.{map}
use Rattle.bar_base.specs.CheckDigit.{digit_value, three_or_one}
use Rattle.bar_base.proofs.Weights.{IsSummed}
use Rattle.bar_base.proofs.digits.last_digit_of_text_sum.Given as goal

abbrev pub invariant-loop-character : goal.invariant-loop-character
invariant-loop-character l = IsSummed three_or_one (map digit_value l.text) l.character-index l.behind l.sum
