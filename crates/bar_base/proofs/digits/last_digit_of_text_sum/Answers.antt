use Rattle.std.proofs.Common.{map, sym, ◌∙◌, arith}
use Rattle.std.proofs.lemmas.List.{get_or-map, length-map}
use Rattle.bar_base.specs.CheckDigit.{digit_value, three_or_one}
use Rattle.bar_base.proofs.Weights.{IsSummed-more, IsSummed-all}
use Rattle.bar_base.proofs.digits.last_digit_of_text_sum.Goals as goal

pub loop-character-preserved : goal.loop-character-preserved
loop-character-preserved c =
    let long = length-map c.args.text.now digit_value in
    IsSummed-more three_or_one (map digit_value c.args.text.now) c.loop-character.character-index c.loop-character.behind c.loop-character.sum _ _ c.loop-character.invariant
    (omega (arith, long)) (get_or-map digit_value c.args.text.now c.loop-character.character-index 0 0 (omega arith) ∙ sym c.saturating_sub.ensures) c.with_digit-sum.ensures.sum

pub returns-clause-sum : goal.returns-clause-sum
returns-clause-sum c =
    let long = length-map c.args.text.now digit_value in
    IsSummed-all three_or_one (map digit_value c.args.text.now) c.loop-character.character-index c.loop-character.behind c.loop-character.sum c.loop-character.invariant (omega (arith, long))
