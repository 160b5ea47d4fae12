use Rattle.std.proofs.Common.{◌<◌, ◌∙◌, ap, ℕ, List, map, true, length, arith}
use Rattle.bar_base.specs.Bits.{number_after}
use Rattle.bar_base.specs.Stripes.{stripes}
use Rattle.linear_codes.specs.Itf14.{digit_elements, element_width, in_turn, pair_pattern_of}
use Rattle.linear_codes.proofs.ItfLaws.{pair_more, pair_end, pair_room_more}
use Rattle.linear_codes.proofs.itf14_table.pattern_pair.Goals as goal

pub loop-place-preserved : goal.loop-place-preserved
loop-place-preserved c =
    let bars = c.digit_elements-bars.result.now in
    let spaces = c.digit_elements-spaces.result.now in
    let in_bars : c.loop-place.place < length bars = omega arith in
    let in_spaces : c.loop-place.place < length spaces = omega arith in
    record {
      digits =
          pair_more c.loop-place.number c.with_element-with_bar.result c.with_element-number.result _ bars spaces c.loop-place.place in_bars in_spaces
          c.loop-place.invariant.digits c.with_element-with_bar.ensures.digits c.with_element-number.ensures.digits;
      bounded = omega (arith, pair_room_more c.loop-place.place);
    }

pub returns : goal.returns
unfolding pair_pattern_of
returns c = record {
  modules =
      pair_end c.loop-place.number _ c.digit_elements-bars.result.now c.digit_elements-spaces.result.now c.loop-place.place c.loop-place-test.false c.loop-place.invariant.digits
      ∙ ap (λ (xs : List ℕ). number_after 0 (stripes true (map element_width (in_turn xs c.digit_elements-spaces.result.now)))) c.digit_elements-bars.ensures.elements
      ∙ ap (λ (xs : List ℕ). number_after 0 (stripes true (map element_width (in_turn (digit_elements c.args.first) xs)))) c.digit_elements-spaces.ensures.elements;
}
