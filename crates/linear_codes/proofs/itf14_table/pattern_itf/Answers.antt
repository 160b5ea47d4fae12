use Rattle.std.proofs.Common.{◌∙◌, ℕ, ◌+◌, ◌*◌, List, slice_index, map, ap, arith}
use Rattle.bar_base.specs.Bits.{number_after}
use Rattle.bar_base.proofs.StripeLaws.{bit_small}
use Rattle.linear_codes.specs.Itf14.{is_wide, digit_elements, pattern_itf_of}
use Rattle.linear_codes.proofs.ItfLaws.{element_more, element_end, power_small, power_more}
use Rattle.linear_codes.proofs.TableLaws.{only_itf}
use Rattle.linear_codes.proofs.itf14_table.pattern_itf.Goals as goal

pub loop-element-init : goal.loop-element-init
loop-element-init c = record { digits = ap (λ (xs : List ℕ). number_after 0 (map is_wide xs)) c.digit_elements-element-items.ensures.elements; small = omega arith }

pub overflow_mul-number : goal.overflow_mul-number
overflow_mul-number c = let few = power_small c.loop-element.element-index (omega arith) in omega arith

pub overflow_add-number : goal.overflow_add-number
overflow_add-number c =
    let few = power_small c.loop-element.element-index (omega arith) in
    omega (arith, bit_small (is_wide (slice_index c.digit_elements-element-items.result.now c.loop-element.element-index)), c.from.ensures)

pub loop-element-preserved : goal.loop-element-preserved
loop-element-preserved c =
    let twice = power_more c.loop-element.element-index in
    record {
      digits = element_more c.loop-element.number _ (number_after 0 (map is_wide (digit_elements c.args.digit))) c.digit_elements-element-items.result.now c.loop-element.element-index (omega arith)
          c.loop-element.invariant.digits (ap (λ (n : ℕ). c.loop-element.number * 2 + n) c.from.ensures);
      small = omega (arith, bit_small (is_wide (slice_index c.digit_elements-element-items.result.now c.loop-element.element-index)), c.from.ensures);
    }

pub returns-clause-elements : goal.returns-clause-elements
unfolding pattern_itf_of
returns-clause-elements c = element_end c.loop-element.number (pattern_itf_of c.args.digit) c.digit_elements-element-items.result.now c.loop-element.element-index (omega arith) c.loop-element.invariant.digits

pub returns-clause-only : goal.returns-clause-only
unfolding pattern_itf_of
returns-clause-only c other small is =
    only_itf c.args.digit other c.requires small
    (is ∙ element_end c.loop-element.number (pattern_itf_of c.args.digit) c.digit_elements-element-items.result.now c.loop-element.element-index (omega arith) c.loop-element.invariant.digits)
