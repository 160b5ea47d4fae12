use Rattle.std.proofs.Common.{◌≡◌, ◌<◌, ◌∙◌, ap, get_or, subst, sym, arith}
use Rattle.std.specs.Char.{digit_value}
use Rattle.gs1_check.proofs.Digits.{all_read, more_fits, not_read, read_more, times_fits}
use Rattle.gs1_check.proofs.identifiers.identifier_number.Goals as goal

pub overflow_mul-number : goal.overflow_mul-number
overflow_mul-number c =
    let fits = times_fits c.loop-digit.number c.loop-digit.digit-index c.loop-digit.invariant.small (omega arith) in
    omega arith

pub overflow_add-number : goal.overflow_add-number
overflow_add-number c =
    let digit : c.in_ok-number.field-0 < 10 = omega (arith, c.in_ok-number.ensures.value.0, c.in_ok-number.ensures.value.1) in
    let fits = more_fits c.loop-digit.number c.loop-digit.digit-index c.in_ok-number.field-0 c.loop-digit.invariant.small (omega arith)
    digit in
    omega arith

pub loop-digit-preserved : goal.loop-digit-preserved
loop-digit-preserved c =
    let same : c.from.result ≡ get_or c.args.digits.now c.loop-digit.digit-index 0 = c.from.ensures in
    read_more c.args.digits.now c.loop-digit.digit-index c.loop-digit.number c.in_ok-number.field-0 c.loop-digit.invariant (omega arith)
    (subst (λ x. digit_value x < 10) same c.in_ok-number.ensures.value.0) (c.in_ok-number.ensures.value.1 ∙ ap digit_value same)

pub returns-in_err-number : goal.returns-in_err-number
returns-in_err-number c =
    let same : c.from.result ≡ get_or c.args.digits.now c.loop-digit.digit-index 0 = c.from.ensures in
    c.from_residual.ensures ∙ not_read c.args.digits.now c.loop-digit.digit-index (omega arith)
    (λ digit. c.in_err-number.ensures.value (subst (λ x. digit_value x < 10) (sym same) digit))

pub returns : goal.returns
returns c = all_read _ _ _ c.loop-digit.invariant (omega arith)
