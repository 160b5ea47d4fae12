use Rattle.std.proofs.Common.{refl, sym, ap, ◌≡◌, ◌≤◌, ◌<◌, ◌∙◌, arith, ◌+◌, ◌*◌, ℕ}
use Rattle.aztec_modes.proofs.NumbersAhead.{digits_fit, digits_low, digits_none, digits_some, drop_on, number_below, some_left}
use Rattle.aztec_modes.proofs.ahead.+digits_at.Goals as goal

pub overflow_mul-front : goal.overflow_mul-front
overflow_mul-front t c = omega (arith, digits_low c.args.front c.args.count (some_left c.args.count c.if-count-eq0.false) c.requires.small)

pub overflow_add-front : goal.overflow_add-front
overflow_add-front t c = omega (arith, c.digit_at.ensures.below, c.in-Some.ensures.below, digits_low c.args.front c.args.count (some_left c.args.count c.if-count-eq0.false) c.requires.small)

pub digits_at-requires : goal.digits_at-requires
digits_at-requires t c = (
  omega (arith, c.decreases, some_left c.args.count c.if-count-eq0.false),
  (c.in-Some.ensures.there, digits_fit c.args.front c.in-Some.digit c.args.count (some_left c.args.count c.if-count-eq0.false) c.requires.small c.in-Some.ensures.below),
)

pub returns-in-None : goal.returns-in-None
returns-in-None t c = record {
  digits = sym (digits_none c.args.count c.args.front _ (some_left c.args.count c.if-count-eq0.false) (sym c.digit_at.ensures.digit ∙ c.in-None.is));
  below = tt;
}

pub returns-in-Some : goal.returns-in-Some
returns-in-Some t c = record {
  digits = c.digits_at.ensures.digits ∙ sym (digits_some c.args.count c.args.front c.in-Some.digit _ _ (some_left c.args.count c.if-count-eq0.false)
      (sym c.digit_at.ensures.digit ∙ c.in-Some.is) (drop_on c.args.bits.now c.args.at 4));
  below = c.digits_at.ensures.below;
}
