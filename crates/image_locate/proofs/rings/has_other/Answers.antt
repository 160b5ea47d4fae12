use Rattle.std.proofs.Common.{◌≡◌, Bool, true, false, not, sym, ◌∙◌, arith}
use Rattle.std.proofs.Math.Bool.{beq}
use Rattle.image_locate.proofs.FinderRings.{few_pixels, not_ringed}
use Rattle.image_locate.proofs.rings.has_other.Goals as goal

pub overflow_mul-u : goal.overflow_mul-u
overflow_mul-u c = omega (arith, few_pixels c.args.u c.args.a c.requires.few c.requires.inner_column)

pub overflow_add-x : goal.overflow_add-x
overflow_add-x c = omega (arith, few_pixels c.args.u c.args.a c.requires.few c.requires.inner_column, c.requires.column)

pub overflow_mul-u-3 : goal.overflow_mul-u-3
overflow_mul-u-3 c = omega (arith, few_pixels c.args.u c.args.b c.requires.few c.requires.inner_row)

pub overflow_add-y : goal.overflow_add-y
overflow_add-y c = omega (arith, few_pixels c.args.u c.args.b c.requires.few c.requires.inner_row, c.requires.row)

pub returns : goal.returns
returns c = λ other.
    let p = c.args in
    not_ringed p.picture.now p.x p.y p.u p.a p.b c.dark.result c.requires.inner_column c.requires.inner_row c.dark.ensures.module
    (λ same. apart c.dark.result c.is_dark_core.result other (same ∙ sym c.is_dark_core.ensures))
  where
    apart : (p q : Bool) → not (beq p q) ≡ true → p ≡ q → ⊥
    apart true true is same = cc
    apart false false is same = cc
    apart true false is same = cc
    apart false true is same = cc
