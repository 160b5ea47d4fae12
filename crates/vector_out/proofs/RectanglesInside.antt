-- The rectangles of dark runs lie inside the drawing.
use Rattle.std.proofs.Common.{◌+◌, ◌*◌, ◌<◌, ◌≤◌, ℕ, slice_index, sum, subst, sym, arith}
use Rattle.std.proofs.Math.Nat.{mul-le-mul_left, mul-add}
use Rattle.std.proofs.lemmas.List.Sums.{sum_by_more_le}
use Rattle.bar_base.specs.Paint.{unit_of, modules_high, painted_height}
use Rattle.bar_base.specs.Picture.{Picture, row_count}
use Rattle.bar_base.specs.declared.paint.Paint.{Paint}
use Rattle.vector_out.specs.declared.form.Form.{Form}
use Rattle.vector_out.specs.declared.form.Form.TheVariants.{Svg, Eps}
use Rattle.vector_out.specs.Drawing.{IsFormOf, EndsInside}
use Rattle.vector_out.specs.Runs.{modules_above, rectangle_of}

below-whole : (unit white above high whole : ℕ) → above + high ≤ whole → unit * (white + above) + unit * high ≤ unit * (whole + 2 * white)
below-whole unit white above high whole inside =
    let within : (white + above) + high ≤ whole + 2 * white = omega arith in
    subst (λ bottom. bottom ≤ unit * (whole + 2 * white)) (mul-add unit (white + above) high) (mul-le-mul_left unit within)

-- a dark run ends above the bottom of the drawing, or at it
run-inside : (paint : Paint) (picture : Picture) (y x : ℕ) → y < row_count picture →
    (rectangle_of paint picture y x).top + (rectangle_of paint picture y x).height ≤ painted_height paint picture
unfolding rectangle_of modules_high
run-inside paint picture y x inside =
    below-whole (unit_of paint) paint.vwhite (modules_above picture y) (slice_index picture.heights y) (sum picture.heights)
    (sum_by_more_le (λ height. height) picture.heights y 0 inside)

pub ends_inside : (form : Form) (paint : Paint) (picture : Picture) (y x : ℕ) → y < row_count picture → IsFormOf form paint picture → EndsInside form (rectangle_of paint picture y x)
ends_inside Svg paint picture y x inside is = tt
ends_inside (Eps height) paint picture y x inside is =
    subst (λ height. (rectangle_of paint picture y x).top + (rectangle_of paint picture y x).height ≤ height) (sym is) (run-inside paint picture y x inside)
