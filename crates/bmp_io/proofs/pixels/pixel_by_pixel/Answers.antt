use Rattle.std.proofs.Common.{◌≡◌, ◌+◌, ◌*◌, ◌/◌, ◌≤◌, map, if◌then◌else◌, refl, ap, ◌∙◌, arith}
use Rattle.std.specs.List.{range_with_len}
use Rattle.std.proofs.lemmas.List.FromFn.{map-range_with_len_more}
use Rattle.bar_base.specs.Bits.{number_after}
use Rattle.bar_base.specs.Picture.{row_of}
use Rattle.bmp_io.specs.Pixels.{pixel, module_over, eight_pixels}
use Rattle.bmp_io.proofs.PixelLemmas.{number_after-push, bit_number, bit_number-small, below_double}
use Rattle.bmp_io.proofs.pixels.pixel_by_pixel.Goals as goal

pub loop-i-init : goal.loop-i-init
unfolding number_after
loop-i-init c = (refl, omega arith)

pub loop-i-preserved : goal.loop-i-preserved
loop-i-preserved c =
    let row = row_of c.args.grid.now c.args.y in
    let f = pixel c.args.paint row in
    let here : c.module_over-dark.result ≡ f (c.args.p + c.loop-i.i) =
    c.module_over-dark.ensures ∙ ap (λ side. module_over c.args.paint row ((c.args.p + c.loop-i.i) / side)) c.unit-side.ensures in
    let bit : c.from.result ≡ (if c.module_over-dark.result then 1 else 0) = c.from.ensures ∙ bit_number c.module_over-dark.result in
    let more : number_after 0 (map f (range_with_len c.args.p (c.loop-i.i + 1))) ≡ number_after 0 (map f (range_with_len c.args.p c.loop-i.i)) * 2 + (if f (c.args.p + c.loop-i.i) then 1 else 0) =
    ap (number_after 0) (map-range_with_len_more f c.args.p c.loop-i.i (c.args.p + c.loop-i.i) refl) ∙ number_after-push 0 (map f (range_with_len c.args.p c.loop-i.i)) (f (c.args.p + c.loop-i.i)) in
    let small : c.from.result ≤ 1 = rw c.from.ensures (bit_number-small c.module_over-dark.result) in
    (rw (more, ← here, bit, c.loop-i.invariant.0) refl, below_double c.loop-i.byte c.from.result c.loop-i.i c.loop-i.invariant.1 small)

pub returns : goal.returns
unfolding eight_pixels
returns c = c.loop-i.invariant.0 ∙ ap (λ i. number_after 0 (map (pixel c.args.paint (row_of c.args.grid.now c.args.y)) (range_with_len c.args.p i))) (let e : c.loop-i.i ≡ 8 = omega arith in e)
