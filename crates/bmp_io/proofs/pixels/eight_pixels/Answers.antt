use Rattle.std.proofs.Common.{◌≡◌, ◌+◌, ◌/◌, sym, ap, ◌∙◌, arith, true, false}
use Rattle.bar_base.specs.Picture.{row_of}
use Rattle.bmp_io.specs.Pixels.{module_over}
use Rattle.bmp_io.proofs.PixelLemmas.{eight-same, same_block}
use Rattle.bmp_io.proofs.pixels.eight_pixels.Goals as goal

pub returns-then-module_over : goal.returns-then-module_over
returns-then-module_over c =
    let row = row_of c.args.grid.now c.args.y in
    let p = c.args.p in
    let first : (p + 7) / c.unit-side.result ≡ p / c.unit-side.result = c.if-p-side.true in
    let dark : module_over c.args.paint row (p / c.unit-side.result) ≡ true = sym c.module_over.ensures ∙ c.if-module_over.true in
    sym (eight-same c.args.paint row p true
    (λ i few. ap (module_over c.args.paint row) (rw (← c.unit-side.ensures) (same_block c.unit-side.result p i (omega (arith, c.unit-side.ensures)) few first)) ∙ dark))

pub returns-else-module_over : goal.returns-else-module_over
returns-else-module_over c =
    let row = row_of c.args.grid.now c.args.y in
    let p = c.args.p in
    let first : (p + 7) / c.unit-side.result ≡ p / c.unit-side.result = c.if-p-side.true in
    let light : module_over c.args.paint row (p / c.unit-side.result) ≡ false = sym c.module_over.ensures ∙ c.if-module_over.false in
    sym (eight-same c.args.paint row p false
    (λ i few. ap (module_over c.args.paint row) (rw (← c.unit-side.ensures) (same_block c.unit-side.result p i (omega (arith, c.unit-side.ensures)) few first)) ∙ light))
