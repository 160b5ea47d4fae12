use Rattle.std.proofs.Common.{◌≡◌, IfOk, true, length, sum, ap, subst, ◌∙◌, arith}
use Rattle.bar_base.specs.Picture.{Picture}
use Rattle.bar_base.proofs.StripeLaws.{length-stripes, row_shaped, row_is}
use Rattle.bar_base.proofs.stripes.row_of_widths.Goals as goal

pub overflow_cast-width : goal.overflow_cast-width
overflow_cast-width c =
    let sums : length c.in_ok-modules.modules.items ≡ sum c.args.widths.now = ap length c.in_ok-modules.ensures ∙ length-stripes true c.args.widths.now in
    omega (arith, c.in_ok-modules.modules.ok.0)

pub of_rows-requires : goal.of_rows-requires
of_rows-requires c = record {
  shape = row_shaped c.len-width.result c.in_ok-modules.modules.items c.args.widths.now (omega (arith, c.in_ok-modules.modules.ok.0)) c.in_ok-modules.ensures c.requires.some c.requires.few;
}

pub returns : goal.returns
returns c =
    subst (λ (p : Picture). IfOk c.of_rows.result (λ grid. grid ≡ p))
    (row_is c.len-width.result c.in_ok-modules.modules.items c.args.widths.now (omega (arith, c.in_ok-modules.modules.ok.0)) c.in_ok-modules.ensures)
    c.of_rows.ensures.picture
