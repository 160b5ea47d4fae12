use Rattle.std.proofs.Common.{sym, subst, arith}
use Rattle.bar_base.specs.Picture.{Picture}
use Rattle.symbol_reader.specs.GridLines.{IsPictureWithin}
use Rattle.symbol_reader.proofs.TextModules.{picture_of, text_modules}
use Rattle.symbol_reader.proofs.parsing.parsed.Goals as goal

pub picture-requires-clause-modules : goal.picture-requires-clause-modules
picture-requires-clause-modules c = text_modules c.args.bytes.now c.in-Ok.sides.0 c.in-Ok.sides.1 c.in-Ok.ensures.good

pub returns-clause-picture : goal.returns-clause-picture
returns-clause-picture c =
    subst (λ (p : Picture). IsPictureWithin c.args.most_wide c.args.most_rows c.args.bytes.now p) (sym c.in_ok-grid.ensures) (picture_of c.args.most_wide c.args.most_rows c.args.bytes.now c.in-Ok.sides.0 c.in-Ok.sides.1 c.in-Ok.ensures.good
    (omega (arith, c.if-width-most_wide.false)) (omega (arith, c.if-rows-most_rows.false)))
