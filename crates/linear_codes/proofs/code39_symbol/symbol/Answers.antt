use Rattle.std.proofs.Common.{◌++◌, length, ap, ◌∙◌, arith}
use Rattle.std.proofs.lemmas.List.{length-append}
use Rattle.linear_codes.proofs.TableFacts.{symbol39_some, symbol39_few}
use Rattle.linear_codes.proofs.code39_symbol.symbol.Goals as goal

pub row_of_widths-requires-clause-some : goal.row_of_widths-requires-clause-some
row_of_widths-requires-clause-some c =
    let whole = c.deref.ensures.value ∙ c.in_ok-widths.ensures in
    rw (whole) (symbol39_some (c.args.values.now ++ c.as_slice.result.now))

pub row_of_widths-requires-clause-few : goal.row_of_widths-requires-clause-few
row_of_widths-requires-clause-few c =
    let whole = c.deref.ensures.value ∙ c.in_ok-widths.ensures in
    rw (whole)
    (symbol39_few (c.args.values.now ++ c.as_slice.result.now) (omega (arith, length-append c.args.values.now c.as_slice.result.now, ap length c.as_slice.ensures.bytes, c.as_slice.ensures.bounded)))
