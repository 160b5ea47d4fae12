use Rattle.std.proofs.Common.{◌∙◌, arith}
use Rattle.linear_codes.proofs.ItfLaws.{symbol14_some, symbol14_few}
use Rattle.linear_codes.proofs.itf14_symbol.symbol.Goals as goal

pub row_of_widths-requires-clause-some : goal.row_of_widths-requires-clause-some
row_of_widths-requires-clause-some c = let whole = c.deref-2.ensures.value ∙ c.in_ok-widths.ensures in rw whole (symbol14_some c.deref.result.now)

pub row_of_widths-requires-clause-few : goal.row_of_widths-requires-clause-few
row_of_widths-requires-clause-few c =
    let whole = c.deref-2.ensures.value ∙ c.in_ok-widths.ensures in rw whole (symbol14_few c.deref.result.now (omega (arith, c.deref.ensures.len, c.in_ok-push.ensures.len, c.in_ok-digits.ensures.len)))
