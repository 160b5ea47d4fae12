use Rattle.std.proofs.Common.{◌∙◌, length, ap, arith}
use Rattle.code128_best.proofs.SymbolLaws.{symbol_some, symbol_few}
use Rattle.code128_best.proofs.symbol.modules.Goals as goal

pub row_of_widths-requires-clause-some : goal.row_of_widths-requires-clause-some
row_of_widths-requires-clause-some c = let whole = c.deref.ensures.value ∙ c.in_ok-widths.ensures in rw whole (symbol_some c.as_slice.result.now)

pub row_of_widths-requires-clause-few : goal.row_of_widths-requires-clause-few
row_of_widths-requires-clause-few c =
    let whole = c.deref.ensures.value ∙ c.in_ok-widths.ensures in
    rw whole (symbol_few c.as_slice.result.now (omega (arith, ap length c.as_slice.ensures.values, c.as_slice.ensures.few)))
