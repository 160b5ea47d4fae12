use Rattle.std.proofs.Common.{◌∙◌}
use Rattle.linear_codes.proofs.TableFacts.{symbol93_some, symbol93_few}
use Rattle.linear_codes.proofs.code93_symbol.picture.Goals as goal

pub row_of_widths-requires-clause-some : goal.row_of_widths-requires-clause-some
row_of_widths-requires-clause-some c = let whole = c.deref.ensures.value ∙ c.in_ok-widths.ensures in rw whole (symbol93_some c.args.values.now)

pub row_of_widths-requires-clause-few : goal.row_of_widths-requires-clause-few
row_of_widths-requires-clause-few c = let whole = c.deref.ensures.value ∙ c.in_ok-widths.ensures in rw whole (symbol93_few c.args.values.now c.requires.few)
