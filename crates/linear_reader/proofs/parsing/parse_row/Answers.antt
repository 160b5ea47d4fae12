use Rattle.linear_reader.proofs.RowTexts.{its_row, none_row, only_row, rows_one}
use Rattle.linear_reader.proofs.parsing.parse_row.Goals as goal

pub returns-clause-one : goal.returns-clause-one
returns-clause-one c = rows_one c.args.bytes.now c.parsed.result c.parsed.ensures.row

pub returns-clause-only : goal.returns-clause-only
returns-clause-only c = only_row c.args.bytes.now c.parsed.result c.parsed.ensures.row

pub returns-clause-none : goal.returns-clause-none
returns-clause-none c = none_row c.args.bytes.now c.parsed.result c.parsed.ensures.refused

pub returns-clause-text : goal.returns-clause-text
returns-clause-text c = its_row c.args.bytes.now c.parsed.result c.parsed.ensures.row c.parsed.ensures.refused
