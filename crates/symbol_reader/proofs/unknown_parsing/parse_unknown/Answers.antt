use Rattle.symbol_reader.proofs.UnknownTexts.{no_unknown, only_unknown}
use Rattle.symbol_reader.proofs.unknown_parsing.parse_unknown.Goals as goal

pub returns-clause-only : goal.returns-clause-only
returns-clause-only c = only_unknown c.args.bytes.now c.parsed_unknown.result c.parsed_unknown.ensures.unknown

pub returns-clause-none : goal.returns-clause-none
returns-clause-none c = no_unknown c.args.bytes.now c.parsed_unknown.result c.parsed_unknown.ensures.refused
