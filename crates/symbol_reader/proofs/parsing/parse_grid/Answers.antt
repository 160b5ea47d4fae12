use Rattle.symbol_reader.proofs.PictureTexts.{its_picture}
use Rattle.symbol_reader.proofs.parsing.parse_grid.Goals as goal

pub returns-clause-text : goal.returns-clause-text
returns-clause-text c = its_picture c.args.bytes.now c.parse_within.result c.parse_within.ensures.picture c.parse_within.ensures.refused
