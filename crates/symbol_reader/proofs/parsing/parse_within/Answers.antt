use Rattle.symbol_reader.proofs.PictureTexts.{no_picture_within, only_picture_within}
use Rattle.symbol_reader.proofs.parsing.parse_within.Goals as goal

pub returns-clause-only : goal.returns-clause-only
returns-clause-only c = only_picture_within c.args.most_wide c.args.most_rows c.args.bytes.now c.parsed.result c.parsed.ensures.picture

pub returns-clause-none : goal.returns-clause-none
returns-clause-none c = no_picture_within c.args.most_wide c.args.most_rows c.args.bytes.now c.parsed.result c.parsed.ensures.refused
