use Rattle.zint_words.proofs.CommaValues.{parts_read}
use Rattle.zint_words.proofs.comma_values.parts_at_comma.Goals as goal

pub returns : goal.returns
returns c = parts_read c.args.text.now c.split_once.result c.split_once.ensures.cases
