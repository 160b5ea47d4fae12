use Rattle.std.proofs.Common.{◌∙◌, ap}
use Rattle.std.specs.Result.{result_ok}
use Rattle.zint_words.proofs.Numbers.{whole_number_read}
use Rattle.zint_words.proofs.values.digits_number.Goals as goal

pub returns : goal.returns
returns c = c.ok.ensures.value ∙ ap result_ok (whole_number_read c.args.text.now _ c.parse.ensures.value.0 c.requires)
