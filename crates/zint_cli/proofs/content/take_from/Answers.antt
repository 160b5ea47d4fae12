use Rattle.std.proofs.Common.{ap, Err, subst, sym}
use Rattle.zint_cli.specs.inner.Stopped.{IsUntaken}
use Rattle.zint_cli.proofs.ContentLemmas.{content_long}
use Rattle.zint_cli.proofs.content.take_from.Goals as goal

pub returns-in-Err-TooLong-clause-refused : goal.returns-in-Err-TooLong-clause-refused
returns-in-Err-TooLong-clause-refused g c =
    let long = content_long c.args.picture_limit _ _ c.in-Err-TooLong.limit (c.in-Err-TooLong.ensures.too_long c.in-Err-TooLong.limit (ap Err c.in-Err-TooLong.field-0-is)) in
    subst (IsUntaken c.args.picture_limit _ _) (sym c.too_long.ensures) long
