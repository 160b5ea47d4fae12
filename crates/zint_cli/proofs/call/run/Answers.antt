use Rattle.std.proofs.Common.{refl}
use Rattle.zint_cli.proofs.Serving.{not_asked}
use Rattle.zint_cli.proofs.call.run.Goals as goal

pub returns-in-Err : goal.returns-in-Err
returns-in-Err g c = not_asked _ c.in-Err.fault c.in-Err.ensures c.tell.ensures.status c.tell.ensures.refused c.tell.ensures.line refl refl refl
