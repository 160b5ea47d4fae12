use Rattle.std.proofs.Common.{ap}
use Rattle.zint_settings.specs.Looks.{frame_paint}
use Rattle.zint_read.proofs.frames.seen_in.Goals as goal

pub see-requires-clause-paint : goal.see-requires-clause-paint
see-requires-clause-paint c = c.requires.frame c.in-Whole.paint (ap frame_paint c.in-Whole.is)

pub see-requires-in-Unknown-clause-paint : goal.see-requires-in-Unknown-clause-paint
see-requires-in-Unknown-clause-paint c = c.requires.frame c.in-Unknown.paint (ap frame_paint c.in-Unknown.is)
