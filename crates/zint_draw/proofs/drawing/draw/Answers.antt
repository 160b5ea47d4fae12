use Rattle.zint_settings.specs.Settings.{drawing_in}
use Rattle.zint_draw.proofs.Heights.{answer_low}
use Rattle.zint_draw.proofs.drawing.draw.Goals as goal

pub returns-clause-low : goal.returns-clause-low
returns-clause-low c = answer_low (drawing_in c.args.settings.now) c.args.raw.items c.drawn.result c.drawn.ensures
