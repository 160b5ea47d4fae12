use Rattle.std.proofs.Common.{List, Ok, subst, ℕ}
use Rattle.bar_base.specs.Steps.{only}
use Rattle.zint_settings.specs.Settings.{drawing_in}
use Rattle.zint_draw.specs.Data.{not_empty}
use Rattle.zint_draw.proofs.Drawn.{drawn_of_content}
use Rattle.zint_draw.proofs.drawing.drawn.Goals as goal

pub returns : goal.returns
returns c =
    drawn_of_content (drawing_in c.args.settings.now) c.args.raw.items c.in_ok-whole.whole.items c.in_ok-data.data.items c.in_ok-bytes.bytes.now c.draw_as.result
    c.in_ok-whole.ensures.given c.in_ok-data.ensures
    (subst (λ (bytes : List ℕ). only (not_empty bytes) (Ok c.in_ok-bytes.bytes.now)) c.deref.ensures.value c.in_ok-bytes.ensures.given)
    c.draw_as.ensures
