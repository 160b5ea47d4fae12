use Rattle.std.proofs.Common.{◌∙◌, ap, sym, ◌++◌, ◌∷◌, [], List, ℕ}
use Rattle.symbol_reader.proofs.Sights.{take_got}
use Rattle.symbol_reader.proofs.darkening.heights_of.Goals as goal

pub loop-y-preserved : goal.loop-y-preserved
loop-y-preserved c =
    c.in_ok-push.ensures.items ∙ ap (λ (hs : List ℕ). hs ++ c.height.result ∷ []) c.loop-y.invariant
    ∙ sym (take_got c.args.grid.now.heights c.loop-y.y c.height.result c.height.ensures.height)
