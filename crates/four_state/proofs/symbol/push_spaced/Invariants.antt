use Rattle.std.proofs.Common.{◌≡◌, ◌++◌, ◌∷◌, [], false, take}
use Rattle.std.specs.List.{flat_map}
use Rattle.four_state.proofs.symbol.push_spaced.Given as goal

abbrev pub invariant-loop-bar : goal.invariant-loop-bar
invariant-loop-bar l = l.modules.items ≡ l.initial.modules.items ++ flat_map (λ bar. false ∷ bar ∷ []) (take l.bar-index l.bar-items)
