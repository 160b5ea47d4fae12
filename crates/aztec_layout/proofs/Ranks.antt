-- The ranks 0 to 35 number the sizes in their order.
use Rattle.std.proofs.Common.{ℕ, ◌≤◌}
use Rattle.aztec_layout.specs.declared.sizes.Size.{Size}
use Rattle.aztec_layout.specs.declared.allowed.Allowed.{Allowed}
use Rattle.aztec_layout.specs.declared.fitting.Needs.{Needs}
use Rattle.aztec_layout.specs.Allowed.{IsAllowed}
use Rattle.aztec_layout.specs.Smallest.{HoldsNeeds, rank_of}

-- no size of a lower rank than this is allowed and holds the data
abbrev pub NoneBelow : Needs → Allowed → ℕ → Type 0
NoneBelow needs allowed rank = (t : Size) → IsAllowed allowed t → HoldsNeeds needs allowed t → rank ≤ rank_of t
