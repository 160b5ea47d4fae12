-- What is kept for places, when one more is written.
use Rattle.std.proofs.Common.{◌≡◌, ℕ, ◌<◌, List, length, set, refl, ap}
use Rattle.std.proofs.lemmas.List.{get_or-set_same, get_or-set_other}
use Rattle.aztec_modes.specs.declared.mode.Mode.{Mode}
use Rattle.aztec_modes.specs.declared.mode.Mode.TheVariants.{Upper, Lower, Mixed, Punct, Digit}
use Rattle.aztec_best.specs.declared.costs.Costs.{Costs}
use Rattle.aztec_best.specs.Bench.{mode_cost, no_costs, kept_cost, kept_bytes}

pub mode_cost-none : (m : Mode) → mode_cost no_costs m ≡ 0
unfolding mode_cost
mode_cost-none Upper = refl
mode_cost-none Lower = refl
mode_cost-none Mixed = refl
mode_cost-none Punct = refl
mode_cost-none Digit = refl

pub kept_cost-set : (table : List Costs) (place : ℕ) (new : Costs) (m : Mode) → place < length table → kept_cost (set table place new) place m ≡ mode_cost new m
unfolding kept_cost
kept_cost-set table place new m within = ap (λ (k : Costs). mode_cost k m) (get_or-set_same table place new no_costs within)

pub kept_cost-other : (table : List Costs) (place other : ℕ) (new : Costs) (m : Mode) → (other ≡ place → ⊥) → kept_cost (set table place new) other m ≡ kept_cost table other m
unfolding kept_cost
kept_cost-other table place other new m apart = ap (λ (k : Costs). mode_cost k m) (get_or-set_other table place other new no_costs apart)

pub kept_bytes-set : (table : List Costs) (place : ℕ) (new : Costs) → place < length table → kept_bytes (set table place new) place ≡ new.bytes
unfolding kept_bytes
kept_bytes-set table place new within = ap (λ (k : Costs). k.bytes) (get_or-set_same table place new no_costs within)

pub kept_bytes-other : (table : List Costs) (place other : ℕ) (new : Costs) → (other ≡ place → ⊥) → kept_bytes (set table place new) other ≡ kept_bytes table other
unfolding kept_bytes
kept_bytes-other table place other new apart = ap (λ (k : Costs). k.bytes) (get_or-set_other table place other new no_costs apart)
