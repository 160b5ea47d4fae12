-- The table of costs.
use Rattle.std.specs.Prelude.{◌≡◌, ◌⊎◌, ◌<◌, ◌≤◌, ◌+◌, ◌*◌, ℕ, true, List, length, drop, slice_index, None}
use Rattle.bar_base.specs.declared.element.Element.{Element}
use Rattle.code128_best.specs.declared.stepping.Stand.{Stand}
use Rattle.code128_best.specs.Spelling.{ValuesSpell}
use Rattle.code128_best.specs.Own.{own_of}
use Rattle.code128_best.specs.Steps.{is_end, stand_of, kept_values, values_through, value_step}

-- A cost is the number of values of some spelling of the rest, or there is none yet.
abbrev pub IsReached : List Element → Stand → (cost : ℕ) → Type 0
IsReached elements at cost = (cost ≡ 1000) ⊎ ((values : List ℕ) × ValuesSpell at.state values (drop at.place elements) × (length values ≡ cost))

-- The cost through the only value that can spell characters or digits.
abbrev pub own_cost : List ℕ → List Element → Stand → ℕ
own_cost table elements at = values_through table elements at (own_of elements at)

-- A table of costs of some spellings, for each place and state.
pub record IsTable (table : List ℕ) (elements : List Element) : Type 0 where
  pub room : length table ≡ 24 * (length elements + 1)
  pub small : (index : ℕ) → slice_index table index ≤ 1000
  pub reached : (index : ℕ) → index < length table → IsReached elements (stand_of index) (slice_index table index)

-- The least cost through a value below a bound, or at the end.
pub record IsBest (table : List ℕ) (elements : List Element) (at : Stand) (bound best : ℕ) : Type 0 where
  pub small : best ≤ 1000
  pub ended : is_end elements at ≡ true → best ≡ 0
  pub few : (value : ℕ) → value < bound → best ≤ values_through table elements at value
  pub reached : (best ≡ 1000) ⊎ ((is_end elements at ≡ true) × (best ≡ 0)) ⊎ ((value : ℕ) × (value < bound) × (best ≡ values_through table elements at value))

-- The cost at an index is no higher than through any value.
pub record IsStableAt (table : List ℕ) (elements : List Element) (index : ℕ) : Type 0 where
  pub ended : is_end elements (stand_of index) ≡ true → slice_index table index ≡ 0
  pub few : (value : ℕ) → value < 103 → slice_index table index ≤ values_through table elements (stand_of index) value

-- The cost at a stand is no higher than through any value.
pub record IsStable (table : List ℕ) (elements : List Element) (at : Stand) : Type 0 where
  pub ended : is_end elements at ≡ true → kept_values table at ≡ 0
  pub few : (value : ℕ) → value < 103 → kept_values table at ≤ values_through table elements at value

-- No cost is higher than through any value, and each is that of some spelling.
pub record IsSettled (table : List ℕ) (elements : List Element) : Type 0 where
  pub is_table : IsTable table elements
  pub ended : (at : Stand) → at.place ≤ length elements → is_end elements at ≡ true → kept_values table at ≡ 0
  pub few : (at : Stand) (value : ℕ) → at.place ≤ length elements → value < 103 → kept_values table at ≤ values_through table elements at value
  pub reached : (at : Stand) → at.place ≤ length elements → IsReached elements at (kept_values table at)

-- The only value that can spell characters or digits at a stand; every other that leads on is from 98 on, and after it.
pub record IsOwn (elements : List Element) (at : Stand) (own : ℕ) : Type 0 where
  pub below : own < 100
  pub only : (value : ℕ) → value < 103 → (value ≡ own) ⊎ (value_step elements at value ≡ None) ⊎ ((98 ≤ value) × (own < value))
