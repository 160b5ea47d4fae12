-- The value that is taken next, and the start.
use Rattle.std.specs.Prelude.{◌≡◌, ◌<◌, ◌≤◌, ◌+◌, ℕ, List, ◌∷◌, ◌++◌, length, drop, All, Some}
use Rattle.bar_base.specs.declared.element.Element.{Element}
use Rattle.code128_best.specs.declared.state.State.{State}
use Rattle.code128_best.specs.declared.stepping.Stand.{Stand}
use Rattle.code128_best.specs.Spelling.{AreFirstValues, state_after_start}
use Rattle.code128_best.specs.Steps.{values_through, kept_values, beginning}

-- The least value through which the cost is the least.
pub record IsPick (table : List ℕ) (elements : List Element) (at : Stand) (value : ℕ) : Type 0 where
  pub below : value < 103
  pub cheapest : values_through table elements at value ≡ kept_values table at
  pub earlier : (other : ℕ) → other < value → values_through table elements at other ≡ kept_values table at → ⊥

-- The least start value of those with the least cost.
pub record IsBestStart (table : List ℕ) (start : ℕ) (state : State) : Type 0 where
  pub is : state_after_start start ≡ Some state
  pub least : (other : ℕ) (others : State) → state_after_start other ≡ Some others → kept_values table (beginning state) ≤ kept_values table (beginning others)
  pub earlier : (other : ℕ) (others : State) → other < start → state_after_start other ≡ Some others → kept_values table (beginning state) < kept_values table (beginning others)

-- The start and the values so far lead to a stand, and with the first values of the rest they are the first of the whole.
pub record IsOnWay (table : List ℕ) (elements : List Element) (start : ℕ) (state : State) (values : List ℕ) (at : Stand) : Type 0 where
  pub within : at.place ≤ length elements
  pub known : kept_values table at < 1000
  pub path : List ℕ
  pub is : values ≡ start ∷ path
  pub counted : length path + kept_values table at ≡ kept_values table (beginning state)
  pub small : All (λ value. value ≤ 105) values
  pub first : (rest : List ℕ) → AreFirstValues at.state (drop at.place elements) rest → AreFirstValues state elements (path ++ rest)

-- The start and the first values from its state on.
pub record AreWholeValues (table : List ℕ) (elements : List Element) (start : ℕ) (state : State) (values : List ℕ) : Type 0 where
  pub path : List ℕ
  pub is : values ≡ start ∷ path
  pub counted : length path ≡ kept_values table (beginning state)
  pub small : All (λ value. value ≤ 105) values
  pub first : AreFirstValues state elements path
