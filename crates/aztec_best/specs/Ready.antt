-- What the search at a place rests on.
use Rattle.std.specs.Prelude.{◌≡◌, ◌<◌, ◌+◌, ℕ, List, length, drop, All}
use Rattle.bar_base.specs.Elements.{IsElement}
use Rattle.bar_base.specs.declared.element.Element.{Element}
use Rattle.aztec_best.specs.declared.front.Front.{Front}
use Rattle.aztec_best.specs.declared.costs.Costs.{Costs}
use Rattle.aztec_best.specs.Bench.{IsFilledFrom}
use Rattle.aztec_best.specs.Front.{front_of}

-- The place is one of the elements, what stands there is known, and so are the fewest bits of every later rest.
pub record IsReady (table : List Costs) (elements : List Element) (place : ℕ) (front : Front) : Type 0 where
  pub filled : IsFilledFrom table elements (place + 1)
  pub within : place < length elements
  pub fronts : front ≡ front_of (drop place elements)
  pub valid : All IsElement elements
