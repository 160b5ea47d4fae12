-- What spells what (ISO/IEC 15417).
use Rattle.std.specs.Prelude.{◌≡◌, ◌⊎◌, ◌<◌, ℕ, true, false, List, [], ◌∷◌, ◌++◌, ◌==◌, length, Option, Some, None, if◌then◌else◌}
use Rattle.bar_base.specs.declared.element.Element.{Element}
use Rattle.bar_base.specs.declared.element.Element.TheVariants as element
use Rattle.code128_best.specs.declared.state.CodeSet.{CodeSet}
use Rattle.code128_best.specs.declared.state.CodeSet.TheVariants.{A, B, C}
use Rattle.code128_best.specs.declared.state.State.{State}
use Rattle.code128_best.specs.Values.{is_free}
use Rattle.code128_best.specs.Rules.{Acts}

-- `ValuesSpell state values elements`: read from the state on, the values spell the elements. At the end nothing is pending.
pub data ValuesSpell : State → List ℕ → List Element → Type 0 where
  ended : {state : State} → is_free state ≡ true → ValuesSpell state [] []
  onward : {state next : State} {value : ℕ} {values : List ℕ} {spelled elements : List Element} → Acts state value next spelled → ValuesSpell next values elements
      → ValuesSpell state (value ∷ values) (spelled ++ elements)

-- A state with nothing on.
unfoldable pub plain : CodeSet → State
plain set = record { set = set; latch = false; fnc4 = false; shift = false }

-- The state after a start value: 103, 104 and 105 begin in sets A, B and C.
unfoldable pub state_after_start : (start : ℕ) → Option State
state_after_start start =
    if start == 103 then Some (plain A) else if start == 104 then Some (plain B) else if start == 105 then Some (plain C) else None

-- A start value, and values that spell the elements from its state on.
pub data SymbolSpells : List ℕ → List Element → Type 0 where
  begun : {start : ℕ} {state : State} {values : List ℕ} {elements : List Element} → state_after_start start ≡ Some state → ValuesSpell state values elements
      → SymbolSpells (start ∷ values) elements

-- Dictionary order: at the first place where they differ, the former has the lesser value.
pub data ValuesBefore : List ℕ → List ℕ → Type 0 where
  differ : {a b : ℕ} {former latter : List ℕ} → a < b → ValuesBefore (a ∷ former) (b ∷ latter)
  same : {value : ℕ} {former latter : List ℕ} → ValuesBefore former latter → ValuesBefore (value ∷ former) (value ∷ latter)

-- Values that precede others are fewer, or as many and the same, or as many and before them in dictionary order.
abbrev pub ValuesPrecede : (former latter : List ℕ) → Type 0
ValuesPrecede former latter = (length former < length latter) ⊎ ((length former ≡ length latter) × ((former ≡ latter) ⊎ ValuesBefore former latter))

-- The drawn values: of all spellings the one that precedes every other.
pub record AreDrawnValues (elements : List Element) (values : List ℕ) : Type 0 where
  pub spelling : SymbolSpells values elements
  pub first : (others : List ℕ) → SymbolSpells others elements → ValuesPrecede values others

-- The same from a state on.
pub record AreFirstValues (state : State) (elements : List Element) (values : List ℕ) : Type 0 where
  pub spells : ValuesSpell state values elements
  pub first : (others : List ℕ) → ValuesSpell state others elements → ValuesPrecede values others

-- Code 128 spells bytes and FNC1.
abbrev pub IsCode128Element : Element → Type 0
IsCode128Element (element.Byte byte) = Unit {0}
IsCode128Element (element.Eci number) = ⊥
IsCode128Element element.Fnc1 = Unit {0}
