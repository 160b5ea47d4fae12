-- The first of the codes that begin a spelling with fewest bits.
use Rattle.std.specs.Prelude.{◌≡◌, ◌<◌, ◌≤◌, ℕ, List, ◌+◌, ◌*◌, ◌==◌, Option, Some, None, drop, if◌then◌else◌}
use Rattle.bar_base.specs.declared.element.Element.{Element}
use Rattle.bar_base.specs.declared.element.Element.TheVariants as element
use Rattle.aztec_modes.specs.declared.mode.Mode.{Mode}
use Rattle.aztec_modes.specs.declared.code.Code.{Code}
use Rattle.aztec_modes.specs.declared.code.Code.TheVariants.{Plain, Shift, Fnc1, Eci}
use Rattle.aztec_modes.specs.Entry.{SpellsFront, code_count, code_length, code_next}
use Rattle.aztec_best.specs.declared.costs.Costs.{Costs}
use Rattle.aztec_best.specs.Bench.{kept_cost}
use Rattle.aztec_best.specs.Numbers.{fewest_digits}
use Rattle.aztec_best.specs.Order.{code_rank}

-- The bits of a code at a place and of the cheapest rest after it.
unfoldable pub cost_through : List Costs → (place : ℕ) → Mode → Code → ℕ
cost_through table place mode code = code_length mode code + kept_cost table (place + code_count mode code) (code_next mode code)

-- A code that spells the front of the elements from a place on and begins a spelling of them with fewest bits.
pub record IsCheapest (table : List Costs) (elements : List Element) (place : ℕ) (mode : Mode) (code : Code) : Type 0 where
  pub front : SpellsFront mode code (drop place elements)
  pub fewest : cost_through table place mode code ≡ kept_cost table place mode

-- Of the cheapest codes of a kind this one is the first.
pub record IsFirstCode (table : List Costs) (elements : List Element) (place : ℕ) (mode : Mode) (Kind : Code → Type 0) (code : Code) : Type 0 where
  pub cheapest : IsCheapest table elements place mode code
  pub kind : Kind code
  pub first : (other : Code) → IsCheapest table elements place mode other → Kind other → code_rank mode code ≤ code_rank mode other

-- The first of the cheapest codes of a kind, none where there is none.
abbrev pub IsFirstOfKind : List Costs → List Element → (place : ℕ) → Mode → (Kind : Code → Type 0) → Option Code → Type 0
IsFirstOfKind table elements place mode Kind None = (other : Code) → IsCheapest table elements place mode other → Kind other → ⊥
IsFirstOfKind table elements place mode Kind (Some code) = IsFirstCode table elements place mode Kind code

-- Codes with a rank from `low` on and before `high`.
abbrev pub HasRank : Mode → (low high : ℕ) → Code → Type 0
HasRank mode low high code = (low ≤ code_rank mode code) × (code_rank mode code < high)

-- The data code of a number, behind a shift where one is given.
abbrev pub numbered : Option Mode → (number : ℕ) → Code
numbered None number = Plain number
numbered (Some to) number = Shift to number

-- The same, none for the number 0.
unfoldable pub data_code : Option Mode → (number : ℕ) → Option Code
data_code shift number = if number == 0 then None else Some (numbered shift number)

-- Data codes, behind a shift where one is given.
abbrev pub IsDataCode : Option Mode → Code → Type 0
IsDataCode shift code = (number : ℕ) × (code ≡ numbered shift number)

-- FLG(n) for FNC1 or for an ECI with as few digits as it has.
unfoldable pub flag_code : Option Element → Option Code
flag_code None = None
flag_code (Some (element.Byte byte)) = None
flag_code (Some (element.Eci number)) = Some (Eci number (fewest_digits number))
flag_code (Some element.Fnc1) = Some Fnc1

-- The first of all cheapest codes. Each code begins with a number below 32.
abbrev pub IsFirstCheapest : List Costs → List Element → (place : ℕ) → Mode → Code → Type 0
IsFirstCheapest table elements place mode code = IsFirstCode table elements place mode (HasRank mode 0 (32 * 4096)) code
