-- Spellings with fewest bits, and the first of them in dictionary order. ISO/IEC 24778 leaves the choice among the codes that spell
-- a message to the encoder (Character encodation); this is the choice.
use Rattle.std.specs.Prelude.{◌≡◌, ◌⊎◌, ◌<◌, ◌≤◌, ℕ, Bool, List, ◌∷◌, length}
use Rattle.bar_base.specs.declared.element.Element.{Element}
use Rattle.aztec_modes.specs.declared.mode.Mode.{Mode}
use Rattle.aztec_modes.specs.declared.code.Code.{Code}
use Rattle.aztec_best.specs.Order.{IsBefore}
use Rattle.aztec_modes.specs.Spelling.{Spells, SpelledBy, IsSpelling}

-- Bits that precede others are shorter, or as long and the same, or as long and before them in dictionary order, 0 before 1.
abbrev pub Precedes : (former latter : List Bool) → Type 0
Precedes former latter = (length former < length latter) ⊎ ((length former ≡ length latter) × ((former ≡ latter) ⊎ IsBefore former latter))

-- `count` is the fewest bits of any spelling of the elements from a mode on: one has as many, and none has fewer.
pub record IsLeast (mode : Mode) (elements : List Element) (count : ℕ) : Type 0 where
  pub reached : (codes : List Code) × (bits : List Bool) × Spells mode codes bits elements × (length bits ≡ count)
  pub least : (bits : List Bool) → SpelledBy mode bits elements → count ≤ length bits

-- The spelling of elements from a mode on that precedes every other.
pub record IsFirst (mode : Mode) (elements : List Element) (codes : List Code) (bits : List Bool) : Type 0 where
  pub spells : Spells mode codes bits elements
  pub first : (others : List Bool) → SpelledBy mode others elements → Precedes bits others

-- `code` is the first code of the spelling that precedes every other.
abbrev pub BeginsFirst : (mode : Mode) (elements : List Element) (code : Code) → Type 0
BeginsFirst mode elements code = (codes : List Code) × (bits : List Bool) × IsFirst mode elements (code ∷ codes) bits

-- The drawn bits of a message: of all its spellings, in a structured append set or outside one, the one that precedes every other.
pub record IsDrawn (append : Bool) (elements : List Element) (bits : List Bool) : Type 0 where
  pub spelling : IsSpelling append elements bits
  pub first : (others : List Bool) → IsSpelling append elements others → Precedes bits others

-- No spelling of the message has fewer bits than `count`.
abbrev pub IsFewest : (append : Bool) (elements : List Element) (count : ℕ) → Type 0
IsFewest append elements count = (others : List Bool) → IsSpelling append elements others → count ≤ length others
