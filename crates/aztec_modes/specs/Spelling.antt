-- What spells what (ISO/IEC 24778, Character encodation and Structured append).
use Rattle.std.specs.Prelude.{◌≡◌, Bool, true, false, List, [], ◌∷◌, ◌++◌}
use Rattle.bar_base.specs.declared.element.Element.{Element}
use Rattle.aztec_modes.specs.declared.mode.Mode.{Mode}
use Rattle.aztec_modes.specs.declared.mode.Mode.TheVariants.{Upper}
use Rattle.aztec_modes.specs.declared.code.Code.{Code}
use Rattle.aztec_modes.specs.Entry.{Entry}

-- `Spells mode codes bits elements`: from `mode` on, the codes have these bits and spell these elements.
pub data Spells : Mode → List Code → List Bool → List Element → Type 0 where
  nothing : {mode : Mode} → Spells mode [] [] []
  onward : {mode next : Mode} {code : Code} {codes : List Code} {bits rest : List Bool} {spelled elements : List Element}
      → Entry mode code bits spelled next → Spells next codes rest elements
      → Spells mode (code ∷ codes) (bits ++ rest) (spelled ++ elements)

-- Bits that spell elements from a mode on, by some codes.
abbrev pub SpelledBy : (mode : Mode) (bits : List Bool) (elements : List Element) → Type 0
SpelledBy mode bits elements = (codes : List Code) × Spells mode codes bits elements

-- Codes that spell elements from a mode on, with some bits.
abbrev pub IsPathOf : (mode : Mode) (codes : List Code) (elements : List Element) → Type 0
IsPathOf mode codes elements = (bits : List Bool) × Spells mode codes bits elements

-- M/L and U/L, the ten bits with which each symbol of a structured append set begins.
unfoldable pub append_mark : List Bool
append_mark = true ∷ true ∷ true ∷ false ∷ true ∷ true ∷ true ∷ true ∷ false ∷ true ∷ []

-- Bits that begin with the mark.
abbrev pub IsMarked : List Bool → Type 0
IsMarked bits = (rest : List Bool) × (bits ≡ append_mark ++ rest)

-- A spelling of the elements of a message. In a set it is the mark and then a spelling from Upper mode; outside a set it is a
-- spelling from Upper mode that doesn't begin with the mark.
abbrev pub IsSpelling : (append : Bool) (elements : List Element) (bits : List Bool) → Type 0
IsSpelling false elements bits = SpelledBy Upper bits elements × (IsMarked bits → ⊥)
IsSpelling true elements bits = (rest : List Bool) × (bits ≡ append_mark ++ rest) × SpelledBy Upper rest elements
