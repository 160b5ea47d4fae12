-- The codes of drawn bits.
use Rattle.std.specs.Prelude.{◌≡◌, Bool, true, false, List, [], ◌∷◌, ◌++◌}
use Rattle.bar_base.specs.declared.element.Element.{Element}
use Rattle.aztec_modes.specs.declared.mode.Mode.TheVariants.{Upper, Mixed}
use Rattle.aztec_modes.specs.declared.code.Code.{Code}
use Rattle.aztec_modes.specs.declared.code.Code.TheVariants.{Latch}
use Rattle.aztec_modes.specs.Spelling.{append_mark}
use Rattle.aztec_best.specs.Shortest.{IsFirst}

-- The codes before those of the elements: M/L and U/L in a structured append set (ISO/IEC 24778, Structured append), none outside one.
unfoldable pub mark_codes : Bool → List Code
mark_codes true = Latch Mixed ∷ Latch Upper ∷ []
mark_codes false = []

-- A path that has those codes, and then the codes of the spelling of the elements that precedes every other.
abbrev pub IsDrawnPath : (append : Bool) (elements : List Element) (path : List Code) → Type 0
IsDrawnPath append elements path = (codes : List Code) × (bits : List Bool) × (path ≡ mark_codes append ++ codes) × IsFirst Upper elements codes bits

-- The bits before those of the elements: M/L and U/L in a structured append set, none outside one.
unfoldable pub mark_bits : Bool → List Bool
mark_bits true = append_mark
mark_bits false = []
