-- The elements of a message, and its spellings (ISO/IEC 24778, Structured append, FNC1 and ECI).
use Rattle.std.specs.Prelude.{ℕ, Bool, true, false, List, [], ◌∷◌, ◌++◌, ◌+◌, ◌≤◌, IfSome, Option, Some, None, is_some}
use Rattle.bar_base.specs.declared.element.Element.{Element}
use Rattle.bar_base.specs.declared.element.Element.TheVariants.{Fnc1, Eci}
use Rattle.bar_base.specs.declared.message.Append.{Append}
use Rattle.bar_base.specs.declared.message.Message.{Message}
use Rattle.aztec_modes.specs.Entry.{bytes_as_elements}
use Rattle.aztec_modes.specs.Spelling.{IsSpelling}

-- The place of a symbol in a set: one of 2 to 26 symbols.
pub record IsAppendPlace (append : Append) : Type 0 where
  pub from_one : 1 ≤ append.index
  pub to_count : append.index ≤ append.count
  pub some : 2 ≤ append.count
  pub letters : append.count ≤ 26

-- A message that has elements: its place is one of a set, and its ECI has at most six digits.
pub record IsMessage (message : Message) : Type 0 where
  pub place : IfSome message.append IsAppendPlace
  pub eci : IfSome message.eci (λ number. number ≤ 999999)

-- The identifier of a set between two spaces, or nothing where it is empty.
unfoldable pub identifier_bytes : List ℕ → List ℕ
identifier_bytes [] = []
identifier_bytes (byte ∷ bytes) = 32 ∷ (byte ∷ bytes) ++ 32 ∷ []

-- The header of a symbol of a set: the identifier, and the letters of its place and of the number of symbols, A for 1 to Z for 26.
unfoldable pub header_bytes : Append → List ℕ
header_bytes append = identifier_bytes append.id ++ (64 + append.index) ∷ (64 + append.count) ∷ []

-- The header as elements, in a set only.
unfoldable pub header_elements : Option Append → List Element
header_elements None = []
header_elements (Some append) = bytes_as_elements (header_bytes append)

-- FNC1, in GS1 data only.
unfoldable pub gs1_elements : Bool → List Element
gs1_elements true = Fnc1 ∷ []
gs1_elements false = []

-- The ECI, where there is one.
unfoldable pub eci_elements : Option ℕ → List Element
eci_elements None = []
eci_elements (Some number) = Eci number ∷ []

-- The header, FNC1 in GS1 data, the ECI if there is one, and the body.
unfoldable pub message_elements : Message → List Element
message_elements message = header_elements message.append ++ (gs1_elements message.gs1 ++ (eci_elements message.eci ++ message.body))

-- A spelling of a message.
abbrev pub SpellsMessage : Message → List Bool → Type 0
SpellsMessage message bits = IsSpelling (is_some message.append) (message_elements message) bits
