-- From data to the message of a symbol: GS1 element strings, bytes, or text in a character set.
use Rattle.std.specs.Prelude.{◌≡◌, ◌<◌, ◌==◌, ℕ, Bool, true, false, List, length, Option, Some, None, Result, Ok, Err, IfSome, nat_lt, unwrap_or, if◌then◌else◌}
use Rattle.std.specs.Str.{chars}
use Rattle.std.specs.Str.Lossy.{utf8_valid_len}
use Rattle.bar_base.specs.declared.element.Element.{Element}
use Rattle.bar_base.specs.declared.message.Message.{Message}
use Rattle.aztec_modes.specs.Entry.{bytes_as_elements}
use Rattle.aztec_modes.specs.Message.{IsMessage, message_elements}
use Rattle.eci_sets.specs.CharacterSets.{set_numbered}
use Rattle.eci_sets.specs.Encodings.{chosen_eci, text_encoding}
use Rattle.eci_sets.specs.declared.fault.SetFault.TheVariants.{NoCharacter}
use Rattle.gs1_check.specs.ElementStrings.{brackets_of, text_body}
use Rattle.gs1_check.specs.declared.fault.Gs1Fault.{Gs1Fault}
use Rattle.gs1_check.specs.declared.fault.Gs1Fault.TheVariants as gs1_variants
use Rattle.bar_base.specs.Steps.{Step, ◌>>=◌, only}
use Rattle.zint_answers.specs.Steps.{answered}
use Rattle.zint_answers.specs.declared.detail.Kind.TheVariants.{Text, Character, Bracket, Identifier, Length, Date}
use Rattle.zint_answers.specs.declared.fault.Fault.{Fault}
use Rattle.zint_answers.specs.declared.fault.Fault.TheVariants.{NoMemory, Refused}
use Rattle.zint_answers.specs.declared.refusal.Refusal.{Refusal}
use Rattle.zint_answers.specs.declared.refusal.Refusal.TheVariants.{BadCheck, BadData}
use Rattle.zint_settings.specs.CharacterSets.{is_character_set}
use Rattle.zint_settings.specs.declared.drawing_options.DrawingOptions.{DrawingOptions}
use Rattle.zint_settings.specs.declared.drawing_options.Gs1Brackets.{Gs1Brackets}
use Rattle.zint_settings.specs.declared.drawing_options.Gs1Brackets.TheVariants.{Round, Square}
use Rattle.zint_draw.specs.declared.message.DataKind.{DataKind}
use Rattle.zint_draw.specs.declared.message.DataKind.TheVariants as kind

-- What the data is: GS1 element strings where their brackets are asked for, else bytes or text.
abbrev pub kind_by : Option Gs1Brackets → (binary : Bool) → (eci : Option ℕ) → DataKind
kind_by (Some Round) binary eci = kind.Gs1 true
kind_by (Some Square) binary eci = kind.Gs1 false
kind_by None binary eci = if binary then kind.Bytes eci else kind.Text eci

-- What the data is, by the options of the drawing.
abbrev pub data_kind : DrawingOptions → DataKind
data_kind options = kind_by options.gs1 options.binary options.eci

-- An ECI that is named is that of a character set.
abbrev pub IsKnownEci : Option ℕ → Type 0
IsKnownEci eci = IfSome eci (λ number. is_character_set number ≡ true)

-- An ECI that is named with the data is that of a character set.
abbrev pub IsDataKind : DataKind → Type 0
IsDataKind (kind.Gs1 parens) = Unit {0}
IsDataKind (kind.Bytes eci) = IsKnownEci eci
IsDataKind (kind.Text eci) = IsKnownEci eci
IsDataKind kind.Latin1 = Unit {0}

-- No ECI is written.
abbrev pub WritesNoEci : DataKind → Type 0
WritesNoEci (kind.Gs1 parens) = Unit {0}
WritesNoEci (kind.Bytes eci) = eci ≡ None
WritesNoEci (kind.Text eci) = ⊥
WritesNoEci kind.Latin1 = Unit {0}

-- A message outside every structured append set.
abbrev pub message_with : (gs1 : Bool) (eci : Option ℕ) (body : List Element) → Message
message_with gs1 eci body = record { append = None; gs1 = gs1; eci = eci; body = body }

-- A message that has at least one element.
abbrev pub CanBeDrawn : Message → Type 0
CanBeDrawn message = IsMessage message × (0 < length (message_elements message))

-- What a fault of element strings is here (GS1 General Specifications, element strings).
abbrev pub gs1_fault : Gs1Fault → Fault
gs1_fault gs1_variants.NoMemory = NoMemory
gs1_fault (gs1_variants.BadBracket place) = Refused (BadData Bracket place)
gs1_fault (gs1_variants.UnknownIdentifier place) = Refused (BadData Identifier place)
gs1_fault (gs1_variants.BadLength place) = Refused (BadData Length place)
gs1_fault (gs1_variants.BadCharacter place) = Refused (BadData Character place)
gs1_fault (gs1_variants.BadDate place) = Refused (BadData Date place)
gs1_fault (gs1_variants.BadCheck place given wanted) = Refused (BadCheck given place wanted)

-- The message of GS1 element strings: FNC1, and their body.
unfoldable pub gs1_message : (parens : Bool) (bytes : List ℕ) → Step Message Refusal
gs1_message parens bytes = do
  body ← answered gs1_fault (text_body (brackets_of parens) bytes)
  only (Ok (message_with true None body))

-- bytes that are whole characters of UTF-8 (ISO/IEC 10646), or the place of the first byte that begins no whole one
unfoldable pub whole_text : (bytes : List ℕ) → Result (List ℕ) Refusal
whole_text bytes =
    if nat_lt (utf8_valid_len bytes) (length bytes) then Err (BadData Text (utf8_valid_len bytes)) else Ok bytes

-- The number of the set in which a text is encoded: the one that is named, or else the first that has every character.
abbrev pub set_for : Option ℕ → (text : List ℕ) → ℕ
set_for eci text = unwrap_or eci (chosen_eci (chars text))

-- the ECI that is written for a chosen set: 3, in which symbols without an ECI are read, needs none
abbrev pub unless_three : ℕ → Option ℕ
unless_three chosen = if chosen == 3 then None else Some chosen

-- The ECI that is written: the one that is named, or that of the chosen set.
abbrev pub written_eci : Option ℕ → (text : List ℕ) → Option ℕ
written_eci (Some eci) text = Some eci
written_eci None text = unless_three (chosen_eci (chars text))

-- The bytes of a text in the set of a number, or the place of the first character that the set lacks.
abbrev pub encoded_in : (eci : ℕ) → (text : List ℕ) → Step (List ℕ) Refusal
encoded_in eci text (Ok bytes) = text_encoding (set_numbered eci) (chars text) ≡ Ok bytes
encoded_in eci text (Err refusal) = (place : ℕ)
    × (text_encoding (set_numbered eci) (chars text) ≡ Err (NoCharacter place)) × (refusal ≡ BadData Character place)

-- The message of text: its bytes in the set.
unfoldable pub text_message : (eci : Option ℕ) (bytes : List ℕ) → Step Message Refusal
text_message eci bytes = do
  text ← only (whole_text bytes)
  encoded ← encoded_in (set_for eci text) text
  only (Ok (message_with false (written_eci eci text) (bytes_as_elements encoded)))

-- The message of text in ISO/IEC 8859-1, whose ECI is not written.
unfoldable pub latin1_message : (bytes : List ℕ) → Step Message Refusal
latin1_message bytes = do
  text ← only (whole_text bytes)
  encoded ← encoded_in 3 text
  only (Ok (message_with false None (bytes_as_elements encoded)))

-- The message of data.
unfoldable pub message_for : DataKind → (bytes : List ℕ) → Step Message Refusal
message_for (kind.Gs1 parens) bytes answer = gs1_message parens bytes answer
message_for (kind.Bytes eci) bytes answer = only (Ok (message_with false eci (bytes_as_elements bytes))) answer
message_for (kind.Text eci) bytes answer = text_message eci bytes answer
message_for kind.Latin1 bytes answer = latin1_message bytes answer
