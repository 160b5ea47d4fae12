-- Element strings, the texts in which their identifiers are in brackets, and their bodies (GS1 General
-- Specifications, element strings and their concatenation).
use Rattle.std.specs.Prelude.{◌≡◌, ◌≢◌, ℕ, ◌+◌, ◌==◌, not, Bool, true, false, List, [], ◌∷◌, ◌++◌, map, length, take, drop, Option, Some, None, Result, Ok, Err, if◌then◌else◌, slice_index_or}
use Rattle.std.specs.Option.{option_or}
use Rattle.std.specs.List.{position, position_or_len, before_first, All, flat_map}
use Rattle.bar_base.specs.declared.element.Element.{Element}
use Rattle.bar_base.specs.declared.element.Element.TheVariants.{Byte, Fnc1}
use Rattle.gs1_check.specs.Identifiers.{has_predefined_length, identifier_format}
use Rattle.gs1_check.specs.Sections.{opening_bracket, closing_bracket, is_outside, is_no_digit, length_fits, is_date, given_digit, wanted_digit, section_fault}
use Rattle.gs1_check.specs.declared.brackets.Brackets.{Brackets}
use Rattle.gs1_check.specs.declared.brackets.Brackets.TheVariants.{Square, Round}
use Rattle.gs1_check.specs.declared.fault.Gs1Fault.{Gs1Fault}
use Rattle.gs1_check.specs.declared.fault.Gs1Fault.TheVariants.{NoMemory, BadBracket, UnknownIdentifier, BadLength, BadCharacter, BadDate, BadCheck}
use Rattle.gs1_check.specs.declared.identifiers.Format.{Format}
use Rattle.gs1_check.specs.declared.identifiers.Rule.TheVariants as rule

-- An application identifier with its value.
pub record ElementString : Type 0 where
  pub identifier : List ℕ
  pub value : List ℕ

-- The value has the format.
pub record FitsFormat (brackets : Brackets) (format : Format) (value : List ℕ) : Type 0 where
  pub characters : position (is_outside brackets) value ≡ None
  pub long : length_fits format value ≡ true
  pub numeric : position is_no_digit (take format.digits value) ≡ None
  pub date : format.rule ≡ rule.Date → is_date value ≡ true
  pub check : format.rule ≡ rule.Check → given_digit format value ≡ wanted_digit format value

-- The identifier is one of the table, and the value has its format.
pub record IsElementString (brackets : Brackets) (string : ElementString) : Type 0 where
  pub format : Format
  pub known : identifier_format string.identifier ≡ Some format
  pub fits : FitsFormat brackets format string.value

-- Bracket, identifier, bracket, value.
abbrev pub string_text : Brackets → ElementString → List ℕ
string_text brackets string = opening_bracket brackets ∷ string.identifier ++ closing_bracket brackets ∷ string.value

-- The bytes of identifier and value.
abbrev pub string_elements : ElementString → List Element
string_elements string = map (λ byte. Byte byte) (string.identifier ++ string.value)

-- FNC1 is the separator between a string without a predefined length and the next one.
abbrev pub separator : Bool → List Element
separator needed = if needed then Fnc1 ∷ [] else []

-- A string needs a separator before the next one where it has no predefined length.
abbrev pub needs_separator : ElementString → Bool
needs_separator string = not (has_predefined_length string.identifier)

-- The elements of strings joined, behind a string that needs a separator or not.
unfoldable pub body_behind : Bool → List ElementString → List Element
body_behind needed [] = []
body_behind needed (string ∷ more) =
    separator needed ++ string_elements string ++ body_behind (needs_separator string) more

-- The body of element strings: their elements, and FNC1 between two where the first needs a separator.
abbrev pub body_of : List ElementString → List Element
body_of strings = body_behind false strings

-- The text is one element string or more, and the body is theirs.
pub record HasBody (brackets : Brackets) (text : List ℕ) (body : List Element) : Type 0 where
  pub strings : List ElementString
  pub some : strings ≢ []
  pub each : All (IsElementString brackets) strings
  pub text_is : text ≡ flat_map (string_text brackets) strings
  pub body_is : body ≡ body_of strings

-- The sections of a text: what is behind each opening bracket, up to the next one.
unfoldable pub sections : ℕ → List ℕ → List (List ℕ)
sections mark [] = []
sections mark (byte ∷ text) =
    if byte == mark then before_first (λ d. d == mark) text ∷ sections mark text else sections mark text

-- The section behind the opening bracket at a place: what follows it, up to the next opening bracket or the end.
abbrev pub section_at : Brackets → List ℕ → ℕ → List ℕ
section_at brackets text place = before_first (λ d. d == opening_bracket brackets) (drop (place + 1) text)

-- The first fault of sections, the first of which is behind the opening bracket at the place `at`.
unfoldable pub first_fault : Brackets → ℕ → List (List ℕ) → Option Gs1Fault
first_fault brackets at [] = None
first_fault brackets at (section ∷ more) =
    option_or (section_fault brackets at section) (first_fault brackets (at + (1 + length section)) more)

-- The first fault of a text.
unfoldable pub text_fault : Brackets → List ℕ → Option Gs1Fault
text_fault brackets text = if slice_index_or text 0 0 == opening_bracket brackets
    then first_fault brackets 0 (sections (opening_bracket brackets) text) else Some (BadBracket 0)

-- The element string of a section.
unfoldable pub section_string : List ℕ → ElementString
section_string section = record {
  identifier = take (position_or_len is_no_digit section) section;
  value = drop (position_or_len is_no_digit section + 1) section;
}

-- The element strings of a text, one of each section.
abbrev pub text_strings : Brackets → List ℕ → List ElementString
text_strings brackets text = map section_string (sections (opening_bracket brackets) text)

-- The body of a text, or its first fault.
abbrev pub unless_faulty : Option Gs1Fault → List Element → Result (List Element) Gs1Fault
unless_faulty None body = Ok body
unless_faulty (Some fault) body = Err fault

-- The body of the element strings that a text writes, or the first fault of the text.
unfoldable pub text_body : Brackets → List ℕ → Result (List Element) Gs1Fault
text_body brackets text = unless_faulty (text_fault brackets text) (body_of (text_strings brackets text))

-- Round brackets where they are asked for, else square ones.
abbrev pub brackets_of : Bool → Brackets
brackets_of parens = if parens then Round else Square

-- The refusals among the faults: all but want of memory.
abbrev pub gs1_refusal : Gs1Fault → Option Gs1Fault
gs1_refusal NoMemory = None
gs1_refusal (BadBracket place) = Some (BadBracket place)
gs1_refusal (UnknownIdentifier place) = Some (UnknownIdentifier place)
gs1_refusal (BadLength place) = Some (BadLength place)
gs1_refusal (BadCharacter place) = Some (BadCharacter place)
gs1_refusal (BadDate place) = Some (BadDate place)
gs1_refusal (BadCheck place given wanted) = Some (BadCheck place given wanted)
