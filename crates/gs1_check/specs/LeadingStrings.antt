-- The element string with which a body begins, and the text of a body.
use Rattle.std.specs.Prelude.{◌≡◌, ℕ, ◌+◌, List, [], ◌∷◌, length, take, drop, Option, Some, None, if◌then◌else◌}
use Rattle.bar_base.specs.declared.element.Element.{Element}
use Rattle.bar_base.specs.declared.element.Element.TheVariants.{Byte, Eci, Fnc1}
use Rattle.gs1_check.specs.Identifiers.{has_predefined_length, identifier_format, identifier_size, two_digits}
use Rattle.gs1_check.specs.ElementStrings.{ElementString, HasBody}
use Rattle.gs1_check.specs.declared.brackets.Brackets.TheVariants.{Square}
use Rattle.gs1_check.specs.declared.identifiers.Format.{Format}

-- The text in square brackets has the body, and no other has.
abbrev pub IsOnlyText : List ℕ → List Element → Type 0
IsOnlyText text body = HasBody Square text body × ((other : List ℕ) → HasBody Square other body → other ≡ text)

-- No text in square brackets has the body.
abbrev pub HasNoText : List Element → Type 0
HasNoText body = (text : List ℕ) → HasBody Square text body → ⊥

-- The bytes with which elements begin.
unfoldable pub leading_bytes : List Element → List ℕ
leading_bytes [] = []
leading_bytes (Byte byte ∷ more) = byte ∷ leading_bytes more
leading_bytes (Eci number ∷ more) = []
leading_bytes (Fnc1 ∷ more) = []

-- The most characters that a format allows; 0 where there is none.
abbrev pub fixed_length : Option Format → ℕ
fixed_length None = 0
fixed_length (Some format) = format.most

-- The value with which the bytes behind an identifier begin: as many as its predefined length says, else all of them.
abbrev pub leading_value : List ℕ → List ℕ → List ℕ
leading_value identifier bytes =
    if has_predefined_length identifier then take (fixed_length (identifier_format identifier)) bytes else bytes

-- The element string with which bytes begin, whose identifier has as many digits as its first two say.
abbrev pub sized_string : ℕ → List ℕ → ElementString
sized_string size bytes =
    record { identifier = take size bytes; value = leading_value (take size bytes) (drop size bytes) }

-- The element string with which bytes begin.
unfoldable pub leading_string : List ℕ → ElementString
leading_string bytes = sized_string (identifier_size (two_digits bytes 0)) bytes

-- The element string with which the elements from a place on begin.
abbrev pub string_at : List Element → ℕ → ElementString
string_at body place = leading_string (leading_bytes (drop place body))

-- The number of bytes of an element string, identifier and value.
abbrev pub string_length : ElementString → ℕ
string_length string = length string.identifier + length string.value
