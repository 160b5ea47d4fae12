-- The text of a body: of its parts of bytes between extended channel interpretations, each read by the one before it.
use Rattle.std.specs.Prelude.{◌≡◌, ◌⊎◌, ℕ, List, [], ◌∷◌, ◌++◌, All, map, Option}
use Rattle.std.specs.Option.{unwrap_or}
use Rattle.std.specs.List.{flat_map}
use Rattle.bar_base.specs.declared.element.Element.{Element}
use Rattle.bar_base.specs.declared.element.Element.TheVariants.{Byte, Eci, Fnc1}
use Rattle.eci_sets.specs.CharacterSets.{set_numbered}
use Rattle.eci_sets.specs.Encodings.{IsEncodedIn}

-- Bytes with the number of their set and their text.
pub record Part : Type 0 where
  pub eci : ℕ
  pub bytes : List ℕ
  pub text : List ℕ

-- The bytes have this text in the set of the number; no bytes are the empty text by every number.
abbrev pub IsPartText : ℕ → (bytes text : List ℕ) → Type 0
IsPartText eci bytes text = ((bytes ≡ []) × (text ≡ [])) ⊎ IsEncodedIn (set_numbered eci) text bytes

-- The bytes of the part have its text in the set of its number.
abbrev pub IsPart : Part → Type 0
IsPart part = IsPartText part.eci part.bytes part.text

-- Bytes as elements.
abbrev pub byte_elements : List ℕ → List Element
byte_elements bytes = map (λ byte. Byte byte) bytes

-- An ECI and the bytes behind it.
abbrev pub part_elements : Part → List Element
part_elements part = Eci part.eci ∷ byte_elements part.bytes

-- The body is bytes, then ECIs with bytes behind each, and the text is that of its parts, joined; the first part is
-- read by the number given, or by 3 without one (AIM, Extended Channel Interpretations: 3 is the default). A body
-- with FNC1 has none.
pub record IsJoinedText (eci : Option ℕ) (body : List Element) (text : List ℕ) : Type 0 where
  pub first : Part
  pub more : List Part
  pub number : first.eci ≡ unwrap_or eci 3
  pub body_is : body ≡ byte_elements first.bytes ++ flat_map part_elements more
  pub each : All IsPart (first ∷ more)
  pub text_is : text ≡ flat_map (λ part. part.text) (first ∷ more)

-- One element further: the number, the bytes of the part so far and the text before it, and the same three behind the
-- element.
abbrev pub Advances : ℕ → List ℕ → List ℕ → Element → ℕ → List ℕ → List ℕ → Type 0
Advances eci part text (Byte byte) eci' part' text' = (eci' ≡ eci) × (part' ≡ part ++ byte ∷ []) × (text' ≡ text)
Advances eci part text (Eci number) eci' part' text' =
    (t : List ℕ) × (eci' ≡ number) × (part' ≡ []) × IsPartText eci part t × (text' ≡ text ++ t)
Advances eci part text Fnc1 eci' part' text' = ⊥

-- The element ends a part that has no text, or is FNC1.
abbrev pub Blocks : ℕ → List ℕ → Element → Type 0
Blocks eci part (Byte byte) = ⊥
Blocks eci part (Eci number) = (text : List ℕ) → IsPartText eci part text → ⊥
Blocks eci part Fnc1 = Unit {0}
