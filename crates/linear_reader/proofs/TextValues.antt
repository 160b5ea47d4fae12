-- The values of a text that is drawn.
use Rattle.std.proofs.Common.{◌≡◌, ℕ, ◌+◌, ◌==◌, ◌<◌, ◌≤◌, nat_lt, not, Bool, true, false, if◌then◌else◌, All, List, [], ◌∷◌, ◌++◌, length, map, position, slice_index, option_to_list, Option, Some, None, Ok, Err, refl, sym, ap, ◌∙◌, arith}
use Rattle.std.specs.Char.{to_ascii_uppercase}
use Rattle.std.specs.List.{flat_map, list_all}
use Rattle.std.proofs.lemmas.Bool.{and_parts, eqb-true, ltb-false}
use Rattle.std.proofs.lemmas.List.{map-append}
use Rattle.std.proofs.lemmas.List.Elements.{All-append, All-cons, All-nil}
use Rattle.std.proofs.lemmas.List.Quantifiers.{position-Some}
use Rattle.bar_base.proofs.ListLemmas.{position-none}
use Rattle.bar_base.specs.Text.{refused_at, of_at_most, values_of_text}
use Rattle.bar_base.specs.Results.{◌>>=◌}
use Rattle.bar_base.specs.declared.element.Element.{Element}
use Rattle.bar_base.specs.declared.element.Element.TheVariants as element
use Rattle.bar_base.specs.declared.linear.LinearFault.TheVariants.{TooLong}
use Rattle.linear_codes.specs.declared.characters.TheConstants.{CHARACTERS}
use Rattle.linear_codes.specs.Characters.{characters, character_value}
use Rattle.linear_codes.specs.Code39.{values39}
use Rattle.linear_reader.specs.declared.symbology.RowSymbology.{RowSymbology}
use Rattle.linear_reader.specs.Data.{with_more, bytes_from, drawn_values, character_element}
use Rattle.linear_reader.specs.Drawn.{raised}
use Rattle.linear_reader.proofs.FullAsciiTable.{Draws, alone, paired}
use Rattle.linear_reader.proofs.SpellingLaws.{alone_on, sign_on, pair_on}

-- Each byte of a text that is drawn has values, and these are the values of the text.
pub record IsDrawnText (values : ℕ → List ℕ) (most : ℕ) (text drawn : List ℕ) : Type 0 where
  pub known : list_all (λ byte. not (length (values byte) == 0)) text ≡ true
  pub few : length text ≤ most
  pub is : drawn ≡ flat_map values text

pub drawn_text : (values : ℕ → List ℕ) (most : ℕ) (text drawn : List ℕ) → values_of_text values most text ≡ Ok drawn → IsDrawnText values most text drawn
unfolding values_of_text
drawn_text values most text drawn is =
    let test = λ (byte : ℕ). length (values byte) == 0 in
    elim (position test text) as (λ p. position test text ≡ p → ((refused_at p text) >>= λ known. (of_at_most most known) >>= λ short. Ok (flat_map values short)) ≡ Ok drawn → IsDrawnText values most text drawn) [
      | None ↦ λ none given. elim (nat_lt most (length text)) as (λ b. nat_lt most (length text) ≡ b
          → ((if b then Err TooLong else Ok text) >>= λ short. Ok (flat_map values short)) ≡ Ok drawn → IsDrawnText values most text drawn) [
            | true ↦ λ _ bad. absurd (cc)
            | false ↦ λ fits good. record {
              known = position-none test text none;
              few = ltb-false most (length text) fits;
              is = let e : flat_map values text ≡ drawn = cc in sym e;
            }
          ] refl given
      | Some place ↦ λ _ bad. absurd (cc)
    ] refl is

unnot : (b : Bool) → not b ≡ true → b ≡ false
unnot true is = absurd (cc)
unnot false is = refl

-- What holds of the values of each byte that has some holds of all values.
pub each_value : (P : ℕ → Type 0) (values : ℕ → List ℕ) → ((byte : ℕ) → (length (values byte) == 0) ≡ false → All P (values byte)) → (text : List ℕ)
    → list_all (λ byte. not (length (values byte) == 0)) text ≡ true → All P (flat_map values text)
each_value P values each [] known = All-nil P
each_value P values each (byte ∷ text) known =
    let parts = and_parts (not (length (values byte) == 0)) (list_all (λ b. not (length (values b) == 0)) text) known in
    All-append P (values byte) (flat_map values text) (each byte (unnot (length (values byte) == 0) parts.0)) (each_value P values each text parts.1)

-- Code 39: a byte is drawn as its character, raised.
pub record IsCharacter (byte value : ℕ) : Type 0 where
  pub small : value < 43
  pub character : slice_index characters value ≡ byte

pub is_character : (byte value : ℕ) → character_value byte ≡ Some value → IsCharacter byte value
unfolding character_value characters
is_character byte value is =
    let found = position-Some (λ character. character == byte) CHARACTERS value 0 is in
    record { small = found.0; character = eqb-true (slice_index CHARACTERS value) byte found.1 }

record ReadsRaised (byte : ℕ) (drawn : List ℕ) : Type 0 where
  small : All (λ value. value < 43) drawn
  elements : map character_element drawn ≡ raised byte ∷ []

raised_by : (byte : ℕ) (value : Option ℕ) → character_value (to_ascii_uppercase byte) ≡ value → (length (option_to_list value) == 0) ≡ false → ReadsRaised byte (option_to_list value)
raised_by byte None is some = absurd (cc)
raised_by byte (Some value) is some =
    let found = is_character (to_ascii_uppercase byte) value is in
    record { small = All-cons (λ v. v < 43) value [] found.small (All-nil (λ v. v < 43)); elements = ap (λ (n : ℕ). element.Byte n ∷ []) found.character }

raised_of : (byte : ℕ) → (length (values39 byte) == 0) ≡ false → ReadsRaised byte (values39 byte)
unfolding values39
raised_of byte some = raised_by byte (character_value (to_ascii_uppercase byte)) refl some

pub small39 : (byte : ℕ) → (length (values39 byte) == 0) ≡ false → All (λ value. value < 43) (values39 byte)
small39 byte some = (raised_of byte some).small

pub raised_text : (text : List ℕ) → list_all (λ byte. not (length (values39 byte) == 0)) text ≡ true → map character_element (flat_map values39 text) ≡ map raised text
raised_text [] known = refl
raised_text (byte ∷ text) known =
    let parts = and_parts (not (length (values39 byte) == 0)) (list_all (λ b. not (length (values39 b) == 0)) text) known in
    map-append character_element (values39 byte) (flat_map values39 text)
    ∙ ap (λ (es : List Element). es ++ map character_element (flat_map values39 text)) (raised_of byte (unnot (length (values39 byte) == 0) parts.0)).elements
    ∙ ap (λ (es : List Element). raised byte ∷ es) (raised_text text parts.1)

-- Full ASCII: the values of a byte, read in front of others.
byte_read : (s : RowSymbology) (byte : ℕ) (drawn : List ℕ) → Draws s byte drawn → (place : ℕ) (rest : List ℕ)
    → bytes_from s place None (drawn ++ rest) ≡ with_more (element.Byte byte ∷ []) (bytes_from s (place + length drawn) None rest)
byte_read s byte _ (alone {value = value} found) place rest = alone_on s place value byte rest found
byte_read s byte _ (paired {sign = sign} {value = value} none found) place rest =
    sign_on s place sign (value ∷ rest) none ∙ pair_on s (place + 1) sign value byte rest found
    ∙ ap (λ (n : ℕ). with_more (element.Byte byte ∷ []) (bytes_from s n None rest)) (let e : place + 1 + 1 ≡ place + 2 = omega arith in e)

pub text_read : (s : RowSymbology) → ((byte : ℕ) → (length (drawn_values s byte) == 0) ≡ false → Draws s byte (drawn_values s byte)) → (text : List ℕ) (place : ℕ)
    → list_all (λ byte. not (length (drawn_values s byte) == 0)) text ≡ true → bytes_from s place None (flat_map (drawn_values s) text) ≡ Ok (map element.Byte text)
unfolding bytes_from
text_read s each [] place known = refl
text_read s each (byte ∷ text) place known =
    let parts = and_parts (not (length (drawn_values s byte) == 0)) (list_all (λ b. not (length (drawn_values s b) == 0)) text) known in
    byte_read s byte (drawn_values s byte) (each byte (unnot (length (drawn_values s byte) == 0) parts.0)) place (flat_map (drawn_values s) text)
    ∙ ap (with_more (element.Byte byte ∷ [])) (text_read s each text (place + length (drawn_values s byte)) parts.1)
