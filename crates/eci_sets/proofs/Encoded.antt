-- A text read from the left, character by character.
use Rattle.std.proofs.Common.{◌≡◌, ℕ, ◌+◌, ◌<◌, ◌≤◌, ◌∙◌, List, [], ◌∷◌, ◌++◌, true, false, if◌then◌else◌, Some, None, length, drop, get_or, ap, sym, subst, refl, arith, append_assoc, append-nil}
use Rattle.std.specs.Str.{chars, IsUtf8}
use Rattle.std.proofs.Math.Utf8.{encodes, encode, scalars}
use Rattle.std.proofs.lemmas.List.{drop_more, drop_all, length-append}
use Rattle.std.proofs.lemmas.Str.{chars-encodes}
use Rattle.eci_sets.specs.CharacterSets.{character_bytes, has_character}
use Rattle.eci_sets.specs.Encodings.{Encoded, first_lacking, joined_bytes}
use Rattle.eci_sets.specs.declared.character_set.CharacterSet.{CharacterSet}

-- the first i characters have their bytes, and take place bytes of the text
pub record Encoding (set : CharacterSet) (cs : List ℕ) (i place : ℕ) (bytes : List ℕ) : Type 0 where
  pub missing_is : first_lacking set 0 cs ≡ first_lacking set place (drop i cs)
  pub codes_are : bytes ++ joined_bytes set (drop i cs) ≡ joined_bytes set cs
  pub room : place + length (encodes (drop i cs)) ≡ length (encodes cs)

pub none_encoded : (set : CharacterSet) (cs : List ℕ) → Encoding set cs 0 0 []
none_encoded set cs = record { missing_is = refl; codes_are = refl; room = omega arith }

here : (cs : List ℕ) (i c : ℕ) → i < length cs → c ≡ get_or cs i c → drop i cs ≡ c ∷ drop (i + 1) cs
here cs i c within is = drop_more cs i c within ∙ ap (λ d. d ∷ drop (i + 1) cs) (sym is)

pub fits : (set : CharacterSet) (cs : List ℕ) (i place c : ℕ) (bytes : List ℕ) → Encoding set cs i place bytes → i < length cs → c ≡ get_or cs i c → place + length (encode c) ≤ length (encodes cs)
fits set cs i place c bytes e within is =
    let size = ap (λ ds. length (encodes ds)) (here cs i c within is) in
    let room = e.room in
    omega (arith, length-append (encode c) (encodes (drop (i + 1) cs)))

pub more_encoded : (set : CharacterSet) (cs : List ℕ) (i place c : ℕ) (bytes : List ℕ) → Encoding set cs i place bytes → i < length cs → c ≡ get_or cs i c → has_character set c ≡ true
    → Encoding set cs (i + 1) (place + length (encode c)) (bytes ++ character_bytes set c)
unfolding first_lacking
more_encoded set cs i place c bytes e within is has = record {
  missing_is = e.missing_is ∙ ap (first_lacking set place) (here cs i c within is) ∙ ap (λ t. if t then first_lacking set (place + length (encode c)) (drop (i + 1) cs) else Some place) has;
  codes_are = append_assoc bytes (character_bytes set c) (joined_bytes set (drop (i + 1) cs)) ∙ ap (λ ds. bytes ++ joined_bytes set ds) (sym (here cs i c within is)) ∙ e.codes_are;
  room =
      let size = ap (λ ds. length (encodes ds)) (here cs i c within is) in
      let room = e.room in
      omega (arith, length-append (encode c) (encodes (drop (i + 1) cs)));
}

pub lacking : (set : CharacterSet) (cs : List ℕ) (i place c : ℕ) (bytes : List ℕ) → Encoding set cs i place bytes → i < length cs → c ≡ get_or cs i c → has_character set c ≡ false → first_lacking set 0 cs ≡ Some place
unfolding first_lacking
lacking set cs i place c bytes e within is has =
    e.missing_is ∙ ap (first_lacking set place) (here cs i c within is) ∙ ap (λ t. if t then first_lacking set (place + length (encode c)) (drop (i + 1) cs) else Some place) has

pub none_missing : (set : CharacterSet) (cs : List ℕ) (i place : ℕ) (bytes : List ℕ) → Encoding set cs i place bytes → length cs ≤ i → first_lacking set 0 cs ≡ None
unfolding first_lacking
none_missing set cs i place bytes e past = e.missing_is ∙ ap (first_lacking set place) (drop_all i cs past)

pub all_encoded : (set : CharacterSet) (cs : List ℕ) (i place : ℕ) (bytes : List ℕ) → Encoding set cs i place bytes → length cs ≤ i → bytes ≡ joined_bytes set cs
all_encoded set cs i place bytes e past = sym (append-nil bytes) ∙ ap (λ ds. bytes ++ joined_bytes set ds) (sym (drop_all i cs past)) ∙ e.codes_are

-- a text is its characters in UTF-8
pub text_again : (text : List ℕ) → IsUtf8 text → encodes (chars text) ≡ text
text_again text u = ap encodes (ap chars (sym u.1.1) ∙ chars-encodes u.0 u.1.0) ∙ u.1.1

-- the same, as the code holds it
pub encoded_next : (set : CharacterSet) (cs : List ℕ) (i place c : ℕ) (bytes : List ℕ) (next after : ℕ) (longer : List ℕ) → Encoding set cs i place bytes → i < length cs → c ≡ get_or cs i c → has_character set c ≡ true
    → next ≡ i + 1 → after ≡ place + length (encode c) → longer ≡ bytes ++ character_bytes set c → Encoding set cs next after longer
encoded_next set cs i place c bytes next after longer e within is has next_is after_is longer_is =
    subst (λ (n : ℕ). Encoding set cs n after longer) (sym next_is)
    (subst (λ (n : ℕ). Encoding set cs (i + 1) n longer) (sym after_is)
    (subst (λ (bs : List ℕ). Encoding set cs (i + 1) (place + length (encode c)) bs) (sym longer_is) (more_encoded set cs i place c bytes e within is has)))

pub text_scalars : (text : List ℕ) → IsUtf8 text → scalars (chars text) ≡ true
text_scalars text u = ap scalars (ap chars (sym u.1.1) ∙ chars-encodes u.0 u.1.0) ∙ u.1.0

pub text_encoded : (set : CharacterSet) (text bytes : List ℕ) → IsUtf8 text → first_lacking set 0 (chars text) ≡ None → bytes ≡ joined_bytes set (chars text) → Encoded set text bytes
text_encoded set text bytes u none is = record { characters = chars text; scalar = text_scalars text u; text_is = sym (text_again text u); all = none; bytes_are = is }
