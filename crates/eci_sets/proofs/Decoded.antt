-- Bytes decoded from the left, character by character.
use Rattle.std.proofs.Common.{◌≡◌, ℕ, ◌+◌, ◌<◌, ◌≤◌, ◌∙◌, ◌&&◌, ◌++◌, List, [], ◌∷◌, true, false, if◌then◌else◌, Some, None, length, take, drop, ap, sym, subst, refl, arith, append-nil, take_all}
use Rattle.std.proofs.Math.Seq.{take-add}
use Rattle.std.proofs.Math.Utf8.{encode, encodes, scalar, scalars}
use Rattle.std.proofs.lemmas.Bool.{and_parts}
use Rattle.std.proofs.lemmas.Grind.{flat_map-append}
use Rattle.std.proofs.lemmas.Str.{encodes-append}
use Rattle.eci_sets.specs.CharacterSets.{character_bytes, has_character}
use Rattle.eci_sets.specs.Encodings.{BeginsWith, Encoded, StopsAt, first_lacking, joined_bytes}
use Rattle.eci_sets.specs.declared.character_set.CharacterSet.{CharacterSet}

-- the bytes up to a place encode the text
pub record Decoded (set : CharacterSet) (bytes : List ℕ) (place : ℕ) (text : List ℕ) : Type 0 where
  pub within : place ≤ length bytes
  pub so_far : Encoded set text (take place bytes)

pub none_encoded : (set : CharacterSet) → Encoded set [] []
unfolding first_lacking
none_encoded set = record { characters = []; scalar = refl; text_is = refl; all = refl; bytes_are = refl }

pub none_decoded : (set : CharacterSet) (bytes : List ℕ) → Decoded set bytes 0 []
none_decoded set bytes = record { within = omega arith; so_far = none_encoded set }

scalars_more : (cs : List ℕ) (c : ℕ) → scalars cs ≡ true → scalar c ≡ true → scalars (cs ++ c ∷ []) ≡ true
scalars_more [] c all one = ap (λ t. t && true) one
scalars_more (d ∷ cs) c all one =
    let parts = and_parts (scalar d) (scalars cs) all in
    ap (λ t. t && scalars (cs ++ c ∷ [])) parts.0 ∙ scalars_more cs c parts.1 one

none_lacking_more : (set : CharacterSet) (at : ℕ) (cs : List ℕ) (c : ℕ) → first_lacking set at cs ≡ None → has_character set c ≡ true → first_lacking set at (cs ++ c ∷ []) ≡ None
unfolding first_lacking
none_lacking_more set at [] c none has = ap (λ t. if t then None else Some at) has
none_lacking_more set at (d ∷ cs) c none has =
    elim (has_character set d) as (λ t. (if t then first_lacking set (at + length (encode d)) cs else Some at) ≡ None
    → (if t then first_lacking set (at + length (encode d)) (cs ++ c ∷ []) else Some at) ≡ None) [
      | true ↦ λ more. none_lacking_more set (at + length (encode d)) cs c more has
      | false ↦ λ e. cc
    ] none

-- one character more
encoded_more : (set : CharacterSet) (text bytes : List ℕ) (c : ℕ) → Encoded set text bytes → scalar c ≡ true → has_character set c ≡ true
    → Encoded set (text ++ encode c) (bytes ++ character_bytes set c)
encoded_more set text bytes c e is has = record {
  characters = e.characters ++ c ∷ [];
  scalar = scalars_more e.characters c e.scalar is;
  text_is = ap (λ (t : List ℕ). t ++ encode c) e.text_is ∙ ap (λ (t : List ℕ). encodes e.characters ++ t) (sym (append-nil (encode c)))
      ∙ sym (encodes-append e.characters (c ∷ []));
  all = none_lacking_more set 0 e.characters c e.all has;
  bytes_are = ap (λ (t : List ℕ). t ++ character_bytes set c) e.bytes_are ∙ ap (λ (t : List ℕ). joined_bytes set e.characters ++ t) (sym (append-nil (character_bytes set c)))
      ∙ sym (flat_map-append (character_bytes set) e.characters (c ∷ []));
}

pub more_decoded : (set : CharacterSet) (bytes : List ℕ) (place size c : ℕ) (text : List ℕ) → Decoded set bytes place text → place + size ≤ length bytes
    → scalar c ≡ true → has_character set c ≡ true → take size (drop place bytes) ≡ character_bytes set c → Decoded set bytes (place + size) (text ++ encode c)
more_decoded set bytes place size c text d within is has here = record {
  within = within;
  so_far = subst (λ (front : List ℕ). Encoded set (text ++ encode c) front)
      (ap (λ (t : List ℕ). take place bytes ++ t) (sym here) ∙ sym (take-add place size bytes))
      (encoded_more set text (take place bytes) c d.so_far is has);
}

pub all_decoded : (set : CharacterSet) (bytes : List ℕ) (place : ℕ) (text : List ℕ) → Decoded set bytes place text → length bytes ≤ place → Encoded set text bytes
all_decoded set bytes place text d past = subst (λ (t : List ℕ). Encoded set text t) (take_all place bytes past) d.so_far

pub stops : (set : CharacterSet) (bytes : List ℕ) (place : ℕ) (text : List ℕ) → Decoded set bytes place text → place < length bytes
    → ((c : ℕ) → BeginsWith set c (drop place bytes) → ⊥) → StopsAt set bytes place
stops set bytes place text d within never = record { text = text; within = within; before = d.so_far; none = never }
