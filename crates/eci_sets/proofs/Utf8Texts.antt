-- UTF-8: a text is its own bytes, and bytes end where the longest front that is UTF-8 does.
use Rattle.std.proofs.Common.{◌≡◌, ℕ, ◌+◌, ◌≤◌, ◌∙◌, ◌&&◌, ◌++◌, List, [], ◌∷◌, true, None, Some, Ok, length, take, drop, append-nil, ap, sym, subst, refl, arith}
use Rattle.std.specs.Str.{IsUtf8, IsValidUpTo, chars}
use Rattle.std.proofs.Math.Utf8.{encode, encodes, scalar}
use Rattle.std.proofs.Math.Seq.{take-add, take-append_seam}
use Rattle.std.proofs.lemmas.Str.{IsUtf8-append, len_utf8_bounds, length-encode}
use Rattle.eci_sets.specs.CharacterSets.{encoding_of}
use Rattle.eci_sets.specs.Encodings.{Encoded, StopsAt, first_lacking, joined_bytes, text_encoding}
use Rattle.eci_sets.specs.declared.character_set.CharacterSet.TheVariants.{Utf8}
use Rattle.eci_sets.proofs.OneText.{encoded_defined}

joined_utf8 : (cs : List ℕ) → joined_bytes Utf8 cs ≡ encodes cs
unfolding encoding_of
joined_utf8 [] = refl
joined_utf8 (c ∷ cs) = ap (λ (t : List ℕ). encode c ++ t) (joined_utf8 cs)

none_lacking : (at : ℕ) (cs : List ℕ) → first_lacking Utf8 at cs ≡ None
unfolding first_lacking encoding_of
none_lacking at [] = refl
none_lacking at (c ∷ cs) = none_lacking (at + length (encode c)) cs

pub utf8_encoded : (bytes : List ℕ) → IsUtf8 bytes → Encoded Utf8 bytes bytes
utf8_encoded bytes u = record { characters = u.0; scalar = u.1.0; text_is = sym u.1.1; all = none_lacking 0 u.0; bytes_are = sym (joined_utf8 u.0 ∙ u.1.1) }

pub utf8_defined : (text : List ℕ) → IsUtf8 text → text_encoding (Some Utf8) (chars text) ≡ Ok text
utf8_defined text u = encoded_defined Utf8 text text (utf8_encoded text u)

longer : (bytes : List ℕ) (k c : ℕ) → k ≤ length bytes → IsUtf8 (take k bytes) → (rest : List ℕ) → scalar c ≡ true → drop k bytes ≡ encode c ++ rest → IsUtf8 (take (k + length (encode c)) bytes)
longer bytes k c within u rest is e =
    subst (λ (t : List ℕ). IsUtf8 t) (sym (take-add k (length (encode c)) bytes ∙ ap (λ (t : List ℕ). take k bytes ++ take (length (encode c)) t) e ∙ ap (λ (t : List ℕ). take k bytes ++ t) (take-append_seam (encode c) rest)))
    (IsUtf8-append (take k bytes) (encode c) u (c ∷ [], (ap (λ t. t && true) is, append-nil (encode c))))

pub utf8_stops : (bytes : List ℕ) (k : ℕ) → IsValidUpTo bytes k → StopsAt Utf8 bytes k
unfolding encoding_of
utf8_stops bytes k v =
    record {
      text = take k bytes;
      within = v.short;
      before = utf8_encoded (take k bytes) v.front;
      none = λ c is.
          let size = length-encode c in
          let some = (len_utf8_bounds c).0 in
          let short = v.short in
          v.longest (k + length (encode c)) (omega arith) (longer bytes k c (omega arith) v.front is.0 is.1 is.3);
    }
