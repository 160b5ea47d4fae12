-- Bytes spell one text at most, and stop at one place at most.
use Rattle.std.proofs.Common.{◌≡◌, ℕ, ◌+◌, ◌≤◌, ◌∙◌, ◌⊎◌, List, [], ◌∷◌, ◌++◌, true, false, if◌then◌else◌, Option, Some, None, Result, Ok, Err, IfOk, IfErr, IsErrAnd, MatchResult, length, drop, ap, sym, refl, arith, inl, inr, append-nil, append_assoc, length-drop}
use Rattle.std.specs.Option.{is_some, option_map, unwrap_or}
use Rattle.std.specs.Str.{chars}
use Rattle.std.proofs.Math.Utf8.{encode, encodes, scalar, scalars}
use Rattle.std.proofs.lemmas.Bool.{and_parts}
use Rattle.std.proofs.lemmas.List.{length-append, take-append-drop}
use Rattle.std.proofs.lemmas.Str.{chars-encodes, encode_same, encodes_same, length-encode, len_utf8_bounds}
use Rattle.bar_base.specs.Results.{Gives}
use Rattle.eci_sets.specs.CharacterSets.{character_bytes, encoding_of, has_character}
use Rattle.eci_sets.specs.CodePages.{byte_for, character_for}
use Rattle.eci_sets.specs.Encodings.{BeginsWith, Encoded, IsDecodingFault, IsEncodedIn, StopsAt, first_lacking, joined_bytes, set_refusal, text_encoding, unless_lacking}
use Rattle.eci_sets.specs.declared.character_set.CharacterSet.{CharacterSet}
use Rattle.eci_sets.specs.declared.character_set.CharacterSet.TheVariants.{SingleByte, Utf16Be, Utf8}
use Rattle.eci_sets.specs.declared.code_page.CodePage.{CodePage}
use Rattle.eci_sets.specs.declared.fault.SetFault.{SetFault}
use Rattle.eci_sets.specs.declared.fault.SetFault.TheVariants.{NoMemory, UnknownEci, NoCharacter, BadBytes}
use Rattle.eci_sets.proofs.TableLemmas.{goes_back}
use Rattle.eci_sets.proofs.Units.{same16, some16}

heads : (a b : ℕ) (r s : List ℕ) → a ∷ r ≡ b ∷ s → (a ≡ b) × (r ≡ s)
heads a b r s e = (cc, cc)

somes : (c d : ℕ) → Some c ≡ Some d → c ≡ d
somes c d e = cc

-- the bytes of a character in a code page
abbrev one : Option ℕ → Option (List ℕ)
one o = option_map (λ b. b ∷ []) o

same_byte : (page : CodePage) (c d : ℕ) (o p : Option ℕ) (r s : List ℕ) → byte_for page c ≡ o → byte_for page d ≡ p → is_some (one o) ≡ true → is_some (one p) ≡ true
    → unwrap_or (one o) [] ++ r ≡ unwrap_or (one p) [] ++ s → (c ≡ d) × (r ≡ s)
same_byte page c d None p r s a b h k e = cc
same_byte page c d (Some x) None r s a b h k e = cc
same_byte page c d (Some x) (Some y) r s a b h k e =
    let both = heads x y r s e in
    (somes c d (sym (goes_back page c x a) ∙ ap (character_for page) both.0 ∙ goes_back page d y b), both.1)

-- no character's bytes begin with those of another
pub one_character : (set : CharacterSet) (c d : ℕ) (r s : List ℕ) → scalar c ≡ true → scalar d ≡ true → has_character set c ≡ true → has_character set d ≡ true
    → character_bytes set c ++ r ≡ character_bytes set d ++ s → (c ≡ d) × (r ≡ s)
unfolding encoding_of
one_character (SingleByte page) c d r s a b h k e = same_byte page c d (byte_for page c) (byte_for page d) r s refl refl h k e
one_character Utf16Be c d r s a b h k e = same16 c d r s a b e
one_character Utf8 c d r s a b h k e = encode_same c d r s e

some_byte : (o : Option ℕ) → is_some (one o) ≡ true → 1 ≤ length (unwrap_or (one o) [])
some_byte None h = cc
some_byte (Some b) h = omega arith

some8 : (c : ℕ) → 1 ≤ length (encode c)
some8 c = let e = length-encode c in let b = (len_utf8_bounds c).0 in omega arith

pub some_bytes : (set : CharacterSet) (c : ℕ) → has_character set c ≡ true → 1 ≤ length (character_bytes set c)
unfolding encoding_of
some_bytes (SingleByte page) c h = some_byte (byte_for page c) h
some_bytes Utf16Be c h = some16 c
some_bytes Utf8 c h = some8 c

nothing_begins : (set : CharacterSet) (c : ℕ) → BeginsWith set c [] → ⊥
nothing_begins set c is =
    let size = ap (λ (t : List ℕ). length t) is.3 in
    let some = some_bytes set c is.2 in
    absurd (omega (arith, length-append (character_bytes set c) is.0))

abbrev NoneBegins : CharacterSet → List ℕ → Type 0
NoneBegins set r = (c : ℕ) → BeginsWith set c r → ⊥

all_parts : (set : CharacterSet) (at c : ℕ) (cs : List ℕ) → first_lacking set at (c ∷ cs) ≡ None → (has_character set c ≡ true) × (first_lacking set (at + length (encode c)) cs ≡ None)
unfolding first_lacking
all_parts set at c cs none = elim (has_character set c) as (λ t. has_character set c ≡ t → (if t then first_lacking set (at + length (encode c)) cs else Some at) ≡ None → (has_character set c ≡ true) × (first_lacking set (at + length (encode c)) cs ≡ None)) [
  | true ↦ λ is more. (is, more)
  | false ↦ λ _ e. cc
] refl none

-- the characters up to the first place where none begins are the only ones
pub one_list : (set : CharacterSet) (i j : ℕ) (cs ds : List ℕ) (r s : List ℕ) → scalars cs ≡ true → scalars ds ≡ true → first_lacking set i cs ≡ None → first_lacking set j ds ≡ None
    → joined_bytes set cs ++ r ≡ joined_bytes set ds ++ s → NoneBegins set r → NoneBegins set s → (cs ≡ ds) × (r ≡ s)
one_list set i j [] [] r s a b h k e none_r none_s = (refl, e)
one_list set i j [] (d ∷ ds) r s a b h k e none_r none_s =
    absurd (none_r d (joined_bytes set ds ++ s, (and_parts (scalar d) (scalars ds) b).0, (all_parts set j d ds k).0, e ∙ append_assoc (character_bytes set d) (joined_bytes set ds) s))
one_list set i j (c ∷ cs) [] r s a b h k e none_r none_s =
    absurd (none_s c (joined_bytes set cs ++ r, (and_parts (scalar c) (scalars cs) a).0, (all_parts set i c cs h).0, sym e ∙ append_assoc (character_bytes set c) (joined_bytes set cs) r))
one_list set i j (c ∷ cs) (d ∷ ds) r s a b h k e none_r none_s =
    let ps = and_parts (scalar c) (scalars cs) a in
    let qs = and_parts (scalar d) (scalars ds) b in
    let hs = all_parts set i c cs h in
    let ks = all_parts set j d ds k in
    let whole : character_bytes set c ++ (joined_bytes set cs ++ r) ≡ character_bytes set d ++ (joined_bytes set ds ++ s) = sym (append_assoc (character_bytes set c) (joined_bytes set cs) r) ∙ e ∙ append_assoc (character_bytes set d) (joined_bytes set ds) s in
    let one = one_character set c d (joined_bytes set cs ++ r) (joined_bytes set ds ++ s) ps.0 qs.0 hs.0 ks.0 whole in
    let more = one_list set (i + length (encode c)) (j + length (encode d)) cs ds r s ps.1 qs.1 hs.1 ks.1 one.1 none_r none_s in
    (ap (λ k. k ∷ cs) one.0 ∙ ap (λ (ks : List ℕ). d ∷ ks) more.0, more.1)

-- what was encoded is decoded to the same text
pub one_text : (set : CharacterSet) (text other bytes : List ℕ) → Encoded set text bytes → Encoded set other bytes → other ≡ text
one_text set text other bytes is also =
    let same = one_list set 0 0 also.characters is.characters [] [] also.scalar is.scalar also.all is.all (ap (λ (t : List ℕ). t ++ []) (sym also.bytes_are ∙ is.bytes_are)) (nothing_begins set) (nothing_begins set) in
    also.text_is ∙ ap encodes same.0 ∙ sym is.text_is

-- the same, where the number names a set
pub one_encoded_in : (o : Option CharacterSet) (text other bytes : List ℕ) → IsEncodedIn o text bytes → IsEncodedIn o other bytes → other ≡ text
one_encoded_in None text other bytes is also = absurd is
one_encoded_in (Some set) text other bytes is also = one_text set text other bytes is also

-- bytes that encode a text stop nowhere
pub no_text : (set : CharacterSet) (text bytes : List ℕ) (place : ℕ) → Encoded set text bytes → StopsAt set bytes place → ⊥
no_text set text bytes place is s =
    let joined : joined_bytes set s.before.characters ++ drop place bytes ≡ joined_bytes set is.characters ++ [] =
    ap (λ (t : List ℕ). t ++ drop place bytes) (sym s.before.bytes_are) ∙ take-append-drop place bytes ∙ is.bytes_are ∙ sym (append-nil (joined_bytes set is.characters)) in
    let same = one_list set 0 0 s.before.characters is.characters (drop place bytes) [] s.before.scalar is.scalar s.before.all is.all joined s.none (nothing_begins set) in
    let gone = ap (λ (t : List ℕ). length t) same.1 in
    let within = s.within in
    absurd (omega (arith, length-drop place bytes))

pub one_stop : (set : CharacterSet) (bytes : List ℕ) (j k : ℕ) → StopsAt set bytes j → StopsAt set bytes k → j ≡ k
one_stop set bytes j k s t =
    let joined : joined_bytes set s.before.characters ++ drop j bytes ≡ joined_bytes set t.before.characters ++ drop k bytes =
    ap (λ (x : List ℕ). x ++ drop j bytes) (sym s.before.bytes_are) ∙ take-append-drop j bytes ∙ sym (take-append-drop k bytes) ∙ ap (λ (x : List ℕ). x ++ drop k bytes) t.before.bytes_are in
    let same = one_list set 0 0 s.before.characters t.before.characters (drop j bytes) (drop k bytes) s.before.scalar t.before.scalar s.before.all t.before.all joined s.none t.none in
    let left = ap (λ (x : List ℕ). length x) same.1 in
    let a = s.within in
    let b = t.within in
    omega (arith, length-drop j bytes, length-drop k bytes)

-- with that, what a call answers is settled both ways
pub decode_given : {X : Type 0} (by : X → List ℕ) (o : Option CharacterSet) (r : Result X SetFault) (bytes text : List ℕ) → IfOk r (λ s. IsEncodedIn o (by s) bytes) → IfErr r (λ e. (e ≡ NoMemory) ⊎ IsDecodingFault o bytes e)
    → IsEncodedIn o text bytes → MatchResult r (λ s. by s ≡ text) (λ e. e ≡ NoMemory)
decode_given by None r bytes text told refused is = absurd is
decode_given by (Some set) (Ok s) bytes text told refused is = one_text set text (by s) bytes is told
decode_given by (Some set) (Err e) bytes text told (inl memory) is = memory
decode_given by (Some set) (Err e) bytes text told (inr f) is = absurd (no_text set text bytes f.0 is f.1)

pub decode_faulty : {X : Type 0} (by : X → List ℕ) (o : Option CharacterSet) (r : Result X SetFault) (bytes : List ℕ) (f : SetFault) → IfOk r (λ s. IsEncodedIn o (by s) bytes) → IfErr r (λ e. (e ≡ NoMemory) ⊎ IsDecodingFault o bytes e)
    → IsDecodingFault o bytes f → IsErrAnd r (λ e. (e ≡ f) ⊎ (e ≡ NoMemory))
decode_faulty by None (Ok s) bytes f told refused is = absurd told
decode_faulty by None (Err e) bytes f told (inl memory) is = inr memory
decode_faulty by None (Err e) bytes f told (inr g) is = inl (g ∙ sym is)
decode_faulty by (Some set) (Ok s) bytes f told refused is = absurd (no_text set (by s) bytes is.0 told is.1)
decode_faulty by (Some set) (Err e) bytes f told (inl memory) is = inr memory
decode_faulty by (Some set) (Err e) bytes f told (inr g) is = inl (g.2 ∙ ap (λ k. BadBytes k) (one_stop set bytes g.0 is.0 g.1 is.1) ∙ sym is.2)

one_bytes : (set : CharacterSet) (text a b : List ℕ) → Encoded set text a → Encoded set text b → a ≡ b
one_bytes set text a b is also = is.bytes_are ∙ ap (joined_bytes set) (encodes_same is.characters also.characters (sym is.text_is ∙ also.text_is)) ∙ sym also.bytes_are

-- a text that has bytes in a set lacks no character
pub encoded_defined : (set : CharacterSet) (text bytes : List ℕ) → Encoded set text bytes → text_encoding (Some set) (chars text) ≡ Ok bytes
unfolding text_encoding
encoded_defined set text bytes is =
    let same = ap chars is.text_is ∙ chars-encodes is.characters is.scalar in
    ap (λ cs. unless_lacking (first_lacking set 0 cs) (joined_bytes set cs)) same ∙ ap (λ o. unless_lacking o (joined_bytes set is.characters)) is.all
    ∙ ap (λ (b : List ℕ). Ok b) (sym is.bytes_are)

-- so a call that gives what is defined gives these bytes
pub encode_given : {X : Type 0} (by : X → List ℕ) (o : Option CharacterSet) (r : Result X SetFault) (text bytes : List ℕ) → IfOk r (λ v. IsEncodedIn o text (by v))
    → Gives set_refusal by r (text_encoding o (chars text)) → IsEncodedIn o text bytes → MatchResult r (λ v. by v ≡ bytes) (λ e. e ≡ NoMemory)
encode_given by None r text bytes encoded gives is = absurd is
encode_given by (Some set) (Ok v) text bytes encoded gives is = one_bytes set text (by v) bytes encoded is
encode_given by (Some set) (Err NoMemory) text bytes encoded gives is = refl
encode_given by (Some set) (Err UnknownEci) text bytes encoded gives is = let no = sym (encoded_defined set text bytes is) ∙ gives in cc
encode_given by (Some set) (Err (NoCharacter k)) text bytes encoded gives is = let no = sym (encoded_defined set text bytes is) ∙ gives in cc
encode_given by (Some set) (Err (BadBytes k)) text bytes encoded gives is = let no = sym (encoded_defined set text bytes is) ∙ gives in cc
