-- Units of two bytes and the characters that they stand for.
use Rattle.std.proofs.Common.{◌≡◌, ℕ, suc, ◌+◌, ◌-◌, ◌/◌, ◌%◌, ◌<◌, ◌≤◌, ◌∙◌, ◌&&◌, ◌++◌, List, [], ◌∷◌, true, false, cond, nat_le, nat_lt, if◌then◌else◌, Some, None, length, take, drop, get_or, ap, sym, subst, refl, arith, inl, inr}
use Rattle.std.specs.List.{flat_map}
use Rattle.std.specs.Char.Escape.{encode_utf16}
use Rattle.std.proofs.Math.Utf8.{encode, scalar}
use Rattle.std.proofs.lemmas.Bool.{and_parts, cases_lt, leb-true, ltb-true, le-ltb, lt-ltb, le-leb}
use Rattle.std.proofs.lemmas.Bool.Decides.{nat_tests}
use Rattle.std.proofs.lemmas.List.{get_or-drop}
use Rattle.std.specs.Char.Utf16.{is_high_surrogate, is_low_surrogate, surrogate_pair_char}
use Rattle.eci_sets.specs.CharacterSets.{encoding_of, unit_bytes}
use Rattle.eci_sets.specs.Encodings.{BeginsWith, StopsAt}
use Rattle.eci_sets.specs.Utf16.{after_high_surrogate, character_from, first_character, paired_character, unit_of_bytes}
use Rattle.eci_sets.specs.declared.character_set.CharacterSet.TheVariants.{Utf16Be}
use Rattle.eci_sets.specs.declared.utf16.FirstCharacter.{FirstCharacter}
use Rattle.eci_sets.proofs.Decoded.{Decoded, more_decoded, stops}

-- the bytes of a character
abbrev pub code16 : ℕ → List ℕ
code16 c = flat_map unit_bytes (encode_utf16 c)

unit_again : (h l : ℕ) → l < 256 → unit_bytes (unit_of_bytes h l) ≡ h ∷ l ∷ []
unit_again h l small =
    let a : unit_of_bytes h l / 256 ≡ h = omega arith in
    let b : unit_of_bytes h l % 256 ≡ l = omega arith in
    ap (λ x. x ∷ unit_of_bytes h l % 256 ∷ []) a ∙ ap (λ x. h ∷ x ∷ []) b

-- what is found at the first_character is a character, and its bytes stand there
pub record IsFound (t : List ℕ) (f : FirstCharacter) : Type 0 where
  pub scalar_is : scalar f.character ≡ true
  pub bytes_are : take f.size t ≡ code16 f.character

small_code : (c : ℕ) → c < 0x1_0000 → code16 c ≡ unit_bytes c
small_code c small = ap (λ t. flat_map unit_bytes (cond t (c ∷ []) ((0xD800 + (c - 0x1_0000) / 0x400) ∷ (0xDC00 + (c - 0x1_0000) % 0x400) ∷ []))) (lt-ltb c 0x1_0000 small)

pair_code : (u v : ℕ) → 0xD800 ≤ u → u < 0xDC00 → 0xDC00 ≤ v → v < 0xE000 → code16 (surrogate_pair_char u v) ≡ unit_bytes u ++ unit_bytes v
pair_code u v a b c d =
    let c0 : ℕ = surrogate_pair_char u v in
    let large : 0x1_0000 ≤ surrogate_pair_char u v = omega arith in
    let first : 0xD800 + (surrogate_pair_char u v - 0x1_0000) / 0x400 ≡ u = omega arith in
    let second : 0xDC00 + (surrogate_pair_char u v - 0x1_0000) % 0x400 ≡ v = omega arith in
    ap (λ t. flat_map unit_bytes (cond t (surrogate_pair_char u v ∷ []) ((0xD800 + (surrogate_pair_char u v - 0x1_0000) / 0x400) ∷ (0xDC00 + (surrogate_pair_char u v - 0x1_0000) % 0x400) ∷ []))) (le-ltb (surrogate_pair_char u v) 0x1_0000 large)
    ∙ ap (λ x. flat_map unit_bytes (x ∷ (0xDC00 + (surrogate_pair_char u v - 0x1_0000) % 0x400) ∷ [])) first
    ∙ ap (λ x. flat_map unit_bytes (u ∷ x ∷ [])) second

abbrev make : ℕ → ℕ → FirstCharacter
make c n = record { character = c; size = n }

some_found : (f g : FirstCharacter) → Some f ≡ Some g → f ≡ g
some_found f g e = cc

single_scalar : (u : ℕ) → u < 65536 → is_high_surrogate u ≡ false → is_low_surrogate u ≡ false → scalar u ≡ true
single_scalar u below a b = grind (arith, nat_tests)

single : (h l : ℕ) (rest : List ℕ) → h < 256 → l < 256 → is_high_surrogate (unit_of_bytes h l) ≡ false → is_low_surrogate (unit_of_bytes h l) ≡ false → IsFound (h ∷ l ∷ rest) (record { character = unit_of_bytes h l; size = 2 })
single h l rest a b no_high no_low =
    let below : unit_of_bytes h l < 65536 = omega arith in
    record { scalar_is = single_scalar (unit_of_bytes h l) below no_high no_low; bytes_are = sym (small_code (unit_of_bytes h l) below ∙ unit_again h l b) }

pair_scalar : (c : ℕ) → 0x1_0000 ≤ c → c < 0x11_0000 → scalar c ≡ true
pair_scalar c low high = grind (arith, nat_tests)

double : (h l h2 l2 : ℕ) (rest : List ℕ) → l < 256 → l2 < 256 → is_high_surrogate (unit_of_bytes h l) ≡ true → is_low_surrogate (unit_of_bytes h2 l2) ≡ true
    → IsFound (h ∷ l ∷ h2 ∷ l2 ∷ rest) (record { character = surrogate_pair_char (unit_of_bytes h l) (unit_of_bytes h2 l2); size = 4 })
double h l h2 l2 rest b d high low =
    let hs = and_parts (nat_le 0xD800 (unit_of_bytes h l)) (nat_lt (unit_of_bytes h l) 0xDC00) high in
    let ls = and_parts (nat_le 0xDC00 (unit_of_bytes h2 l2)) (nat_lt (unit_of_bytes h2 l2) 0xE000) low in
    let h0 : 0xD800 ≤ unit_of_bytes h l = leb-true 0xD800 (unit_of_bytes h l) hs.0 in
    let h1 : unit_of_bytes h l < 0xDC00 = ltb-true (unit_of_bytes h l) 0xDC00 hs.1 in
    let l0 : 0xDC00 ≤ unit_of_bytes h2 l2 = leb-true 0xDC00 (unit_of_bytes h2 l2) ls.0 in
    let l1 : unit_of_bytes h2 l2 < 0xE000 = ltb-true (unit_of_bytes h2 l2) 0xE000 ls.1 in
    record {
      scalar_is = pair_scalar (surrogate_pair_char (unit_of_bytes h l) (unit_of_bytes h2 l2)) (omega arith) (omega arith);
      bytes_are = sym (pair_code (unit_of_bytes h l) (unit_of_bytes h2 l2) h0 h1 l0 l1 ∙ ap (λ x. x ++ unit_bytes (unit_of_bytes h2 l2)) (unit_again h l b) ∙ ap (λ (x : List ℕ). h ∷ l ∷ x) (unit_again h2 l2 d));
    }

by_low : (h l h2 l2 : ℕ) (rest : List ℕ) (f : FirstCharacter) → paired_character (unit_of_bytes h l) (unit_of_bytes h2 l2) ≡ Some f → l < 256 → l2 < 256 → is_high_surrogate (unit_of_bytes h l) ≡ true → IsFound (h ∷ l ∷ h2 ∷ l2 ∷ rest) f
by_low h l h2 l2 rest f e b d high =
    elim (is_low_surrogate (unit_of_bytes h2 l2)) as (λ t. is_low_surrogate (unit_of_bytes h2 l2) ≡ t → (if t then Some (make (surrogate_pair_char (unit_of_bytes h l) (unit_of_bytes h2 l2)) 4) else None) ≡ Some f → IsFound (h ∷ l ∷ h2 ∷ l2 ∷ rest) f) [
      | true ↦ λ low same. subst (λ (g : FirstCharacter). IsFound (h ∷ l ∷ h2 ∷ l2 ∷ rest) g) (some_found (make (surrogate_pair_char (unit_of_bytes h l) (unit_of_bytes h2 l2)) 4) f same) (double h l h2 l2 rest b d high low)
      | false ↦ λ _ impossible. cc
    ] refl e

by_pair : (h l : ℕ) (rest : List ℕ) (f : FirstCharacter) → after_high_surrogate (unit_of_bytes h l) rest ≡ Some f → l < 256 → ((i : ℕ) → get_or rest i 0 < 256) → is_high_surrogate (unit_of_bytes h l) ≡ true → IsFound (h ∷ l ∷ rest) f
by_pair h l [] f e b small high = cc
by_pair h l (h2 ∷ []) f e b small high = cc
by_pair h l (h2 ∷ l2 ∷ rest) f e b small high = by_low h l h2 l2 rest f e b (small 1) high

by_unit : (h l : ℕ) (rest : List ℕ) (f : FirstCharacter) → character_from (unit_of_bytes h l) rest ≡ Some f → h < 256 → l < 256 → ((i : ℕ) → get_or rest i 0 < 256) → IsFound (h ∷ l ∷ rest) f
by_unit h l rest f e a b small =
    elim (is_high_surrogate (unit_of_bytes h l)) as (λ t. is_high_surrogate (unit_of_bytes h l) ≡ t → (if t then after_high_surrogate (unit_of_bytes h l) rest else (if is_low_surrogate (unit_of_bytes h l) then None else Some (make (unit_of_bytes h l) 2))) ≡ Some f → IsFound (h ∷ l ∷ rest) f) [
      | true ↦ λ high found. by_pair h l rest f found b small high
      | false ↦ λ no_high found. elim (is_low_surrogate (unit_of_bytes h l)) as (λ t. is_low_surrogate (unit_of_bytes h l) ≡ t → (if t then None else Some (make (unit_of_bytes h l) 2)) ≡ Some f → IsFound (h ∷ l ∷ rest) f) [
        | true ↦ λ _ impossible. cc
        | false ↦ λ no_low same. subst (λ (g : FirstCharacter). IsFound (h ∷ l ∷ rest) g) (some_found (make (unit_of_bytes h l) 2) f same) (single h l rest a b no_high no_low)
      ] refl found
    ] refl e

pub found : (t : List ℕ) (f : FirstCharacter) → first_character t ≡ Some f → ((i : ℕ) → get_or t i 0 < 256) → IsFound t f
unfolding first_character
found [] f e small = cc
found (h ∷ []) f e small = cc
found (h ∷ l ∷ rest) f e small = by_unit h l rest f e (small 0) (small 1) (λ i. small (suc (suc i)))

pub character_decoded : (bytes : List ℕ) (place : ℕ) (text : List ℕ) (f : FirstCharacter) → Decoded Utf16Be bytes place text → first_character (drop place bytes) ≡ Some f
    → place + f.size ≤ length bytes → ((i : ℕ) → get_or bytes i 0 < 256) → Decoded Utf16Be bytes (place + f.size) (text ++ encode f.character)
unfolding encoding_of
character_decoded bytes place text f d e within small =
    let is = found (drop place bytes) f e (λ i. subst (λ n. n < 256) (sym (get_or-drop place bytes i 0)) (small (place + i))) in
    more_decoded Utf16Be bytes place f.size f.character text d within is.scalar_is refl is.bytes_are

-- the bytes of a character are found again
scalar_top : (c : ℕ) → scalar c ≡ true → c < 0x11_0000
scalar_top c is = grind (arith, nat_tests)

not_high : (c : ℕ) → scalar c ≡ true → c < 0x1_0000 → is_high_surrogate c ≡ false
not_high c is small = grind (arith, nat_tests)

not_low : (c : ℕ) → scalar c ≡ true → c < 0x1_0000 → is_low_surrogate c ≡ false
not_low c is small = grind (arith, nat_tests)

unit_split : (u : ℕ) → unit_of_bytes (u / 256) (u % 256) ≡ u
unit_split u = omega arith

single_front : (c : ℕ) (rest : List ℕ) → scalar c ≡ true → c < 0x1_0000 → first_character (code16 c ++ rest) ≡ Some (make c 2)
unfolding first_character
single_front c rest is small =
    ap (λ t. first_character (t ++ rest)) (small_code c small)
    ∙ ap (λ u. character_from u rest) (unit_split c)
    ∙ ap (λ t. if t then after_high_surrogate c rest else (if is_low_surrogate c then None else Some (make c 2))) (not_high c is small)
    ∙ ap (λ t. if t then None else Some (make c 2)) (not_low c is small)

high_is : (u : ℕ) → 0xD800 ≤ u → u < 0xDC00 → is_high_surrogate u ≡ true
high_is u a b = ap (λ t. t && nat_lt u 0xDC00) (le-leb 0xD800 u a) ∙ lt-ltb u 0xDC00 b

low_is : (u : ℕ) → 0xDC00 ≤ u → u < 0xE000 → is_low_surrogate u ≡ true
low_is u a b = ap (λ t. t && nat_lt u 0xE000) (le-leb 0xDC00 u a) ∙ lt-ltb u 0xE000 b

double_front : (c u v : ℕ) (rest : List ℕ) → 0xD800 ≤ u → u < 0xDC00 → 0xDC00 ≤ v → v < 0xE000 → surrogate_pair_char u v ≡ c → first_character (code16 c ++ rest) ≡ Some (make c 4)
unfolding first_character
double_front c u v rest a b d e is =
    ap (λ k. first_character (code16 k ++ rest)) (sym is)
    ∙ ap (λ t. first_character (t ++ rest)) (pair_code u v a b d e)
    ∙ ap (λ k. character_from k (v / 256 ∷ v % 256 ∷ rest)) (unit_split u)
    ∙ ap (λ t. if t then after_high_surrogate u (v / 256 ∷ v % 256 ∷ rest) else (if is_low_surrogate u then None else Some (make u 2))) (high_is u a b)
    ∙ ap (λ k. paired_character u k) (unit_split v)
    ∙ ap (λ t. if t then Some (make (surrogate_pair_char u v) 4) else None) (low_is v d e)
    ∙ ap (λ k. Some (make k 4)) is

pub front_again : (c : ℕ) (rest : List ℕ) → scalar c ≡ true → (n : ℕ) × (first_character (code16 c ++ rest) ≡ Some (make c n))
front_again c rest is = elim (cases_lt c 0x1_0000) [
  | inl small ↦ (2, single_front c rest is small)
  | inr large ↦
      let top = scalar_top c is in
      (4, double_front c (0xD800 + (c - 0x1_0000) / 0x400) (0xDC00 + (c - 0x1_0000) % 0x400) rest (omega arith) (omega arith) (omega arith) (omega arith) (omega arith))
]

-- at a place where none is found begins no character
pub none_begins : (bytes : List ℕ) → first_character bytes ≡ None → (c : ℕ) → BeginsWith Utf16Be c bytes → ⊥
unfolding encoding_of
none_begins bytes none c is = let f = front_again c is.0 is.1 in let h = sym none ∙ ap first_character is.3 ∙ f.1 in cc

pub unit_stops : (bytes : List ℕ) (place : ℕ) (text : List ℕ) → Decoded Utf16Be bytes place text → place < length bytes → first_character (drop place bytes) ≡ None → StopsAt Utf16Be bytes place
unit_stops bytes place text d within none = stops Utf16Be bytes place text d within (none_begins (drop place bytes) none)

tail_same : (b : ℕ) (y z : List ℕ) → b ∷ y ≡ b ∷ z → y ≡ z
tail_same b y z e = cc

same_behind : (x y z : List ℕ) → x ++ y ≡ x ++ z → y ≡ z
same_behind [] y z e = e
same_behind (b ∷ x) y z e = same_behind x y z (tail_same b (x ++ y) (x ++ z) e)

pub same16 : (c d : ℕ) (r s : List ℕ) → scalar c ≡ true → scalar d ≡ true → code16 c ++ r ≡ code16 d ++ s → (c ≡ d) × (r ≡ s)
same16 c d r s a b e =
    let f = front_again c r a in
    let g = front_again d s b in
    let found_same : Some (make c f.0) ≡ Some (make d g.0) = sym f.1 ∙ ap first_character e ∙ g.1 in
    let first : c ≡ d = ap (λ (x : FirstCharacter). x.character) (some_found (make c f.0) (make d g.0) found_same) in
    (first, same_behind (code16 c) r s (e ∙ ap (λ k. code16 k ++ s) (sym first)))

pub some16 : (c : ℕ) → 1 ≤ length (code16 c)
some16 c = elim (nat_lt c 0x1_0000) as (λ t. 1 ≤ length (flat_map unit_bytes (cond t (c ∷ []) ((0xD800 + (c - 0x1_0000) / 0x400) ∷ (0xDC00 + (c - 0x1_0000) % 0x400) ∷ [])))) [ true ↦ omega arith | false ↦ omega arith ]
