-- What holds of the tables.
use Rattle.std.proofs.Common.{◌≡◌, ℕ, zero, suc, ◌+◌, ◌-◌, ◌<◌, ◌≤◌, ◌∙◌, ◌==◌, ◌&&◌, ◌++◌, nat_le, nat_lt, List, [], ◌∷◌, Bool, true, false, cond, if◌then◌else◌, Option, Some, None, refl, ap, sym, arith, inl, inr}
use Rattle.std.specs.Option.{option_map}
use Rattle.std.specs.List.{find, flat_map, list_all}
use Rattle.std.proofs.lemmas.Bool.{and_parts, cases_lt, eqb-true, eqb-false, le-leb, le-ltb, leb-true, lt-leb, lt-ltb}
use Rattle.std.proofs.lemmas.List.Folds.{list_all-append}
use Rattle.eci_sets.specs.CodePages.{byte_by_ranges, byte_for, byte_paired, character_by_ranges, character_for, covers_character, page_pairs, pairs_from, range_pairs, ranges_of}
use Rattle.eci_sets.specs.declared.code_page.CodePage.{CodePage}
use Rattle.eci_sets.specs.declared.code_page.CodePage.TheVariants.{Latin1, Cyrillic, Latin5, Latin9, Windows1251, Windows1252, Ascii, Binary}
use Rattle.eci_sets.specs.declared.tables.CodeRange.{CodeRange}

pub found_passes : {X : Type 0} (p : X → Bool) (xs : List X) (x : X) → find p xs ≡ Some x → p x ≡ true
found_passes p [] x e = cc
found_passes p (y ∷ ys) x e = elim (p y) as (λ t. p y ≡ t → cond t (Some y) (find p ys) ≡ Some x → p x ≡ true) [
  | true ↦ λ is same. cc
  | false ↦ λ is found. found_passes p ys x found
] refl e

pub byte_fits : (rs : List CodeRange) (r : CodeRange) (c : ℕ) → find (covers_character c) rs ≡ Some r → (r.character ≤ c) × (c + r.first ≤ r.character + r.last)
byte_fits rs r c e =
    let p = and_parts (nat_le r.character c) (nat_le (c + r.first) (r.character + r.last)) (found_passes (covers_character c) rs r e) in
    (leb-true r.character c p.0, leb-true (c + r.first) (r.character + r.last) p.1)

-- a test of all pairs holds of the pair of a character that is found
pub pairs_at : (t : ℕ × ℕ → Bool) (n b c k : ℕ) → list_all t (pairs_from n b c) ≡ true → k < n → t (b + k, c + k) ≡ true
pairs_at t zero b c k all below = absurd (omega arith)
pairs_at t (suc n) b c zero all below =
    let parts = and_parts (t (b, c)) (list_all t (pairs_from n (b + 1) (c + 1))) all in
    let eb : b ≡ b + 0 = omega arith in
    let ec : c ≡ c + 0 = omega arith in
    ap (λ x. t (x, c + 0)) (sym eb) ∙ ap (λ x. t (b, x)) (sym ec) ∙ parts.0
pairs_at t (suc n) b c (suc k) all below =
    let parts = and_parts (t (b, c)) (list_all t (pairs_from n (b + 1) (c + 1))) all in
    let eb : b + suc k ≡ (b + 1) + k = omega arith in
    let ec : c + suc k ≡ (c + 1) + k = omega arith in
    ap (λ x. t (x, c + suc k)) eb ∙ ap (λ x. t ((b + 1) + k, x)) ec ∙ pairs_at t n (b + 1) (c + 1) k parts.1 (omega arith)

some_same : (a b : ℕ) → Some a ≡ Some b → a ≡ b
some_same a b e = cc

pair_found : (t : ℕ × ℕ → Bool) (rs : List CodeRange) (c b : ℕ) → list_all t (flat_map range_pairs rs) ≡ true
    → option_map (λ r. r.first + (c - r.character)) (find (covers_character c) rs) ≡ Some b → t (b, c) ≡ true
pair_found t [] c b all e = cc
pair_found t (r ∷ rs) c b all e =
    let parts = and_parts (list_all t (range_pairs r)) (list_all t (flat_map range_pairs rs)) (sym (list_all-append t (range_pairs r) (flat_map range_pairs rs)) ∙ all) in
    elim (covers_character c r) as (λ s. covers_character c r ≡ s → option_map (λ q. q.first + (c - q.character)) (cond s (Some r) (find (covers_character c) rs)) ≡ Some b → t (b, c) ≡ true) [
      | true ↦ λ is found.
          let both = and_parts (nat_le r.character c) (nat_le (c + r.first) (r.character + r.last)) is in
          let low : r.character ≤ c = leb-true r.character c both.0 in
          let high : c + r.first ≤ r.character + r.last = leb-true (c + r.first) (r.character + r.last) both.1 in
          let byte : r.first + (c - r.character) ≡ b = some_same (r.first + (c - r.character)) b found in
          let back : r.character + (c - r.character) ≡ c = omega arith in
          ap (λ x. t (x, c)) (sym byte) ∙ ap (λ x. t (r.first + (c - r.character), x)) (sym back)
          ∙ pairs_at t ((r.last + 1) - r.first) r.first r.character (c - r.character) parts.0 (omega arith)
      | false ↦ λ is found. pair_found t rs c b parts.1 found
    ] refl e

abbrev pub is_just : ℕ → Option ℕ → Bool
is_just n None = false
is_just n (Some m) = m == n

pub just : (n : ℕ) (o : Option ℕ) → is_just n o ≡ true → o ≡ Some n
just n None e = cc
just n (Some m) e = ap (λ (k : ℕ). Some k) (eqb-true m n e)

-- byte and character of a pair lead to each other
abbrev pub pair_test : List CodeRange → ℕ × ℕ → Bool
pair_test rs p = is_just p.1 (character_by_ranges rs p.0) && is_just p.0 (byte_by_ranges rs p.1)

pub tested : (page : CodePage) → list_all (pair_test (ranges_of page)) (flat_map range_pairs (ranges_of page)) ≡ true
unfolding ranges_of character_by_ranges byte_by_ranges
tested Latin1 = refl
tested Cyrillic = refl
tested Latin5 = refl
tested Latin9 = refl
tested Windows1251 = refl
tested Windows1252 = refl
tested Ascii = refl
tested Binary = refl

-- the table is its list of pairs: looking through the list gives the same byte
picked : (t : Bool) (a b : Option ℕ) → t ≡ true → (if t then a else b) ≡ a
picked true a b e = refl
picked false a b e = cc

passed : (t : Bool) (a b : Option ℕ) → t ≡ false → (if t then a else b) ≡ b
passed true a b e = cc
passed false a b e = refl

abbrev in_pairs : ℕ → ℕ → ℕ → Bool
in_pairs n c0 c = nat_le c0 c && nat_lt c (c0 + n)

inside : (n c0 c : ℕ) → c0 ≤ c → c < c0 + n → in_pairs n c0 c ≡ true
inside n c0 c low high = ap (λ t. t && nat_lt c (c0 + n)) (le-leb c0 c low) ∙ lt-ltb c (c0 + n) high

below : (n c0 c : ℕ) → c < c0 → in_pairs n c0 c ≡ false
below n c0 c less = ap (λ t. t && nat_lt c (c0 + n)) (lt-leb c0 c less)

above : (n c0 c : ℕ) → c0 ≤ c → c0 + n ≤ c → in_pairs n c0 c ≡ false
above n c0 c low high = ap (λ t. t && nat_lt c (c0 + n)) (le-leb c0 c low) ∙ le-ltb c (c0 + n) high

shifted : (n c0 c : ℕ) → c0 < c → in_pairs n (c0 + 1) c ≡ in_pairs (suc n) c0 c
shifted n c0 c less = elim (cases_lt c (c0 + suc n)) [
  | inl high ↦ inside n (c0 + 1) c (omega arith) (omega arith) ∙ sym (inside (suc n) c0 c (omega arith) high)
  | inr past ↦ above n (c0 + 1) c (omega arith) (omega arith) ∙ sym (above (suc n) c0 c (omega arith) past)
]

other : (n b0 c0 c : ℕ) (o : Option ℕ) → (c0 ≡ c → ⊥) → (if in_pairs n (c0 + 1) c then Some ((b0 + 1) + (c - (c0 + 1))) else o) ≡ (if in_pairs (suc n) c0 c then Some (b0 + (c - c0)) else o)
other n b0 c0 c o differ = elim (cases_lt c c0) [
  | inl less ↦ passed (in_pairs n (c0 + 1) c) (Some ((b0 + 1) + (c - (c0 + 1)))) o (below n (c0 + 1) c (omega arith)) ∙ sym (passed (in_pairs (suc n) c0 c) (Some (b0 + (c - c0))) o (below (suc n) c0 c less))
  | inr low ↦
      let more : c0 < c = omega arith in
      let sum : (b0 + 1) + (c - (c0 + 1)) ≡ b0 + (c - c0) = omega arith in
      ap (λ t. if t then Some ((b0 + 1) + (c - (c0 + 1))) else o) (shifted n c0 c more) ∙ ap (λ k. if in_pairs (suc n) c0 c then Some k else o) sum
]

pairs_lookup : (n b0 c0 c : ℕ) (rest : List (ℕ × ℕ)) → byte_paired c (pairs_from n b0 c0 ++ rest) ≡ (if in_pairs n c0 c then Some (b0 + (c - c0)) else byte_paired c rest)
pairs_lookup zero b0 c0 c rest = elim (cases_lt c c0) [
  | inl less ↦ sym (passed (in_pairs zero c0 c) (Some (b0 + (c - c0))) (byte_paired c rest) (below zero c0 c less))
  | inr low ↦ sym (passed (in_pairs zero c0 c) (Some (b0 + (c - c0))) (byte_paired c rest) (above zero c0 c low (omega arith)))
]
pairs_lookup (suc n) b0 c0 c rest =
    elim (c0 == c) as (λ t. (c0 == c) ≡ t → option_map (λ p. p.0) (cond t (Some (b0, c0)) (find (λ p. p.1 == c) (pairs_from n (b0 + 1) (c0 + 1) ++ rest)))
    ≡ (if in_pairs (suc n) c0 c then Some (b0 + (c - c0)) else byte_paired c rest)) [
      | true ↦ λ e.
          let same : c0 ≡ c = eqb-true c0 c e in
          let zero_more : b0 ≡ b0 + (c - c0) = omega arith in
          ap (λ (k : ℕ). Some k) zero_more ∙ sym (picked (in_pairs (suc n) c0 c) (Some (b0 + (c - c0))) (byte_paired c rest) (inside (suc n) c0 c (omega arith) (omega arith)))
      | false ↦ λ e. pairs_lookup n (b0 + 1) (c0 + 1) c rest ∙ other n b0 c0 c (byte_paired c rest) (eqb-false c0 c e)
    ] refl

range_same : (r : CodeRange) (c : ℕ) → in_pairs ((r.last + 1) - r.first) r.character c ≡ covers_character c r
range_same r c = elim (cases_lt c r.character) [
  | inl less ↦ below ((r.last + 1) - r.first) r.character c less ∙ sym (ap (λ t. t && nat_le (c + r.first) (r.character + r.last)) (lt-leb r.character c less))
  | inr low ↦ elim (cases_lt c (r.character + ((r.last + 1) - r.first))) [
    | inl high ↦ inside ((r.last + 1) - r.first) r.character c low high ∙ sym (ap (λ t. t && nat_le (c + r.first) (r.character + r.last)) (le-leb r.character c low) ∙ le-leb (c + r.first) (r.character + r.last) (omega arith))
    | inr past ↦ above ((r.last + 1) - r.first) r.character c low past ∙ sym (ap (λ t. t && nat_le (c + r.first) (r.character + r.last)) (le-leb r.character c low) ∙ lt-leb (c + r.first) (r.character + r.last) (omega arith))
  ]
]

by_test : (t : Bool) (r : CodeRange) (o : Option CodeRange) (c : ℕ) → option_map (λ q. q.first + (c - q.character)) (cond t (Some r) o)
    ≡ (if t then Some (r.first + (c - r.character)) else option_map (λ q. q.first + (c - q.character)) o)
by_test true r o c = refl
by_test false r o c = refl

pub byte_is_paired : (rs : List CodeRange) (c : ℕ) → byte_by_ranges rs c ≡ byte_paired c (flat_map range_pairs rs)
unfolding byte_by_ranges
byte_is_paired [] c = refl
byte_is_paired (r ∷ rs) c =
    by_test (covers_character c r) r (find (covers_character c) rs) c
    ∙ ap (λ t. if t then Some (r.first + (c - r.character)) else option_map (λ q. q.first + (c - q.character)) (find (covers_character c) rs)) (sym (range_same r c))
    ∙ ap (λ o. if in_pairs ((r.last + 1) - r.first) r.character c then Some (r.first + (c - r.character)) else o) (byte_is_paired rs c)
    ∙ sym (pairs_lookup ((r.last + 1) - r.first) r.first r.character c (flat_map range_pairs rs))

pub byte_for_is : (page : CodePage) (c : ℕ) → byte_for page c ≡ byte_by_ranges (ranges_of page) c
unfolding byte_for page_pairs
byte_for_is page c = sym (byte_is_paired (ranges_of page) c)

pub goes_back : (page : CodePage) (c b : ℕ) → byte_for page c ≡ Some b → character_for page b ≡ Some c
unfolding character_for byte_by_ranges
goes_back page c b e =
    let p = pair_found (pair_test (ranges_of page)) (ranges_of page) c b (tested page) (sym (byte_for_is page c) ∙ e) in
    just c (character_by_ranges (ranges_of page) b) (and_parts (is_just c (character_by_ranges (ranges_of page) b)) (is_just b (byte_by_ranges (ranges_of page) c)) p).0
