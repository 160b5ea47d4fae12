-- What begins with a code other than a run: the fewest bits are those of a standing code, and no standing code has fewer.
use Rattle.std.proofs.Common.{◌≡◌, ◌⊎◌, inl, inr, ℕ, zero, suc, ◌+◌, ◌^◌, ◌<◌, ◌≤◌, min, Bool, true, false, List, [], ◌∷◌, ◌++◌, length, drop, All, Option, Some, None, slice_get, refl, sym, ap, subst, ◌∙◌, arith}
use Rattle.std.proofs.lemmas.Bool.{cases_Bool, cond-true, cond-false}
use Rattle.bar_base.specs.Elements.{IsElement}
use Rattle.bar_base.specs.declared.element.Element.{Element}
use Rattle.bar_base.specs.declared.element.Element.TheVariants as element
use Rattle.std.proofs.lemmas.List.{length-drop}
use Rattle.std.proofs.lemmas.List.Elements.{All-head}
use Rattle.aztec_modes.specs.declared.mode.Mode.{Mode}
use Rattle.aztec_modes.specs.declared.mode.Mode.TheVariants.{Upper, Lower, Mixed, Punct, Digit}
use Rattle.aztec_modes.specs.declared.code.Code.{Code}
use Rattle.aztec_modes.specs.declared.code.Code.TheVariants.{Latch, Plain, Shift, Fnc1, Eci, Run}
use Rattle.aztec_modes.specs.declared.table.Symbol.{Symbol}
use Rattle.aztec_modes.specs.declared.table.Symbol.TheVariants.{Absent, One, Two, LatchTo, ShiftTo, Binary, Flag}
use Rattle.aztec_modes.specs.Codes.{table_symbol, code_table, mode_width, data_spelled, number_bits}
use Rattle.aztec_modes.specs.Entry.{Entry, SpellsFront, code_count, code_length, code_next, data_count}
use Rattle.aztec_modes.proofs.Forms.{latch, plain, shift, fnc1, eci, short_run, long_run, Form, entry_of, flag_in, has_flag}
use Rattle.aztec_best.specs.Front.{front_of}
use Rattle.aztec_best.specs.Picks.{cost_through}
use Rattle.aztec_modes.proofs.EntryLaws.{entry_spelled}
use Rattle.aztec_best.specs.declared.costs.Costs.{Costs}
use Rattle.aztec_best.specs.declared.front.Front.{Front}
use Rattle.aztec_best.specs.Bench.{kept_cost}
use Rattle.aztec_best.specs.Numbers.{data_number, punct_length, capital_length, byte_length, fewest_digits, single_length, is_pair, has_pair}
use Rattle.aztec_best.specs.Start.{data_start}
use Rattle.aztec_best.proofs.ByteLaws.{number_there, one_numbered, two_paired, shift_leads, ByteKind, own, sign, capital, none, byte_kind, own_bound, sign_bound, capital_bound, pair_there}

-- a code that spells so many elements, in so many bits, and stays in the mode
pub record Single (m : Mode) (spelled : List Element) (bits : ℕ) : Type 0 where
  pub code : Code
  pub written : List Bool
  pub entry : Entry m code written spelled m
  pub costs : code_length m code ≡ bits

byte_plain : (m : Mode) (k byte bits : ℕ) → table_symbol m k ≡ One byte → bits ≡ mode_width m → Single m (element.Byte byte ∷ []) bits
unfolding code_length data_spelled
byte_plain m k byte bits is e = record {
  code = Plain k;
  written = number_bits m k;
  entry = entry_of (plain (ap data_spelled is));
  costs = sym e;
}

by_shift : (m to : Mode) (number k bits : ℕ) (spelled : List Element) → table_symbol m number ≡ ShiftTo to → data_spelled (table_symbol to k) ≡ Some spelled
    → bits ≡ mode_width m + mode_width to → Single m spelled bits
unfolding code_length
by_shift m to number k bits spelled is data_is e = record {
  code = Shift to k;
  written = number_bits m number ++ number_bits to k;
  entry = entry_of (shift number is data_is);
  costs = sym e;
}

-- a data code of Punct, with the shift that it needs
punct_code : (m : Mode) (k bits : ℕ) (spelled : List Element) → data_spelled (table_symbol Punct k) ≡ Some spelled → bits ≡ punct_length m → Single m spelled bits
unfolding punct_length mode_width table_symbol code_table code_length
punct_code Upper k bits spelled is e = by_shift Upper Punct 0 k bits spelled refl is e
punct_code Lower k bits spelled is e = by_shift Lower Punct 0 k bits spelled refl is e
punct_code Mixed k bits spelled is e = by_shift Mixed Punct 0 k bits spelled refl is e
punct_code Punct k bits spelled is e = record { code = Plain k; written = number_bits Punct k; entry = entry_of (plain is); costs = sym e }
punct_code Digit k bits spelled is e = by_shift Digit Punct 0 k bits spelled refl is e

capital_code : (m : Mode) (k bits : ℕ) (spelled : List Element) → data_spelled (table_symbol Upper k) ≡ Some spelled → bits ≡ capital_length m → bits < 1073741824
    → Single m spelled bits
unfolding capital_length mode_width table_symbol code_table
capital_code Upper k bits spelled is e small = absurd (omega arith)
capital_code Lower k bits spelled is e small = by_shift Lower Upper 28 k bits spelled refl is e
capital_code Mixed k bits spelled is e small = absurd (omega arith)
capital_code Punct k bits spelled is e small = absurd (omega arith)
capital_code Digit k bits spelled is e small = by_shift Digit Upper 15 k bits spelled refl is e

byte_code : (m : Mode) (byte bits : ℕ) → ByteKind m byte bits → bits < 1073741824 → Single m (element.Byte byte ∷ []) bits
unfolding data_spelled
byte_code m byte bits (own is e) small = byte_plain m (data_number m byte) byte bits (number_there m byte is) e
byte_code m byte bits (sign is is_sign e) small = punct_code m (data_number Punct byte) bits (element.Byte byte ∷ []) (ap data_spelled (number_there Punct byte is_sign)) e
byte_code m byte bits (capital is is_sign is_capital e) small =
    capital_code m (data_number Upper byte) bits (element.Byte byte ∷ []) (ap data_spelled (number_there Upper byte is_capital)) e small
byte_code m byte bits (none is is_sign is_capital e) small = absurd (omega arith)

pub digits_fit : (n : ℕ) → n ≤ 999999 → (1 ≤ fewest_digits n) × (fewest_digits n ≤ 6) × (n < 10 ^ fewest_digits n)
unfolding fewest_digits
digits_fit n small = grind arith

pub digits_least : (n count : ℕ) → 1 ≤ count → n < 10 ^ count → fewest_digits n ≤ count
unfolding fewest_digits
digits_least n zero some few = absurd (omega arith)
digits_least n (suc zero) some few = grind arith
digits_least n (suc (suc zero)) some few = grind arith
digits_least n (suc (suc (suc zero))) some few = grind arith
digits_least n (suc (suc (suc (suc zero)))) some few = grind arith
digits_least n (suc (suc (suc (suc (suc zero))))) some few = grind arith
digits_least n (suc (suc (suc (suc (suc (suc count)))))) some few = grind arith

element_code : (m : Mode) (e : Element) → IsElement e → single_length m (Some e) < 1073741824 → Single m (e ∷ []) (single_length m (Some e))
unfolding single_length code_length
element_code m (element.Byte byte) valid small = byte_code m byte (byte_length m byte) (byte_kind m byte) small
element_code m (element.Eci number) valid small =
    let (low, high, fits) = digits_fit number valid in
    record { code = Eci number (fewest_digits number); written = _; entry = entry_of (eci (flag_in m (fewest_digits number) (has_flag m)) low high fits); costs = refl }
element_code m element.Fnc1 valid small = record { code = Fnc1; written = _; entry = entry_of (fnc1 (flag_in m 0 (has_flag m))); costs = refl }

-- a single code at a place
stands_single : (m : Mode) (spelled rest xs : List Element) (bits : ℕ) → (s : Single m spelled bits) → xs ≡ spelled ++ rest → SpellsFront m s.code xs
stands_single m spelled rest xs bits s splits = record { bits = s.written; spelled = spelled; rest = rest; next = m; entry = s.entry; splits = splits }

-- what is reached: a standing code that spells something, and the bits through it
pub record Reached (table : List Costs) (place : ℕ) (m : Mode) (xs : List Element) (bits : ℕ) : Type 0 where
  pub code : Code
  pub stands : SpellsFront m code xs
  pub many : 1 ≤ code_count m code
  pub sum : bits ≡ cost_through table place m code

through_of : (table : List Costs) (place : ℕ) (m : Mode) (code : Code) (cost count bits : ℕ) → code_length m code ≡ cost → code_count m code ≡ count → code_next m code ≡ m
    → bits ≡ cost + kept_cost table (place + count) m → bits ≡ cost_through table place m code
unfolding cost_through
through_of table place m code cost count bits costs counts stays sum =
    sum ∙ ap (λ (c : ℕ). c + kept_cost table (place + count) m) (sym costs)
    ∙ ap (λ (n : ℕ). code_length m code + kept_cost table (place + n) m) (sym counts)
    ∙ ap (λ (x : Mode). code_length m code + kept_cost table (place + code_count m code) x) (sym stays)

reached_by : (table : List Costs) (place : ℕ) (m : Mode) (spelled rest xs : List Element) (cost count bits : ℕ) → Single m spelled cost
    → length spelled ≡ count → 1 ≤ count → xs ≡ spelled ++ rest → bits ≡ cost + kept_cost table (place + count) m → Reached table place m xs bits
reached_by table place m spelled rest xs cost count bits s counted some splits sum =
    let counts : code_count m s.code ≡ count = sym (entry_spelled s.entry) ∙ counted in
    record {
      code = s.code;
      stands = stands_single m spelled rest xs cost s splits;
      many = omega arith;
      sum = through_of table place m s.code cost count bits s.costs counts (sym s.entry.leads) sum;
    }

pub pair_from-bytes : (a b : Option Element) → has_pair a b ≡ true → (x : ℕ) × (y : ℕ) × (a ≡ Some (element.Byte x)) × (b ≡ Some (element.Byte y)) × (is_pair x y ≡ true)
unfolding has_pair
pair_from-bytes (Some (element.Byte x)) (Some (element.Byte y)) is = (x, y, refl, refl, is)
pair_from-bytes (Some (element.Byte x)) (Some (element.Eci n)) is = absurd (cc)
pair_from-bytes (Some (element.Byte x)) (Some element.Fnc1) is = absurd (cc)
pair_from-bytes (Some (element.Byte x)) None is = absurd (cc)
pair_from-bytes (Some (element.Eci n)) b is = absurd (cc)
pair_from-bytes (Some element.Fnc1) b is = absurd (cc)
pair_from-bytes None b is = absurd (cc)

pub first_there : (xs : List Element) (e : Element) → slice_get xs 0 ≡ Some e → (rest : List Element) × (xs ≡ e ∷ rest)
first_there [] e is = absurd (cc)
first_there (x ∷ xs) e is = let s : x ≡ e = cc in (xs, ap (λ (z : Element). z ∷ xs) s)

pub two_there : (xs : List Element) (a b : Element) → slice_get xs 0 ≡ Some a → slice_get xs 1 ≡ Some b → (rest : List Element) × (xs ≡ a ∷ b ∷ rest)
two_there [] a b is is2 = absurd (cc)
two_there (x ∷ []) a b is is2 = absurd (cc)
two_there (x ∷ y ∷ xs) a b is is2 =
    let s : x ≡ a = cc in
    let t : y ≡ b = cc in
    (xs, ap (λ (z : Element). z ∷ y ∷ xs) s ∙ ap (λ (z : Element). a ∷ z ∷ xs) t)

single_some : (m : Mode) (o : Option Element) → single_length m o < 1073741824 → (e : Element) × (o ≡ Some e)
unfolding single_length
single_some m None small = absurd (omega arith)
single_some m (Some e) small = (e, refl)

single_reached : (table : List Costs) (place : ℕ) (m : Mode) (xs : List Element) (bits : ℕ) → All IsElement xs
    → bits ≡ single_length m (slice_get xs 0) + kept_cost table (place + 1) m → bits < 1073741824 → Reached table place m xs bits
single_reached table place m xs bits valid sum small =
    let (e, is) = single_some m (slice_get xs 0) (omega arith) in
    let (rest, splits) = first_there xs e is in
    let ok : IsElement e = All-head IsElement e rest (subst (λ (ys : List Element). All IsElement ys) splits valid) in
    let same : single_length m (slice_get xs 0) ≡ single_length m (Some e) = ap (single_length m) is in
    reached_by table place m (e ∷ []) rest xs (single_length m (Some e)) 1 bits (element_code m e ok (omega arith)) refl (omega arith) splits (omega arith)

pair_reached : (table : List Costs) (place : ℕ) (m : Mode) (xs : List Element) (bits : ℕ) → has_pair (slice_get xs 0) (slice_get xs 1) ≡ true
    → bits ≡ punct_length m + kept_cost table (place + 2) m → Reached table place m xs bits
unfolding data_spelled
pair_reached table place m xs bits is sum =
    let (a, b, first, second, pair) = pair_from-bytes (slice_get xs 0) (slice_get xs 1) is in
    let (rest, splits) = two_there xs (element.Byte a) (element.Byte b) first second in
    let (k, there) = pair_there a b pair in
    reached_by table place m (element.Byte a ∷ element.Byte b ∷ []) rest xs (punct_length m) 2 bits
    (punct_code m k (punct_length m) (element.Byte a ∷ element.Byte b ∷ []) (ap data_spelled there) refl) refl (omega arith) splits sum

min_is : (a b c : ℕ) → c ≡ min a b → (c ≡ a) ⊎ (c ≡ b)
min_is a b c e = grind arith

pub data_reached : (table : List Costs) (place : ℕ) (m : Mode) (xs : List Element) (bits : ℕ) → All IsElement xs
    → bits ≡ data_start table place m (front_of xs) → bits < 1073741824 → Reached table place m xs bits
unfolding data_start
data_reached table place m xs bits valid sum small =
    let single : ℕ = single_length m (slice_get xs 0) + kept_cost table (place + 1) m in
    let pair : ℕ = punct_length m + kept_cost table (place + 2) m in
    elim (cases_Bool (has_pair (slice_get xs 0) (slice_get xs 1))) [
      | inl is ↦ elim (min_is single pair bits (sum ∙ cond-true (has_pair (slice_get xs 0) (slice_get xs 1)) (min single pair) single is)) [
        | inl of_single ↦ single_reached table place m xs bits valid of_single small
        | inr of_pair ↦ pair_reached table place m xs bits is of_pair
      ]
      | inr not ↦ single_reached table place m xs bits valid (sum ∙ cond-false (has_pair (slice_get xs 0) (slice_get xs 1)) (min single pair) single not) small
    ]

-- no standing code has fewer
single_bound : (table : List Costs) (place : ℕ) (m : Mode) (xs rest : List Element) (e : Element) (code : Code) → xs ≡ e ∷ rest
    → single_length m (Some e) ≤ code_length m code → code_count m code ≡ 1 → code_next m code ≡ m → data_start table place m (front_of xs) ≤ cost_through table place m code
unfolding data_start
single_bound table place m xs rest e code splits few counts stays =
    let first : slice_get xs 0 ≡ Some e = ap (λ (ys : List Element). slice_get ys 0) splits in
    let same : single_length m (slice_get xs 0) ≡ single_length m (Some e) = ap (single_length m) first in
    let sum : code_length m code + kept_cost table (place + 1) m ≡ cost_through table place m code =
    through_of table place m code (code_length m code) 1 (code_length m code + kept_cost table (place + 1) m) refl counts stays refl in
    elim (cases_Bool (has_pair (slice_get xs 0) (slice_get xs 1))) [
      | inl is ↦ let there = cond-true (has_pair (slice_get xs 0) (slice_get xs 1)) (min (single_length m (slice_get xs 0) + kept_cost table (place + 1) m) (punct_length m + kept_cost table (place + 2) m))
          (single_length m (slice_get xs 0) + kept_cost table (place + 1) m) is in omega (arith, there, same, sum)
      | inr not ↦ let there = cond-false (has_pair (slice_get xs 0) (slice_get xs 1)) (min (single_length m (slice_get xs 0) + kept_cost table (place + 1) m) (punct_length m + kept_cost table (place + 2) m))
          (single_length m (slice_get xs 0) + kept_cost table (place + 1) m) not in omega (arith, there, same, sum)
    ]

pair_bound : (table : List Costs) (place : ℕ) (m : Mode) (xs rest : List Element) (a b : ℕ) (code : Code) → xs ≡ element.Byte a ∷ element.Byte b ∷ rest
    → is_pair a b ≡ true → punct_length m ≤ code_length m code → code_count m code ≡ 2 → code_next m code ≡ m
    → data_start table place m (front_of xs) ≤ cost_through table place m code
unfolding data_start has_pair
pair_bound table place m xs rest a b code splits pair few counts stays =
    let is : has_pair (slice_get xs 0) (slice_get xs 1) ≡ true = ap (λ (ys : List Element). has_pair (slice_get ys 0) (slice_get ys 1)) splits ∙ pair in
    let sum : code_length m code + kept_cost table (place + 2) m ≡ cost_through table place m code =
    through_of table place m code (code_length m code) 2 (code_length m code + kept_cost table (place + 2) m) refl counts stays refl in
    let there = cond-true (has_pair (slice_get xs 0) (slice_get xs 1)) (min (single_length m (slice_get xs 0) + kept_cost table (place + 1) m) (punct_length m + kept_cost table (place + 2) m))
    (single_length m (slice_get xs 0) + kept_cost table (place + 1) m) is in
    omega (arith, there, sum)

-- what a data code spells
pub data DataKind (s : Symbol) (spelled : List Element) : Type 0 where
  one : (byte : ℕ) → s ≡ One byte → spelled ≡ element.Byte byte ∷ [] → DataKind s spelled
  two : (a b : ℕ) → s ≡ Two a b → spelled ≡ element.Byte a ∷ element.Byte b ∷ [] → DataKind s spelled

pub data_kind : (s : Symbol) (spelled : List Element) → data_spelled s ≡ Some spelled → DataKind s spelled
unfolding data_spelled
data_kind (One a) spelled is = one a refl (cc)
data_kind (Two a b) spelled is = two a b refl (cc)
data_kind Absent spelled is = absurd (cc)
data_kind (LatchTo to) spelled is = absurd (cc)
data_kind (ShiftTo to) spelled is = absurd (cc)
data_kind Binary spelled is = absurd (cc)
data_kind Flag spelled is = absurd (cc)

mode_width-punct : mode_width Punct ≡ 5
unfolding mode_width
mode_width-punct = refl

mode_width-upper : mode_width Upper ≡ 5
unfolding mode_width
mode_width-upper = refl

punct_length-punct : punct_length Punct ≡ 5
unfolding punct_length
punct_length-punct = refl

plain_bound : (table : List Costs) (place : ℕ) (m : Mode) (xs rest spelled : List Element) (number : ℕ) → DataKind (table_symbol m number) spelled
    → xs ≡ spelled ++ rest → data_start table place m (front_of xs) ≤ cost_through table place m (Plain number)
unfolding code_length code_count code_next data_count single_length
plain_bound table place m xs rest spelled number (one byte is e) splits =
    single_bound table place m xs rest (element.Byte byte) (Plain number) (splits ∙ ap (λ (ys : List Element). ys ++ rest) e)
    (own_bound m byte (byte_length m byte) (byte_kind m byte) (one_numbered m number byte is)) (ap data_count is) refl
plain_bound table place m xs rest spelled number (two a b is e) splits =
    let (punct, pair) = two_paired m number a b is in
    pair_bound table place m xs rest a b (Plain number) (splits ∙ ap (λ (ys : List Element). ys ++ rest) e) pair
    (omega (arith, ap punct_length punct, ap mode_width punct, punct_length-punct, mode_width-punct)) (ap data_count is) refl

shift_bound : (table : List Costs) (place : ℕ) (m to : Mode) (xs rest spelled : List Element) (number second : ℕ) → table_symbol m number ≡ ShiftTo to
    → DataKind (table_symbol to second) spelled → xs ≡ spelled ++ rest → data_start table place m (front_of xs) ≤ cost_through table place m (Shift to second)
unfolding code_length code_count code_next data_count single_length
shift_bound table place m to xs rest spelled number second shifts (one byte is e) splits =
    single_bound table place m xs rest (element.Byte byte) (Shift to second) (splits ∙ ap (λ (ys : List Element). ys ++ rest) e)
    (elim (shift_leads m to number shifts) [
      | inl w ↦ omega (
        arith,
        w.1,
        ap mode_width w.0,
        mode_width-punct,
        sign_bound m byte (byte_length m byte) (byte_kind m byte) (one_numbered Punct second byte (subst (λ (x : Mode). table_symbol x second ≡ One byte) w.0 is)),
      )
      | inr w ↦ omega (
        arith,
        w.1,
        ap mode_width w.0,
        mode_width-upper,
        capital_bound m byte (byte_length m byte) (byte_kind m byte) (one_numbered Upper second byte (subst (λ (x : Mode). table_symbol x second ≡ One byte) w.0 is)),
      )
    ]) (ap data_count is) refl
shift_bound table place m to xs rest spelled number second shifts (two a b is e) splits =
    let (punct, pair) = two_paired to second a b is in
    pair_bound table place m xs rest a b (Shift to second) (splits ∙ ap (λ (ys : List Element). ys ++ rest) e) pair
    (elim (shift_leads m to number shifts) [
      | inl w ↦ omega (arith, w.1, ap mode_width w.0, mode_width-punct)
      | inr w ↦ absurd (let clash : Upper ≡ Punct = sym w.0 ∙ punct in cc)
    ]) (ap data_count is) refl

-- whether a code is a run
unfoldable pub is_run : Code → Bool
is_run (Run count long) = true
is_run (Plain number) = false
is_run (Shift to number) = false
is_run Fnc1 = false
is_run (Eci number count) = false
is_run (Latch to) = false

pub data_bound : {m next : Mode} {code : Code} {bits : List Bool} {spelled : List Element} (table : List Costs) (place : ℕ) (xs rest : List Element)
    → Form m code bits spelled next → xs ≡ spelled ++ rest → 1 ≤ code_count m code → is_run code ≡ false
    → data_start table place m (front_of xs) ≤ cost_through table place m code
unfolding is_run code_count code_length code_next single_length
data_bound table place xs rest (latch number is) splits many no_run = absurd (omega arith)
data_bound {m = m} {spelled = spelled} table place xs rest (plain {number = number} is) splits many no_run =
    plain_bound table place m xs rest spelled number (data_kind (table_symbol m number) spelled is) splits
data_bound {m = m} {spelled = spelled} table place xs rest (shift {to = to} number {second = second} is data_is) splits many no_run =
    shift_bound table place m to xs rest spelled number second is (data_kind (table_symbol to second) spelled data_is) splits
data_bound {m = m} table place xs rest (fnc1 flag) splits many no_run = single_bound table place m xs rest element.Fnc1 Fnc1 splits (omega arith) refl refl
data_bound {m = m} table place xs rest (eci {number = number} {count = count} flag low high fits) splits many no_run =
    single_bound table place m xs rest (element.Eci number) (Eci number count) splits (omega (arith, digits_least number count low fits)) refl refl
data_bound table place xs rest (short_run number bytes is size low high ok) splits many no_run = absurd (cc)
data_bound table place xs rest (long_run number bytes is size low high ok) splits many no_run = absurd (cc)

-- a pair in front stands within the elements
pub pair_within : (front : Front) (es : List Element) (place : ℕ) → front ≡ front_of (drop place es) → has_pair front.first front.second ≡ true → place ≤ length es
    → place + 2 ≤ length es
pair_within front es place fronts is within =
    let pair : has_pair (slice_get (drop place es) 0) (slice_get (drop place es) 1) ≡ true = sym (ap (λ (f : Front). has_pair f.first f.second) fronts) ∙ is in
    let (a, b, first, second, paired) = pair_from-bytes (slice_get (drop place es) 0) (slice_get (drop place es) 1) pair in
    let (rest, splits) = two_there (drop place es) (element.Byte a) (element.Byte b) first second in
    omega (arith, ap length splits, length-drop place es)
