-- The code that is computed at the front of bits is an entry that stands there.
use Rattle.std.proofs.Common.{◌≡◌, ℕ, zero, suc, ◌+◌, ◌-◌, ◌*◌, ◌/◌, ◌%◌, ◌^◌, ◌<◌, ◌≤◌, inl, inr, Bool, true, false, List, [], ◌∷◌, ◌++◌, length, take, drop, refl, sym, ap, subst, ◌∙◌, arith}
use Rattle.std.specs.Prelude.{Option, Some, None, All, ◌==◌, if◌then◌else◌, nat_lt, is_some}
use Rattle.std.proofs.Math.Nat.{pow-suc, mul-le-mul_right, mul_comm, mul_assoc}
use Rattle.std.proofs.Math.Pow.{pow_mono}
use Rattle.std.proofs.Math.Seq.{take-add}
use Rattle.std.proofs.lemmas.List.{append_assoc, append-nil, take_at, drop_at, take-append-drop, length-append, length-drop, length-take, length-take-le, drop-drop}
use Rattle.std.proofs.lemmas.List.Elements.{All-nil, All-cons}
use Rattle.std.proofs.lemmas.Bool.{cond-true, cond-false, eq-eqb, ne_eqb, eqb-true, cases_lt, le-ltb, lt-ltb, ltb-true, ltb-false}
use Rattle.std.proofs.lemmas.Bool.Decides.{nat_tests}
use Rattle.bar_base.specs.Bits.{to_bits, number_after}
use Rattle.bar_base.specs.declared.element.Element.{Element}
use Rattle.bar_base.specs.declared.element.Element.TheVariants as element
use Rattle.aztec_modes.specs.declared.mode.Mode.{Mode}
use Rattle.aztec_modes.specs.declared.mode.Mode.TheVariants.{Digit}
use Rattle.aztec_modes.specs.declared.code.Code.{Code}
use Rattle.aztec_modes.specs.declared.code.Code.TheVariants.{Latch, Plain, Shift, Fnc1, Eci, Run}
use Rattle.aztec_modes.specs.declared.table.Symbol.{Symbol}
use Rattle.aztec_modes.specs.declared.table.Symbol.TheVariants.{Absent, One, Two, LatchTo, ShiftTo, Binary, Flag}
use Rattle.aztec_modes.specs.Codes.{table_symbol, mode_width, number_bits, data_spelled}
use Rattle.aztec_modes.specs.Entry.{digit_bits, bytes_as_elements, code_next, Entry}
use Rattle.aztec_modes.proofs.Forms.{FlagBits, direct, shifted, byte_bits, latch, plain, shift, fnc1, eci, short_run, long_run, entry_of}
use Rattle.aztec_modes.specs.Ahead.{number_ahead, onward_from, code_digit, digit_ahead, digits_ahead, flag_by, flag_ahead, run_by, long_ahead, run_ahead, second_by, second_ahead, first_by, code_ahead, bytes_in, data_elements, spelled_ahead}
use Rattle.aztec_modes.proofs.TableFacts.{binary_at}
use Rattle.aztec_modes.proofs.EntryLaws.{length-number_bits}
use Rattle.bar_base.proofs.NumberBits.{length-to_bits}

-- The number of bits has the bits.
to_bits-value : (width front : ℕ) (bits : List Bool) → to_bits (width + length bits) (number_after front bits) ≡ to_bits width front ++ bits
unfolding number_after to_bits
to_bits-value width front [] = ap (λ (w : ℕ). to_bits w front) (let e : width + 0 ≡ width = omega arith in e) ∙ sym (append-nil (to_bits width front))
to_bits-value width front (bit ∷ bits) =
    ap (λ (w : ℕ). to_bits w (number_after (front * 2 + (if bit then 1 else 0)) bits)) (let e : width + suc (length bits) ≡ suc width + length bits = omega arith in e)
    ∙ to_bits-value (suc width) (front * 2 + (if bit then 1 else 0)) bits
    ∙ ap (λ (xs : List Bool). xs ++ bits) (one_more bit)
    ∙ append_assoc (to_bits width front) (bit ∷ []) bits
  where
    one_more : (b : Bool) → to_bits width ((front * 2 + (if b then 1 else 0)) / 2) ++ ((front * 2 + (if b then 1 else 0)) % 2 == 1) ∷ [] ≡ to_bits width front ++ b ∷ []
    one_more true =
        ap (λ (n : ℕ). to_bits width n ++ ((front * 2 + 1) % 2 == 1) ∷ []) (let e : (front * 2 + 1) / 2 ≡ front = omega arith in e)
        ∙ ap (λ (b : Bool). to_bits width front ++ b ∷ []) (eq-eqb ((front * 2 + 1) % 2) 1 (omega arith))
    one_more false =
        ap (λ (n : ℕ). to_bits width n ++ ((front * 2 + 0) % 2 == 1) ∷ []) (let e : (front * 2 + 0) / 2 ≡ front = omega arith in e)
        ∙ ap (λ (b : Bool). to_bits width front ++ b ∷ []) (ne_eqb ((front * 2 + 0) % 2) 1 (λ h. absurd (omega (arith, h))))

pub to_bits-number : (bits : List Bool) → to_bits (length bits) (number_after 0 bits) ≡ bits
unfolding to_bits
to_bits-number bits = ap (λ (w : ℕ). to_bits w (number_after 0 bits)) (let e : length bits ≡ 0 + length bits = omega arith in e) ∙ to_bits-value 0 0 bits

-- A number that stands in front.
number_found : (width n : ℕ) (bits : List Bool) → number_ahead width bits ≡ Some n → bits ≡ to_bits width n ++ drop width bits
unfolding number_ahead
number_found width n bits is = by_test (nat_lt (length bits) width) refl is
  where
    by_test : (b : Bool) → nat_lt (length bits) width ≡ b → (if b then None else Some (number_after 0 (take width bits))) ≡ Some n → bits ≡ to_bits width n ++ drop width bits
    by_test true test is = absurd (cc)
    by_test false test is =
        let number : number_after 0 (take width bits) ≡ n = cc in
        let size : length (take width bits) ≡ width = length-take-le width bits (ltb-false (length bits) width test) in
        sym (take-append-drop width bits)
        ∙ ap (λ (xs : List Bool). xs ++ drop width bits) (sym (to_bits-number (take width bits)) ∙ ap (λ (w : ℕ). to_bits w (number_after 0 (take width bits))) size
        ∙ ap (to_bits width) number)

-- The number of bits is below the power of two that their number makes.
number_after-below : (front : ℕ) (bits : List Bool) → number_after front bits < (front + 1) * 2 ^ length bits
unfolding number_after
number_after-below front [] = omega arith
number_after-below front (bit ∷ bits) = more bit (number_after-below (front * 2 + (if bit then 1 else 0)) bits)
  where
    doubled : (a b p q : ℕ) → a < b * p → b ≤ (front + 1) * 2 → q ≡ p * 2 → a < (front + 1) * q
    doubled a b p q h low is =
        let step : b * p ≤ ((front + 1) * 2) * p = mul-le-mul_right p low in
        let same : (front + 1) * q ≡ ((front + 1) * 2) * p = ap (λ (x : ℕ). (front + 1) * x) (is ∙ mul_comm p 2) ∙ sym (mul_assoc (front + 1) 2 p) in
        omega (arith, h, step, same)

    more : (b : Bool) → number_after (front * 2 + (if b then 1 else 0)) bits < (front * 2 + (if b then 1 else 0) + 1) * 2 ^ length bits
        → number_after (front * 2 + (if b then 1 else 0)) bits < (front + 1) * 2 ^ suc (length bits)
    more true h = doubled (number_after (front * 2 + 1) bits) (front * 2 + 1 + 1) (2 ^ length bits) (2 ^ suc (length bits)) h (omega arith) (pow-suc 2 (length bits))
    more false h = doubled (number_after (front * 2 + 0) bits) (front * 2 + 0 + 1) (2 ^ length bits) (2 ^ suc (length bits)) h (omega arith) (pow-suc 2 (length bits))

take-below : (width : ℕ) (bits : List Bool) → number_after 0 (take width bits) < 2 ^ width
take-below width bits =
    let power : 2 ^ length (take width bits) ≤ 2 ^ width = pow_mono (let e : length (take width bits) ≤ width = omega (arith, length-take width bits) in e) in
    omega (arith, number_after-below 0 (take width bits), power)

number_small : (width n : ℕ) (bits : List Bool) → number_ahead width bits ≡ Some n → n < 2 ^ width
unfolding number_ahead
number_small width n bits is = by_test (nat_lt (length bits) width) is
  where
    by_test : (b : Bool) → (if b then None else Some (number_after 0 (take width bits))) ≡ Some n → n < 2 ^ width
    by_test true is = absurd (cc)
    by_test false is = let e : number_after 0 (take width bits) ≡ n = cc in omega (arith, e, take-below width bits)

-- What was handed on.
record Handed {X : Type 0} (found : Option ℕ) (next : ℕ → Option X) (x : X) : Type 0 where
  number : ℕ
  is : found ≡ Some number
  gives : next number ≡ Some x

handed : {X : Type 0} (found : Option ℕ) (next : ℕ → Option X) (x : X) → onward_from found next ≡ Some x → Handed found next x
unfolding onward_from
handed None next x is = absurd (cc)
handed (Some number) next x is = record { number = number; is = refl; gives = is }

-- A code that stands in front.
pub record IsAhead (mode : Mode) (code : Code) (bits : List Bool) : Type 0 where
  pub front : List Bool
  pub rest : List Bool
  pub entry : Entry mode code front (spelled_ahead mode code bits) (code_next mode code)
  pub splits : bits ≡ front ++ rest

-- Digits in front.
record DigitsFound (width front count number : ℕ) (bits : List Bool) : Type 0 where
  rest : List Bool
  splits : digit_bits width front ++ bits ≡ digit_bits (width + count) number ++ rest
  below : number < 10 ^ (width + count)

digit_found : (d : ℕ) (bits : List Bool) → digit_ahead bits ≡ Some d → (bits ≡ to_bits 4 (d + 2) ++ drop 4 bits) × (d < 10)
unfolding digit_ahead code_digit
digit_found d bits is =
    let h = handed (number_ahead 4 bits) code_digit d is in
    let low = by_tests h.number (nat_lt h.number 2) (nat_lt 11 h.number) refl refl h.gives in
    (number_found 4 h.number bits h.is ∙ ap (λ (n : ℕ). to_bits 4 n ++ drop 4 bits) low.0, low.1)
  where
    by_tests : (n : ℕ) (b c : Bool) → nat_lt n 2 ≡ b → nat_lt 11 n ≡ c → (if b then None else if c then None else Some (n - 2)) ≡ Some d → (n ≡ d + 2) × (d < 10)
    by_tests n true c h h' s = absurd (cc)
    by_tests n false true h h' s = absurd (cc)
    by_tests n false false h h' s =
        let e : n - 2 ≡ d = cc in
        (omega (arith, e, ltb-false n 2 h), omega (arith, e, ltb-false n 2 h, ltb-false 11 n h'))

digit_bits-more : (width front d : ℕ) → d < 10 → digit_bits (suc width) (front * 10 + d) ≡ digit_bits width front ++ to_bits 4 (d + 2)
unfolding digit_bits number_bits mode_width
digit_bits-more width front d small =
    ap (λ (n : ℕ). digit_bits width n ++ to_bits 4 ((front * 10 + d) % 10 + 2)) (let e : (front * 10 + d) / 10 ≡ front = omega arith in e)
    ∙ ap (λ (n : ℕ). digit_bits width front ++ to_bits 4 (n + 2)) (let e : (front * 10 + d) % 10 ≡ d = omega arith in e)

digits_found : (count width front number : ℕ) (bits : List Bool) → front < 10 ^ width → digits_ahead count front bits ≡ Some number → DigitsFound width front count number bits
unfolding digits_ahead
digits_found zero width front number bits fits is =
    let same : front ≡ number = cc in
    let none : width + 0 ≡ width = omega arith in
    record {
      rest = bits;
      splits = ap (λ (n : ℕ). digit_bits width n ++ bits) same ∙ ap (λ (w : ℕ). digit_bits w number ++ bits) (sym none);
      below = subst (λ (n : ℕ). n < 10 ^ (width + 0)) same (subst (λ (w : ℕ). front < 10 ^ w) (sym none) fits);
    }
digits_found (suc count) width front number bits fits is =
    let h = handed (digit_ahead bits) (λ digit. digits_ahead count (front * 10 + digit) (drop 4 bits)) number is in
    let d = digit_found h.number bits h.is in
    let power : 10 ^ suc width ≡ 10 ^ width * 10 = pow-suc 10 width in
    let more = digits_found count (suc width) (front * 10 + h.number) number (drop 4 bits) (omega (arith, power, fits, d.1)) h.gives in
    let size : suc width + count ≡ width + suc count = omega arith in
    record {
      rest = more.rest;
      splits = ap (λ (xs : List Bool). digit_bits width front ++ xs) d.0 ∙ sym (append_assoc (digit_bits width front) (to_bits 4 (h.number + 2)) (drop 4 bits))
          ∙ ap (λ (xs : List Bool). xs ++ drop 4 bits) (sym (digit_bits-more width front h.number d.1)) ∙ more.splits
          ∙ ap (λ (w : ℕ). digit_bits w number ++ more.rest) size;
      below = subst (λ (w : ℕ). number < 10 ^ w) size more.below;
    }

fnc1_ahead : (mode : Mode) (n : ℕ) (front rest bits : List Bool) → n ≡ 0 → FlagBits mode n front → bits ≡ front ++ rest → IsAhead mode Fnc1 bits
unfolding spelled_ahead code_next
fnc1_ahead mode n front rest bits none flag splits =
    record { front = front; rest = rest; entry = entry_of (fnc1 (subst (λ (k : ℕ). FlagBits mode k front) none flag)); splits = splits }

eci_ahead : (mode : Mode) (n number : ℕ) (front rest bits : List Bool) → 1 ≤ n → n ≤ 6 → FlagBits mode n front → digits_ahead n 0 rest ≡ Some number
    → bits ≡ front ++ rest → IsAhead mode (Eci number n) bits
unfolding spelled_ahead code_next digit_bits
eci_ahead mode n number front rest bits low high flag is splits =
    let found = digits_found n 0 0 number rest (omega arith) is in
    let size : 0 + n ≡ n = omega arith in
    let rest_is : rest ≡ digit_bits n number ++ found.rest =
    no_digits rest ∙ found.splits ∙ ap (λ (w : ℕ). digit_bits w number ++ found.rest) size in
    record {
      front = front ++ digit_bits n number;
      rest = found.rest;
      entry = entry_of (eci flag low high (subst (λ (w : ℕ). number < 10 ^ w) size found.below));
      splits = splits ∙ ap (λ (xs : List Bool). front ++ xs) rest_is ∙ sym (append_assoc front (digit_bits n number) found.rest);
    }
  where
    no_digits : (rest : List Bool) → rest ≡ digit_bits 0 0 ++ rest
    no_digits rest = refl

some : (n : ℕ) → (n == 0) ≡ false → 1 ≤ n
some n h = grind (arith, nat_tests)

few : (n : ℕ) → (n == 7) ≡ false → n < 8 → n ≤ 6
few n h small = grind (arith, nat_tests)

-- FLG(n) behind what leads to it.
flag_found : (mode : Mode) (code : Code) (lead bits : List Bool) → ((n : ℕ) → n < 8 → FlagBits mode n (lead ++ to_bits 3 n)) → flag_ahead bits ≡ Some code
    → IsAhead mode code (lead ++ bits)
unfolding flag_ahead flag_by
flag_found mode code lead bits flag is =
    let h = handed (number_ahead 3 bits) (λ n. flag_by n (drop 3 bits)) code is in
    by_tests h.number (drop 3 bits) (number_small 3 h.number bits h.is) (h.number == 0) (h.number == 7) refl refl
    (ap (λ (xs : List Bool). lead ++ xs) (number_found 3 h.number bits h.is) ∙ sym (append_assoc lead (to_bits 3 h.number) (drop 3 bits))) h.gives
  where
    by_tests : (n : ℕ) (rest : List Bool) → n < 8 → (zero_is seven_is : Bool) → (n == 0) ≡ zero_is → (n == 7) ≡ seven_is → lead ++ bits ≡ (lead ++ to_bits 3 n) ++ rest
        → (if zero_is then Some Fnc1 else if seven_is then None else onward_from (digits_ahead n 0 rest) (λ number. Some (Eci number n))) ≡ Some code
        → IsAhead mode code (lead ++ bits)
    by_tests n rest small true b h h' splits s =
        let is : Fnc1 ≡ code = cc in
        subst (λ (c : Code). IsAhead mode c (lead ++ bits)) is (fnc1_ahead mode n (lead ++ to_bits 3 n) rest (lead ++ bits) (eqb-true n 0 h) (flag n small) splits)
    by_tests n rest small false true h h' splits s = absurd (cc)
    by_tests n rest small false false h h' splits s =
        let d = handed (digits_ahead n 0 rest) (λ number. Some (Eci number n)) code s in
        let is : Eci d.number n ≡ code = cc (d.gives) in
        subst (λ (c : Code). IsAhead mode c (lead ++ bits)) is
        (eci_ahead mode n d.number (lead ++ to_bits 3 n) rest (lead ++ bits) (some n h) (few n h' small) (flag n small) d.is splits)

byte_bits-in : (count : ℕ) (bits : List Bool) → 8 * count ≤ length bits → byte_bits (bytes_in count bits) ≡ take (8 * count) bits
unfolding byte_bits bytes_in
byte_bits-in zero bits there = refl
byte_bits-in (suc count) bits there =
    let first : to_bits 8 (number_after 0 (take 8 bits)) ≡ take 8 bits =
    ap (λ (w : ℕ). to_bits w (number_after 0 (take 8 bits))) (sym (length-take-le 8 bits (omega (arith, there)))) ∙ to_bits-number (take 8 bits) in
    ap (λ (xs : List Bool). xs ++ byte_bits (bytes_in count (drop 8 bits))) first
    ∙ ap (λ (xs : List Bool). take 8 bits ++ xs) (byte_bits-in count (drop 8 bits) (omega (arith, length-drop 8 bits, there)))
    ∙ sym (take-add 8 (8 * count) bits)
    ∙ ap (λ (n : ℕ). take n bits) (let e : 8 + 8 * count ≡ 8 * suc count = omega arith in e)

length-bytes_in : (count : ℕ) (bits : List Bool) → length (bytes_in count bits) ≡ count
unfolding bytes_in
length-bytes_in zero bits = refl
length-bytes_in (suc count) bits = ap suc (length-bytes_in count (drop 8 bits))

bytes_in-small : (count : ℕ) (bits : List Bool) → All (λ byte. byte < 256) (bytes_in count bits)
unfolding bytes_in
bytes_in-small zero bits = All-nil (λ byte. byte < 256)
bytes_in-small (suc count) bits = All-cons (λ byte. byte < 256) (number_after 0 (take 8 bits)) (bytes_in count (drop 8 bits)) (take-below 8 bits) (bytes_in-small count (drop 8 bits))

-- A run behind what leads to it.
run_found : (mode : Mode) (count : ℕ) (long : Bool) (code : Code) (bits : List Bool) → run_by count long bits ≡ Some code
    → (8 * count ≤ length bits) × (code ≡ Run count long)
unfolding run_by
run_found mode count long code bits is = by_test (nat_lt (length bits) (8 * count)) refl is
  where
    by_test : (b : Bool) → nat_lt (length bits) (8 * count) ≡ b → (if b then None else Some (Run count long)) ≡ Some code
        → (8 * count ≤ length bits) × (code ≡ Run count long)
    by_test true h s = absurd (cc)
    by_test false h s = (ltb-false (length bits) (8 * count) h, cc)

short_entry : (mode : Mode) (k count : ℕ) (bits : List Bool) → table_symbol mode k ≡ Binary → 1 ≤ count → count < 32 → 8 * count ≤ length bits
    → IsAhead mode (Run count false) (number_bits mode k ++ (to_bits 5 count ++ bits))
unfolding spelled_ahead code_next
short_entry mode k count bits is low high there =
    let at : drop 10 (number_bits mode k ++ (to_bits 5 count ++ bits)) ≡ bits =
    ap (drop 10) (sym (append_assoc (number_bits mode k) (to_bits 5 count) bits))
    ∙ drop_at (number_bits mode k ++ to_bits 5 count) bits 10
    (omega (arith, length-append (number_bits mode k) (to_bits 5 count), length-number_bits mode k, (binary_at mode k is).0, length-to_bits 5 count)) in
    let entry = entry_of (short_run {mode = mode} k {count = count} (bytes_in count bits) is (length-bytes_in count bits) low (omega (arith, high)) (bytes_in-small count bits)) in
    record {
      front = number_bits mode k ++ (to_bits 5 count ++ byte_bits (bytes_in count bits));
      rest = drop (8 * count) bits;
      entry = subst (λ (xs : List Bool). Entry mode (Run count false) (number_bits mode k ++ (to_bits 5 count ++ byte_bits (bytes_in count bits))) (bytes_as_elements (bytes_in count xs)) mode) (sym at) entry;
      splits = ap (λ (xs : List Bool). number_bits mode k ++ (to_bits 5 count ++ xs)) (sym (take-append-drop (8 * count) bits) ∙ ap (λ (xs : List Bool). xs ++ drop (8 * count) bits) (sym (byte_bits-in count bits there)))
          ∙ ap (λ (xs : List Bool). number_bits mode k ++ xs) (sym (append_assoc (to_bits 5 count) (byte_bits (bytes_in count bits)) (drop (8 * count) bits)))
          ∙ sym (append_assoc (number_bits mode k) (to_bits 5 count ++ byte_bits (bytes_in count bits)) (drop (8 * count) bits));
    }

long_entry : (mode : Mode) (k n : ℕ) (bits : List Bool) → table_symbol mode k ≡ Binary → n < 2048 → 8 * (n + 31) ≤ length bits
    → IsAhead mode (Run (n + 31) true) (number_bits mode k ++ (to_bits 5 0 ++ (to_bits 11 n ++ bits)))
unfolding spelled_ahead code_next
long_entry mode k n bits is high there =
    let at : drop 21 (number_bits mode k ++ (to_bits 5 0 ++ (to_bits 11 n ++ bits))) ≡ bits =
    ap (drop 21) (ap (λ (xs : List Bool). number_bits mode k ++ xs) (sym (append_assoc (to_bits 5 0) (to_bits 11 n) bits)) ∙ sym (append_assoc (number_bits mode k) (to_bits 5 0 ++ to_bits 11 n) bits))
    ∙ drop_at (number_bits mode k ++ (to_bits 5 0 ++ to_bits 11 n)) bits 21
    (omega (arith, length-append (number_bits mode k) (to_bits 5 0 ++ to_bits 11 n), length-append (to_bits 5 0) (to_bits 11 n), length-number_bits mode k, (binary_at mode k is).0, length-to_bits 5 0, length-to_bits 11 n)) in
    let back : n + 31 - 31 ≡ n = omega arith in
    let entry = entry_of (long_run {mode = mode} k {count = n + 31} (bytes_in (n + 31) bits) is (length-bytes_in (n + 31) bits) (omega arith) (omega (arith, high)) (bytes_in-small (n + 31) bits)) in
    let bytes = byte_bits (bytes_in (n + 31) bits) in
    record {
      front = number_bits mode k ++ (to_bits 5 0 ++ (to_bits 11 (n + 31 - 31) ++ byte_bits (bytes_in (n + 31) bits)));
      rest = drop (8 * (n + 31)) bits;
      entry = subst (λ (xs : List Bool). Entry mode (Run (n + 31) true) (number_bits mode k ++ (to_bits 5 0 ++ (to_bits 11 (n + 31 - 31) ++ byte_bits (bytes_in (n + 31) bits)))) (bytes_as_elements (bytes_in (n + 31) xs)) mode) (sym at) entry;
      splits = ap (λ (xs : List Bool). number_bits mode k ++ (to_bits 5 0 ++ (to_bits 11 n ++ xs))) (sym (take-append-drop (8 * (n + 31)) bits) ∙ ap (λ (xs : List Bool). xs ++ drop (8 * (n + 31)) bits) (sym (byte_bits-in (n + 31) bits there)))
          ∙ ap (λ (m : ℕ). number_bits mode k ++ (to_bits 5 0 ++ (to_bits 11 m ++ (byte_bits (bytes_in (n + 31) bits) ++ drop (8 * (n + 31)) bits)))) (sym back)
          ∙ ap (λ (xs : List Bool). number_bits mode k ++ (to_bits 5 0 ++ xs)) (sym (append_assoc (to_bits 11 (n + 31 - 31)) (byte_bits (bytes_in (n + 31) bits)) (drop (8 * (n + 31)) bits)))
          ∙ ap (λ (xs : List Bool). number_bits mode k ++ xs) (sym (append_assoc (to_bits 5 0) (to_bits 11 (n + 31 - 31) ++ byte_bits (bytes_in (n + 31) bits)) (drop (8 * (n + 31)) bits)))
          ∙ sym (append_assoc (number_bits mode k) (to_bits 5 0 ++ (to_bits 11 (n + 31 - 31) ++ byte_bits (bytes_in (n + 31) bits))) (drop (8 * (n + 31)) bits));
    }

binary_found : (mode : Mode) (k : ℕ) (code : Code) (bits : List Bool) → table_symbol mode k ≡ Binary → run_ahead bits ≡ Some code → IsAhead mode code (number_bits mode k ++ bits)
unfolding run_ahead long_ahead
binary_found mode k code bits is found =
    let h = handed (number_ahead 5 bits) (λ n. if n == 0 then long_ahead (drop 5 bits) else run_by n false (drop 5 bits)) code found in
    subst (λ (xs : List Bool). IsAhead mode code (number_bits mode k ++ xs)) (sym (number_found 5 h.number bits h.is))
    (by_test h.number (drop 5 bits) (number_small 5 h.number bits h.is) (h.number == 0) refl h.gives)
  where
    by_test : (n : ℕ) (rest : List Bool) → n < 32 → (b : Bool) → (n == 0) ≡ b → (if b then long_ahead rest else run_by n false rest) ≡ Some code
        → IsAhead mode code (number_bits mode k ++ (to_bits 5 n ++ rest))
    by_test n rest small true h s =
        let l = handed (number_ahead 11 rest) (λ m. run_by (m + 31) true (drop 11 rest)) code s in
        let r = run_found mode (l.number + 31) true code (drop 11 rest) l.gives in
        subst (λ (m : ℕ). IsAhead mode code (number_bits mode k ++ (to_bits 5 m ++ rest))) (sym (eqb-true n 0 h))
        (subst (λ (xs : List Bool). IsAhead mode code (number_bits mode k ++ (to_bits 5 0 ++ xs))) (sym (number_found 11 l.number rest l.is))
        (subst (λ (c : Code). IsAhead mode c (number_bits mode k ++ (to_bits 5 0 ++ (to_bits 11 l.number ++ drop 11 rest)))) (sym r.1)
        (long_entry mode k l.number (drop 11 rest) is (number_small 11 l.number rest l.is) r.0)))
    by_test n rest small false h s =
        let r = run_found mode n false code rest s in
        subst (λ (c : Code). IsAhead mode c (number_bits mode k ++ (to_bits 5 n ++ rest))) (sym r.1) (short_entry mode k n rest is (some n h) small r.0)

data_is : (s : Symbol) → is_some (data_spelled s) ≡ true → data_spelled s ≡ Some (data_elements s)
unfolding data_spelled data_elements
data_is (One a) h = refl
data_is (Two a b) h = refl
data_is Absent h = absurd (cc)
data_is (LatchTo to) h = absurd (cc)
data_is (ShiftTo to) h = absurd (cc)
data_is Binary h = absurd (cc)
data_is Flag h = absurd (cc)

plain_entry : (mode : Mode) (k : ℕ) (code : Code) (rest : List Bool) → is_some (data_spelled (table_symbol mode k)) ≡ true → Plain k ≡ code → IsAhead mode code (number_bits mode k ++ rest)
unfolding spelled_ahead code_next
plain_entry mode k code rest is same =
    subst (λ (c : Code). IsAhead mode c (number_bits mode k ++ rest)) same
    (record { front = number_bits mode k; rest = rest; entry = entry_of (plain {mode = mode} {number = k} (data_is (table_symbol mode k) is)); splits = refl })

shift_entry : (mode to : Mode) (k j : ℕ) (code : Code) (rest : List Bool) → table_symbol mode k ≡ ShiftTo to → is_some (data_spelled (table_symbol to j)) ≡ true → Shift to j ≡ code
    → IsAhead mode code (number_bits mode k ++ (number_bits to j ++ rest))
unfolding spelled_ahead code_next
shift_entry mode to k j code rest shifts is same =
    subst (λ (c : Code). IsAhead mode c (number_bits mode k ++ (number_bits to j ++ rest))) same
    (record {
      front = number_bits mode k ++ number_bits to j;
      rest = rest;
      entry = entry_of (shift {mode = mode} {to = to} k {second = j} shifts (data_is (table_symbol to j) is));
      splits = sym (append_assoc (number_bits mode k) (number_bits to j) rest);
    })

latch_entry : (mode to : Mode) (k : ℕ) (code : Code) (rest : List Bool) → table_symbol mode k ≡ LatchTo to → Latch to ≡ code → IsAhead mode code (number_bits mode k ++ rest)
unfolding spelled_ahead code_next
latch_entry mode to k code rest is same =
    subst (λ (c : Code). IsAhead mode c (number_bits mode k ++ rest)) same
    (record { front = number_bits mode k; rest = rest; entry = entry_of (latch {mode = mode} k is); splits = refl })

second_found : (mode to : Mode) (k j : ℕ) (s : Symbol) (code : Code) (rest : List Bool) → table_symbol mode k ≡ ShiftTo to → table_symbol to j ≡ s
    → second_by to j rest s ≡ Some code → IsAhead mode code (number_bits mode k ++ (number_bits to j ++ rest))
unfolding second_by data_spelled
second_found mode to k j (One a) code rest shifts is found = shift_entry mode to k j code rest shifts (ap (λ (s : Symbol). is_some (data_spelled s)) is) (cc)
second_found mode to k j (Two a b) code rest shifts is found = shift_entry mode to k j code rest shifts (ap (λ (s : Symbol). is_some (data_spelled s)) is) (cc)
second_found mode to k j Flag code rest shifts is found =
    subst (λ (xs : List Bool). IsAhead mode code xs) (append_assoc (number_bits mode k) (number_bits to j) rest)
    (flag_found mode code (number_bits mode k ++ number_bits to j) rest
    (λ n small. subst (λ (xs : List Bool). FlagBits mode n xs) (sym (append_assoc (number_bits mode k) (number_bits to j) (to_bits 3 n))) (shifted k j shifts is)) found)
second_found mode to k j Absent code rest shifts is found = absurd (cc)
second_found mode to k j (LatchTo m) code rest shifts is found = absurd (cc)
second_found mode to k j (ShiftTo m) code rest shifts is found = absurd (cc)
second_found mode to k j Binary code rest shifts is found = absurd (cc)

first_found : (mode : Mode) (k : ℕ) (s : Symbol) (code : Code) (rest : List Bool) → table_symbol mode k ≡ s → first_by k rest s ≡ Some code → IsAhead mode code (number_bits mode k ++ rest)
unfolding first_by second_ahead data_spelled number_bits
first_found mode k (One a) code rest is found = plain_entry mode k code rest (ap (λ (s : Symbol). is_some (data_spelled s)) is) (cc)
first_found mode k (Two a b) code rest is found = plain_entry mode k code rest (ap (λ (s : Symbol). is_some (data_spelled s)) is) (cc)
first_found mode k (LatchTo to) code rest is found = latch_entry mode to k code rest is (cc)
first_found mode k (ShiftTo to) code rest is found =
    let h = handed (number_ahead (mode_width to) rest) (λ number. second_by to number (drop (mode_width to) rest) (table_symbol to number)) code found in
    subst (λ (xs : List Bool). IsAhead mode code (number_bits mode k ++ xs)) (sym (number_found (mode_width to) h.number rest h.is))
    (second_found mode to k h.number (table_symbol to h.number) code (drop (mode_width to) rest) is refl h.gives)
first_found mode k Binary code rest is found = binary_found mode k code rest is found
first_found mode k Flag code rest is found = flag_found mode code (number_bits mode k) rest (λ n small. direct k is) found
first_found mode k Absent code rest is found = absurd (cc)

-- The code that is computed is an entry that stands there.
pub code_found : (mode : Mode) (code : Code) (bits : List Bool) → code_ahead mode bits ≡ Some code → IsAhead mode code bits
unfolding code_ahead number_bits
code_found mode code bits found =
    let h = handed (number_ahead (mode_width mode) bits) (λ number. first_by number (drop (mode_width mode) bits) (table_symbol mode number)) code found in
    subst (λ (xs : List Bool). IsAhead mode code xs) (sym (number_found (mode_width mode) h.number bits h.is))
    (first_found mode h.number (table_symbol mode h.number) code (drop (mode_width mode) bits) refl h.gives)
