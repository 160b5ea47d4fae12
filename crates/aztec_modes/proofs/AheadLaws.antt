-- The code that is computed at the front of bits is the entry that stands there.
use Rattle.std.proofs.Common.{◌≡◌, ℕ, zero, suc, ◌+◌, ◌-◌, ◌*◌, ◌/◌, ◌%◌, ◌^◌, ◌<◌, ◌≤◌, inl, inr, Bool, true, false, List, [], ◌∷◌, ◌++◌, length, take, drop, refl, sym, ap, subst, ◌∙◌, arith}
use Rattle.std.specs.Prelude.{Option, Some, None, All, ◌==◌, if◌then◌else◌, nat_lt, is_some}
use Rattle.std.proofs.Math.Nat.{pow-suc}
use Rattle.std.proofs.lemmas.List.{append_assoc, append-nil, take_at, drop_at, take-append-drop, length-append, length-drop, length-take, drop-drop}
use Rattle.std.proofs.lemmas.List.Elements.{All-nil, All-cons, All-head, All-tail}
use Rattle.std.proofs.lemmas.Bool.{cond-true, cond-false, eq-eqb, ne_eqb, eqb-true, cases_lt, le-ltb, lt-ltb, ltb-true, ltb-false}
use Rattle.std.proofs.lemmas.Bool.Decides.{nat_tests}
use Rattle.bar_base.specs.Bits.{to_bits, number_after}
use Rattle.bar_base.specs.declared.element.Element.{Element}
use Rattle.bar_base.specs.declared.element.Element.TheVariants as element
use Rattle.aztec_modes.specs.declared.mode.Mode.{Mode}
use Rattle.aztec_modes.specs.declared.mode.Mode.TheVariants.{Digit}
use Rattle.aztec_modes.specs.declared.code.Code.{Code}
use Rattle.aztec_modes.specs.declared.code.Code.TheVariants.{Latch, Plain, Shift, Fnc1, Eci, Run}
use Rattle.aztec_modes.specs.declared.table.Symbol.{Symbol}
use Rattle.aztec_modes.specs.declared.table.Symbol.TheVariants.{Absent, One, Two, LatchTo, ShiftTo, Binary, Flag}
use Rattle.aztec_modes.specs.Codes.{table_symbol, mode_width, number_bits, data_spelled}
use Rattle.aztec_modes.specs.Entry.{digit_bits, Entry}
use Rattle.aztec_modes.specs.Ahead.{number_ahead, onward_from, code_digit, digit_ahead, digits_ahead, flag_by, flag_ahead, run_by, long_ahead, run_ahead, second_by, second_ahead, first_by, code_ahead, bytes_in, data_elements, spelled_ahead}
use Rattle.aztec_modes.proofs.TableFacts.{number_below, data_present}
use Rattle.aztec_modes.proofs.Forms.{FlagBits, direct, shifted, byte_bits, Form, latch, plain, shift, fnc1, eci, short_run, long_run, form_of}
use Rattle.aztec_modes.proofs.EntryLaws.{length-number_bits, length-byte_bits, length-digit_bits, entry_len}
use Rattle.bar_base.proofs.NumberBits.{length-to_bits}
use Rattle.aztec_modes.proofs.Values.{value, value-to_bits}

number_ahead-at : (width n : ℕ) (rest : List Bool) → n < 2 ^ width → number_ahead width (to_bits width n ++ rest) ≡ Some n
unfolding number_ahead value
number_ahead-at width n rest fits =
    cond-false (nat_lt (length (to_bits width n ++ rest)) width) None (Some (number_after 0 (take width (to_bits width n ++ rest))))
    (le-ltb (length (to_bits width n ++ rest)) width (omega (arith, length-append (to_bits width n) rest, length-to_bits width n)))
    ∙ ap (λ (xs : List Bool). Some (number_after 0 xs)) (take_at (to_bits width n) rest width (length-to_bits width n))
    ∙ ap Some (value-to_bits width n fits)

-- A number, and what follows it.
onward-at : {X : Type 0} (width n : ℕ) (rest : List Bool) (next : ℕ → List Bool → Option X) → n < 2 ^ width
    → onward_from (number_ahead width (to_bits width n ++ rest)) (λ m. next m (drop width (to_bits width n ++ rest))) ≡ next n rest
unfolding onward_from
onward-at width n rest next fits =
    ap (λ (o : Option ℕ). onward_from o (λ m. next m (drop width (to_bits width n ++ rest)))) (number_ahead-at width n rest fits)
    ∙ ap (next n) (drop_at (to_bits width n) rest width (length-to_bits width n))

code_ahead-at : (mode : Mode) (k : ℕ) (s : Symbol) (rest : List Bool) → table_symbol mode k ≡ s → (s ≡ Absent → ⊥)
    → code_ahead mode (number_bits mode k ++ rest) ≡ first_by k rest s
unfolding code_ahead number_bits
code_ahead-at mode k s rest is present =
    onward-at (mode_width mode) k rest (λ number bits. first_by number bits (table_symbol mode number)) (number_below mode k s is present)
    ∙ ap (first_by k rest) is

second_ahead-at : (to : Mode) (k : ℕ) (s : Symbol) (rest : List Bool) → table_symbol to k ≡ s → (s ≡ Absent → ⊥)
    → second_ahead to (number_bits to k ++ rest) ≡ second_by to k rest s
unfolding second_ahead number_bits
second_ahead-at to k s rest is present =
    onward-at (mode_width to) k rest (λ number bits. second_by to number bits (table_symbol to number)) (number_below to k s is present)
    ∙ ap (second_by to k rest) is

first_by-data : (k : ℕ) (s : Symbol) (spelled : List Element) (rest : List Bool) → data_spelled s ≡ Some spelled → first_by k rest s ≡ Some (Plain k)
unfolding first_by data_spelled
first_by-data k (One a) spelled rest is = refl
first_by-data k (Two a b) spelled rest is = refl
first_by-data k Flag spelled rest is = absurd (cc)
first_by-data k Absent spelled rest is = absurd (cc)
first_by-data k (LatchTo to) spelled rest is = absurd (cc)
first_by-data k (ShiftTo to) spelled rest is = absurd (cc)
first_by-data k Binary spelled rest is = absurd (cc)

second_by-data : (to : Mode) (k : ℕ) (s : Symbol) (spelled : List Element) (rest : List Bool) → data_spelled s ≡ Some spelled → second_by to k rest s ≡ Some (Shift to k)
unfolding second_by data_spelled
second_by-data to k (One a) spelled rest is = refl
second_by-data to k (Two a b) spelled rest is = refl
second_by-data to k Flag spelled rest is = absurd (cc)
second_by-data to k Absent spelled rest is = absurd (cc)
second_by-data to k (LatchTo m) spelled rest is = absurd (cc)
second_by-data to k (ShiftTo m) spelled rest is = absurd (cc)
second_by-data to k Binary spelled rest is = absurd (cc)

-- FLG(n) and what follows.
flag_at-front : {mode : Mode} {n : ℕ} {bits : List Bool} (rest : List Bool) → FlagBits mode n bits → n < 7 → code_ahead mode (bits ++ rest) ≡ flag_by n rest
unfolding first_by second_by flag_ahead
flag_at-front {mode} {n} rest (direct flag is) small =
    ap (code_ahead mode) (append_assoc (number_bits mode flag) (to_bits 3 n) rest)
    ∙ code_ahead-at mode flag Flag (to_bits 3 n ++ rest) is (λ h. absurd (cc))
    ∙ onward-at 3 n rest flag_by (omega arith)
flag_at-front {mode} {n} rest (shifted {to = to} number flag is_shift is_flag) small =
    ap (code_ahead mode) (append_assoc (number_bits mode number) (number_bits to flag ++ to_bits 3 n) rest)
    ∙ code_ahead-at mode number (ShiftTo to) ((number_bits to flag ++ to_bits 3 n) ++ rest) is_shift (λ h. absurd (cc))
    ∙ ap (second_ahead to) (append_assoc (number_bits to flag) (to_bits 3 n) rest)
    ∙ second_ahead-at to flag Flag (to_bits 3 n ++ rest) is_flag (λ h. absurd (cc))
    ∙ onward-at 3 n rest flag_by (omega arith)

code_digit-at : (d : ℕ) → d < 10 → code_digit (d + 2) ≡ Some d
unfolding code_digit
code_digit-at d small =
    cond-false (nat_lt (d + 2) 2) None (if nat_lt 11 (d + 2) then None else Some (d + 2 - 2)) (le-ltb (d + 2) 2 (omega arith))
    ∙ cond-false (nat_lt 11 (d + 2)) None (Some (d + 2 - 2)) (le-ltb 11 (d + 2) (omega arith))
    ∙ ap Some (let e : d + 2 - 2 ≡ d = omega arith in e)

digit_ahead-at : (d : ℕ) (rest : List Bool) → d < 10 → digit_ahead (to_bits 4 (d + 2) ++ rest) ≡ Some d
unfolding digit_ahead onward_from
digit_ahead-at d rest small = ap (λ (o : Option ℕ). onward_from o code_digit) (number_ahead-at 4 (d + 2) rest (omega arith)) ∙ code_digit-at d small

digits_ahead-step : (count front d : ℕ) (rest : List Bool) → d < 10 → digits_ahead (suc count) front (to_bits 4 (d + 2) ++ rest) ≡ digits_ahead count (front * 10 + d) rest
unfolding digits_ahead onward_from
digits_ahead-step count front d rest small =
    ap (λ (o : Option ℕ). onward_from o (λ digit. digits_ahead count (front * 10 + digit) (drop 4 (to_bits 4 (d + 2) ++ rest)))) (digit_ahead-at d rest small)
    ∙ ap (digits_ahead count (front * 10 + d)) (drop_at (to_bits 4 (d + 2)) rest 4 (length-to_bits 4 (d + 2)))

digits_ahead-at : (count more n : ℕ) (rest : List Bool) → n < 10 ^ count → digits_ahead (count + more) 0 (digit_bits count n ++ rest) ≡ digits_ahead more n rest
unfolding digit_bits number_bits mode_width
digits_ahead-at zero more n rest fits =
    let none : 0 ≡ n = omega arith in
    ap (λ (c : ℕ). digits_ahead c 0 rest) (let e : 0 + more ≡ more = omega arith in e) ∙ ap (λ (x : ℕ). digits_ahead more x rest) none
digits_ahead-at (suc count) more n rest fits =
    ap (λ (c : ℕ). digits_ahead c 0 (digit_bits (suc count) n ++ rest)) (let e : suc count + more ≡ count + suc more = omega arith in e)
    ∙ ap (digits_ahead (count + suc more) 0) (append_assoc (digit_bits count (n / 10)) (to_bits 4 (n % 10 + 2)) rest)
    ∙ digits_ahead-at count (suc more) (n / 10) (to_bits 4 (n % 10 + 2) ++ rest) (omega (arith, pow-suc 10 count))
    ∙ digits_ahead-step more (n / 10) (n % 10) rest (omega arith)
    ∙ ap (λ (x : ℕ). digits_ahead more x rest) (let e : n / 10 * 10 + n % 10 ≡ n = omega arith in e)

flag_by-eci : (n number : ℕ) (rest : List Bool) → 1 ≤ n → n ≤ 6 → number < 10 ^ n → flag_by n (digit_bits n number ++ rest) ≡ Some (Eci number n)
unfolding flag_by onward_from digits_ahead
flag_by-eci n number rest low high fits =
    cond-false (n == 0) (Some Fnc1) _ (ne_eqb n 0 (λ h. absurd (omega (arith, h))))
    ∙ cond-false (n == 7) None _ (ne_eqb n 7 (λ h. absurd (omega (arith, h))))
    ∙ ap (λ (o : Option ℕ). onward_from o (λ m. Some (Eci m n)))
    (ap (λ (c : ℕ). digits_ahead c 0 (digit_bits n number ++ rest)) (let e : n ≡ n + 0 = omega arith in e) ∙ digits_ahead-at n 0 number rest fits)

run_by-at : (count : ℕ) (long : Bool) (bytes : List ℕ) (rest : List Bool) → length bytes ≡ count → run_by count long (byte_bits bytes ++ rest) ≡ Some (Run count long)
unfolding run_by
run_by-at count long bytes rest size =
    cond-false (nat_lt (length (byte_bits bytes ++ rest)) (8 * count)) None (Some (Run count long))
    (le-ltb (length (byte_bits bytes ++ rest)) (8 * count) (omega (arith, length-append (byte_bits bytes) rest, length-byte_bits bytes, size)))

run_ahead-short : (count : ℕ) (bytes : List ℕ) (rest : List Bool) → 1 ≤ count → count ≤ 31 → length bytes ≡ count
    → run_ahead ((to_bits 5 count ++ byte_bits bytes) ++ rest) ≡ Some (Run count false)
unfolding run_ahead
run_ahead-short count bytes rest low high size =
    ap run_ahead (append_assoc (to_bits 5 count) (byte_bits bytes) rest)
    ∙ onward-at 5 count (byte_bits bytes ++ rest) (λ n bits. if n == 0 then long_ahead bits else run_by n false bits) (omega arith)
    ∙ cond-false (count == 0) (long_ahead (byte_bits bytes ++ rest)) (run_by count false (byte_bits bytes ++ rest)) (ne_eqb count 0 (λ h. absurd (omega (arith, h))))
    ∙ run_by-at count false bytes rest size

run_ahead-long : (count : ℕ) (bytes : List ℕ) (rest : List Bool) → 31 ≤ count → count ≤ 2078 → length bytes ≡ count
    → run_ahead ((to_bits 5 0 ++ (to_bits 11 (count - 31) ++ byte_bits bytes)) ++ rest) ≡ Some (Run count true)
unfolding run_ahead long_ahead
run_ahead-long count bytes rest low high size =
    let back : count - 31 + 31 ≡ count = omega arith in
    ap run_ahead (append_assoc (to_bits 5 0) (to_bits 11 (count - 31) ++ byte_bits bytes) rest)
    ∙ onward-at 5 0 ((to_bits 11 (count - 31) ++ byte_bits bytes) ++ rest) (λ n bits. if n == 0 then long_ahead bits else run_by n false bits) (omega arith)
    ∙ ap long_ahead (append_assoc (to_bits 11 (count - 31)) (byte_bits bytes) rest)
    ∙ onward-at 11 (count - 31) (byte_bits bytes ++ rest) (λ n bits. run_by (n + 31) true bits) (omega arith)
    ∙ ap (λ (c : ℕ). run_by c true (byte_bits bytes ++ rest)) back
    ∙ run_by-at count true bytes rest size

-- An entry's bits give its code.
form_ahead : {mode : Mode} {code : Code} {bits : List Bool} {spelled : List Element} {next : Mode} (rest : List Bool)
    → Form mode code bits spelled next → code_ahead mode (bits ++ rest) ≡ Some code
unfolding first_by flag_by
form_ahead {mode} rest (latch {next = to} number is) = code_ahead-at mode number (LatchTo to) rest is (λ h. absurd (cc))
form_ahead {mode} {spelled = spelled} rest (plain {number = number} is) =
    code_ahead-at mode number (table_symbol mode number) rest refl (data_present (table_symbol mode number) spelled is)
    ∙ first_by-data number (table_symbol mode number) spelled rest is
form_ahead {mode} {spelled = spelled} rest (shift {to = to} number {second = second} is data_is) =
    ap (code_ahead mode) (append_assoc (number_bits mode number) (number_bits to second) rest)
    ∙ code_ahead-at mode number (ShiftTo to) (number_bits to second ++ rest) is (λ h. absurd (cc))
    ∙ second_ahead-at to second (table_symbol to second) rest refl (data_present (table_symbol to second) spelled data_is)
    ∙ second_by-data to second (table_symbol to second) spelled rest data_is
form_ahead rest (fnc1 flag) = flag_at-front rest flag (omega arith)
form_ahead {mode} rest (eci {bits = bits} {number = number} {count = count} flag low high fits) =
    ap (code_ahead mode) (append_assoc bits (digit_bits count number) rest)
    ∙ flag_at-front (digit_bits count number ++ rest) flag (omega arith)
    ∙ flag_by-eci count number rest low high fits
form_ahead {mode} rest (short_run number {count = count} bytes is size low high ok) =
    ap (code_ahead mode) (append_assoc (number_bits mode number) (to_bits 5 count ++ byte_bits bytes) rest)
    ∙ code_ahead-at mode number Binary ((to_bits 5 count ++ byte_bits bytes) ++ rest) is (λ h. absurd (cc))
    ∙ run_ahead-short count bytes rest low high size
form_ahead {mode} rest (long_run number {count = count} bytes is size low high ok) =
    ap (code_ahead mode) (append_assoc (number_bits mode number) (to_bits 5 0 ++ (to_bits 11 (count - 31) ++ byte_bits bytes)) rest)
    ∙ code_ahead-at mode number Binary ((to_bits 5 0 ++ (to_bits 11 (count - 31) ++ byte_bits bytes)) ++ rest) is (λ h. absurd (cc))
    ∙ run_ahead-long count bytes rest low high size

pub entry_ahead : {mode : Mode} {code : Code} {bits : List Bool} {spelled : List Element} {next : Mode} (rest : List Bool)
    → Entry mode code bits spelled next → code_ahead mode (bits ++ rest) ≡ Some code
entry_ahead rest entry = form_ahead rest (form_of entry)
