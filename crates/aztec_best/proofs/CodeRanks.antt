-- The ranks of the codes of a mode: of two codes the one with the lower rank has the bits that come first, and a rank before given
-- elements determines the code.
use Rattle.std.proofs.Common.{◌≡◌, ℕ, zero, suc, ◌+◌, ◌-◌, ◌/◌, ◌%◌, ◌^◌, ◌<◌, ◌≤◌, inl, inr, Bool, true, false, List, [], ◌∷◌, ◌++◌, refl, sym, ap, subst, ◌∙◌, arith, if◌then◌else◌}
use Rattle.std.specs.Prelude.{Some, nat_lt, ◌==◌}
use Rattle.std.proofs.lemmas.List.{append_assoc, append-nil}
use Rattle.std.proofs.lemmas.Bool.{cond-true, cond-false, lt-ltb, le-ltb, cases_lt, eq-eqb, ne_eqb}
use Rattle.std.proofs.Math.Nat.{pow-suc}
use Rattle.bar_base.specs.Bits.{to_bits}
use Rattle.bar_base.specs.declared.element.Element.{Element}
use Rattle.bar_base.specs.declared.element.Element.TheVariants as element
use Rattle.aztec_modes.specs.declared.mode.Mode.{Mode}
use Rattle.aztec_modes.specs.declared.mode.Mode.TheVariants.{Upper, Lower, Mixed, Punct, Digit}
use Rattle.aztec_modes.specs.declared.code.Code.{Code}
use Rattle.aztec_modes.specs.declared.code.Code.TheVariants.{Latch, Plain, Shift, Fnc1, Eci, Run}
use Rattle.aztec_modes.specs.declared.table.Symbol.{Symbol}
use Rattle.aztec_modes.specs.declared.table.Symbol.TheVariants.{Absent, One, Two, LatchTo, ShiftTo, Binary, Flag}
use Rattle.aztec_modes.specs.Codes.{table_symbol, code_table, mode_width, number_bits, data_spelled}
use Rattle.aztec_modes.specs.Entry.{latch_number, shift_number, digit_bits}
use Rattle.aztec_modes.proofs.TableFacts.{flag_at, binary_at, latch_number-at, shift_number-at, shift_to_punct, number_below, data_present}
use Rattle.aztec_modes.proofs.Forms.{FlagBits, direct, shifted, byte_bits, Form, latch, plain, shift, fnc1, eci, short_run, long_run}
use Rattle.aztec_best.specs.Order.{IsBefore, differ, first_number, second_number, code_rank}
use Rattle.aztec_best.proofs.Order.{IsBefore-append, IsBefore-behind}

-- The bits of a smaller number are before those of a larger one of the same width.
last_before : (a b : ℕ) → a % 2 < b % 2 → IsBefore ((a % 2 == 1) ∷ []) ((b % 2 == 1) ∷ [])
last_before a b less =
    let f : (a % 2 == 1) ≡ false = ne_eqb (a % 2) 1 (λ h. absurd (omega arith)) in
    let t : (b % 2 == 1) ≡ true = eq-eqb (b % 2) 1 (omega arith) in
    subst (λ (x : Bool). IsBefore (x ∷ []) ((b % 2 == 1) ∷ [])) (sym f)
    (subst (λ (y : Bool). IsBefore (false ∷ []) (y ∷ [])) (sym t) differ)

half_fits : (width n : ℕ) → n < 2 ^ suc width → n / 2 < 2 ^ width
half_fits width n fits = omega (arith, pow-suc 2 width)

before_bits : (width former latter : ℕ) → former < latter → latter < 2 ^ width → IsBefore (to_bits width former) (to_bits width latter)
unfolding to_bits
before_bits zero former latter less fits = absurd (omega arith)
before_bits (suc width) former latter less fits =
    elim (cases_lt (former / 2) (latter / 2)) [
      | inl halves ↦ IsBefore-append ((former % 2 == 1) ∷ []) ((latter % 2 == 1) ∷ [])
          (before_bits width (former / 2) (latter / 2) halves (half_fits width latter fits))
      | inr halves ↦
          let alike : former / 2 ≡ latter / 2 = omega arith in
          subst (λ (h : ℕ). IsBefore (to_bits width h ++ (former % 2 == 1) ∷ []) (to_bits width (latter / 2) ++ (latter % 2 == 1) ∷ [])) (sym alike)
          (IsBefore-behind (to_bits width (latter / 2)) (last_before former latter (omega arith)))
    ]

before_numbers : (mode : Mode) (former latter : ℕ) → former < latter → latter < 2 ^ mode_width mode → IsBefore (number_bits mode former) (number_bits mode latter)
unfolding number_bits
before_numbers mode former latter less fits = before_bits (mode_width mode) former latter less fits

-- What follows the first number of a code, by its symbol and the second number.
data Tail : Symbol → ℕ → List Bool → Type 0 where
  one : {byte : ℕ} → Tail (One byte) 0 []
  two : {first second : ℕ} → Tail (Two first second) 0 []
  latched : {to : Mode} → Tail (LatchTo to) 0 []
  flagged : {n : ℕ} (more : List Bool) → n < 7 → Tail Flag n (to_bits 3 n ++ more)
  shifted_flag : {to : Mode} {n : ℕ} (more : List Bool) → n < 7 → Tail (ShiftTo to) n (number_bits to 0 ++ (to_bits 3 n ++ more))
  shifted_data : {to : Mode} {n : ℕ} → 1 ≤ n → n < 2 ^ mode_width to → n < 32 → Tail (ShiftTo to) (n + 6) (number_bits to n)
  long : {count : ℕ} (more : List Bool) → 31 ≤ count → count ≤ 2078 → Tail Binary (count - 31) (to_bits 5 0 ++ (to_bits 11 (count - 31) ++ more))
  short : {count : ℕ} (more : List Bool) → 1 ≤ count → count ≤ 31 → Tail Binary (count + 2047) (to_bits 5 count ++ more)

tails_ordered : {s s' : Symbol} {j j' : ℕ} {tail tail' : List Bool} → s ≡ s' → Tail s j tail → Tail s' j' tail' → j < j' → IsBefore tail tail'
tails_ordered {s} {s'} {j} {j'} {tail} {tail'} same_symbol former latter less =
    at_one (subst (λ (t : Symbol). Tail t j tail) same_symbol former) latter less
  where
    at_one : {s : Symbol} {j j' : ℕ} {tail tail' : List Bool} → Tail s j tail → Tail s j' tail' → j < j' → IsBefore tail tail'
    at_one one one less = absurd (omega arith)
    at_one two two less = absurd (omega arith)
    at_one latched latched less = absurd (omega arith)
    at_one {j = j} {j' = j'} (flagged more few) (flagged more' few') less = IsBefore-append more more' (before_bits 3 j j' less (omega arith))
    at_one {j = j} {j' = j'} (shifted_flag {to = to} more few) (shifted_flag more' few') less =
        IsBefore-behind (number_bits to 0) (IsBefore-append more more' (before_bits 3 j j' less (omega arith)))
    at_one {j = j} (shifted_flag {to = to} more few) (shifted_data {n = n} some fits below) less =
        subst (λ (bits : List Bool). IsBefore (number_bits to 0 ++ (to_bits 3 j ++ more)) bits) (append-nil (number_bits to n))
        (IsBefore-append (to_bits 3 j ++ more) [] (before_numbers to 0 n (omega arith) fits))
    at_one (shifted_data some fits below) (shifted_flag more few) less = absurd (omega arith)
    at_one (shifted_data {to = to} {n = n} some fits below) (shifted_data {n = n'} some' fits' below') less = before_numbers to n n' (omega arith) fits'
    at_one (long {count = count} more low high) (long {count = count'} more' low' high') less =
        IsBefore-behind (to_bits 5 0) (IsBefore-append more more' (before_bits 11 (count - 31) (count' - 31) less (omega arith)))
    at_one (long {count = count} more low high) (short {count = count'} more' low' high') less =
        IsBefore-append (to_bits 11 (count - 31) ++ more) more' (before_bits 5 0 count' (omega arith) (omega arith))
    at_one (short more low high) (long more' low' high') less = absurd (omega arith)
    at_one (short {count = count} more low high) (short {count = count'} more' low' high') less =
        IsBefore-append more more' (before_bits 5 count count' (omega arith) (omega arith))

tail_few : {s : Symbol} {j : ℕ} {tail : List Bool} → Tail s j tail → j < 4096
tail_few one = omega arith
tail_few two = omega arith
tail_few latched = omega arith
tail_few (flagged more few) = omega arith
tail_few (shifted_flag more few) = omega arith
tail_few (shifted_data some fits below) = omega arith
tail_few (long more low high) = omega arith
tail_few (short more low high) = omega arith

-- Bits are those of a first number and a tail.
record HasTail (mode : Mode) (k j : ℕ) (bits : List Bool) : Type 0 where
  symbol : Symbol
  is : table_symbol mode k ≡ symbol
  present : symbol ≡ Absent → ⊥
  tail : List Bool
  splits : bits ≡ number_bits mode k ++ tail
  kind : Tail symbol j tail

flag_tail : {mode : Mode} {n : ℕ} {bits : List Bool} (more : List Bool) → FlagBits mode n bits → n < 7 → HasTail mode 0 n (bits ++ more)
flag_tail {mode} {n} more (direct flag is) few =
    let first : flag ≡ 0 = (flag_at mode flag is).1 in
    record {
      symbol = Flag;
      is = subst (λ (k : ℕ). table_symbol mode k ≡ Flag) first is;
      present = λ h. absurd (cc);
      tail = to_bits 3 n ++ more;
      splits = append_assoc (number_bits mode flag) (to_bits 3 n) more ∙ ap (λ (k : ℕ). number_bits mode k ++ (to_bits 3 n ++ more)) first;
      kind = flagged more few;
    }
flag_tail {mode} {n} more (shifted {to = to} number flag is_shift is_flag) few =
    let at = flag_at to flag is_flag in
    let first : number ≡ 0 = shift_to_punct mode number (subst (λ (m : Mode). table_symbol mode number ≡ ShiftTo m) at.0 is_shift) in
    record {
      symbol = ShiftTo to;
      is = subst (λ (k : ℕ). table_symbol mode k ≡ ShiftTo to) first is_shift;
      present = λ h. absurd (cc);
      tail = number_bits to 0 ++ (to_bits 3 n ++ more);
      splits = append_assoc (number_bits mode number) (number_bits to flag ++ to_bits 3 n) more
          ∙ ap (λ (xs : List Bool). number_bits mode number ++ xs) (append_assoc (number_bits to flag) (to_bits 3 n) more)
          ∙ ap (λ (k : ℕ). number_bits mode k ++ (number_bits to flag ++ (to_bits 3 n ++ more))) first
          ∙ ap (λ (k : ℕ). number_bits mode 0 ++ (number_bits to k ++ (to_bits 3 n ++ more))) at.1;
      kind = shifted_flag more few;
    }

data_tail : (mode : Mode) (k : ℕ) (s : Symbol) (spelled : List Element) → table_symbol mode k ≡ s → data_spelled s ≡ Some spelled → HasTail mode k 0 (number_bits mode k)
unfolding data_spelled
data_tail mode k (One byte) spelled is data_is = record {
  symbol = One byte;
  is = is;
  present = λ h. absurd (cc);
  tail = [];
  splits = sym (append-nil (number_bits mode k));
  kind = one;
}
data_tail mode k (Two a b) spelled is data_is = record {
  symbol = Two a b;
  is = is;
  present = λ h. absurd (cc);
  tail = [];
  splits = sym (append-nil (number_bits mode k));
  kind = two;
}
data_tail mode k Absent spelled is data_is = absurd (cc)
data_tail mode k (LatchTo to) spelled is data_is = absurd (cc)
data_tail mode k (ShiftTo to) spelled is data_is = absurd (cc)
data_tail mode k Binary spelled is data_is = absurd (cc)
data_tail mode k Flag spelled is data_is = absurd (cc)

-- Code 0 is a data code in no mode.
first_is_no_data : (mode : Mode) (spelled : List Element) → data_spelled (table_symbol mode 0) ≡ Some spelled → ⊥
unfolding data_spelled table_symbol code_table
first_is_no_data Upper spelled is = cc
first_is_no_data Lower spelled is = cc
first_is_no_data Mixed spelled is = cc
first_is_no_data Punct spelled is = cc
first_is_no_data Digit spelled is = cc

pub data_low : (mode : Mode) (k : ℕ) (spelled : List Element) → data_spelled (table_symbol mode k) ≡ Some spelled → 1 ≤ k
data_low mode zero spelled is = absurd (first_is_no_data mode spelled is)
data_low mode (suc k) spelled is = omega arith

width_few : (mode : Mode) → 2 ^ mode_width mode ≤ 32
unfolding mode_width
width_few Upper = omega arith
width_few Lower = omega arith
width_few Mixed = omega arith
width_few Punct = omega arith
width_few Digit = omega arith

pub data_few : (mode : Mode) (k : ℕ) (spelled : List Element) → data_spelled (table_symbol mode k) ≡ Some spelled → k < 32
data_few mode k spelled is = omega (arith, number_below mode k (table_symbol mode k) refl (data_present (table_symbol mode k) spelled is), width_few mode)

-- The bits of an entry by the two numbers of its code.
tail_of : {mode : Mode} {code : Code} {bits : List Bool} {spelled : List Element} {next : Mode} → Form mode code bits spelled next
    → HasTail mode (first_number mode code) (second_number code) bits
unfolding first_number second_number
tail_of {mode} (latch {next = to} number is) =
    let first : number ≡ latch_number mode to = latch_number-at mode to number is in
    record {
      symbol = LatchTo to;
      is = subst (λ (k : ℕ). table_symbol mode k ≡ LatchTo to) first is;
      present = λ h. absurd (cc);
      tail = [];
      splits = ap (number_bits mode) first ∙ sym (append-nil (number_bits mode (latch_number mode to)));
      kind = latched;
    }
tail_of {mode} {spelled = spelled} (plain {number = number} is) = data_tail mode number (table_symbol mode number) spelled refl is
tail_of {mode} {spelled = spelled} (shift {to = to} number {second = n} is data_is) =
    let first : number ≡ shift_number mode to = shift_number-at mode to number is in
    let fits : n < 2 ^ mode_width to = number_below to n (table_symbol to n) refl (data_present (table_symbol to n) spelled data_is) in
    record {
      symbol = ShiftTo to;
      is = subst (λ (k : ℕ). table_symbol mode k ≡ ShiftTo to) first is;
      present = λ h. absurd (cc);
      tail = number_bits to n;
      splits = ap (λ (k : ℕ). number_bits mode k ++ number_bits to n) first;
      kind = shifted_data (data_low to n spelled data_is) fits (omega (arith, width_few to));
    }
tail_of {mode} {bits = bits} (fnc1 flag) = subst (λ (xs : List Bool). HasTail mode 0 0 xs) (append-nil bits) (flag_tail [] flag (omega arith))
tail_of (eci {number = number} {count = count} flag low high fits) = flag_tail (digit_bits count number) flag (omega arith)
tail_of {mode} (short_run number {count = count} bytes is size low high small) =
    let first : number ≡ 31 = (binary_at mode number is).1 in
    record {
      symbol = Binary;
      is = subst (λ (k : ℕ). table_symbol mode k ≡ Binary) first is;
      present = λ h. absurd (cc);
      tail = to_bits 5 count ++ byte_bits bytes;
      splits = ap (λ (k : ℕ). number_bits mode k ++ (to_bits 5 count ++ byte_bits bytes)) first;
      kind = short (byte_bits bytes) low high;
    }
tail_of {mode} (long_run number {count = count} bytes is size low high small) =
    let first : number ≡ 31 = (binary_at mode number is).1 in
    record {
      symbol = Binary;
      is = subst (λ (k : ℕ). table_symbol mode k ≡ Binary) first is;
      present = λ h. absurd (cc);
      tail = to_bits 5 0 ++ (to_bits 11 (count - 31) ++ byte_bits bytes);
      splits = ap (λ (k : ℕ). number_bits mode k ++ (to_bits 5 0 ++ (to_bits 11 (count - 31) ++ byte_bits bytes))) first;
      kind = long (byte_bits bytes) low high;
    }

-- An entry's code begins with a number that the table has.
pub symbol_present : {mode : Mode} {code : Code} {bits : List Bool} {spelled : List Element} {next : Mode} → Form mode code bits spelled next
    → table_symbol mode (first_number mode code) ≡ Absent → ⊥
symbol_present form absent = let at = tail_of form in at.present (sym at.is ∙ absent)

-- The two numbers of an entry's code are in range.
pub numbers_few : {mode : Mode} {code : Code} {bits : List Bool} {spelled : List Element} {next : Mode} → Form mode code bits spelled next
    → (first_number mode code < 32) × (second_number code < 4096)
numbers_few {mode} {code} form =
    let at = tail_of form in
    (omega (arith, number_below mode (first_number mode code) at.symbol at.is at.present, width_few mode), tail_few at.kind)

-- The code with the lower rank has the bits that come first.
pub ordered : {mode : Mode} {code code' : Code} {bits bits' : List Bool} {spelled spelled' : List Element} {next next' : Mode}
    → Form mode code bits spelled next → Form mode code' bits' spelled' next' → code_rank mode code < code_rank mode code' → IsBefore bits bits'
ordered {mode} {code} {code'} {bits} {bits'} former latter less =
    let at = tail_of former in
    let at' = tail_of latter in
    let few = tail_few at.kind in
    let few' = tail_few at'.kind in
    subst (λ (xs : List Bool). IsBefore xs bits') (sym at.splits)
    (subst (λ (xs : List Bool). IsBefore (number_bits mode (first_number mode code) ++ at.tail) xs) (sym at'.splits)
    (elim (cases_lt (first_number mode code) (first_number mode code')) [
      | inl first ↦ IsBefore-append at.tail at'.tail
          (before_numbers mode (first_number mode code) (first_number mode code') first (number_below mode (first_number mode code') at'.symbol at'.is at'.present))
      | inr late ↦
          let alike : first_number mode code ≡ first_number mode code' = omega arith in
          let symbols : at.symbol ≡ at'.symbol = sym at.is ∙ ap (table_symbol mode) alike ∙ at'.is in
          subst (λ (k : ℕ). IsBefore (number_bits mode (first_number mode code) ++ at.tail) (number_bits mode k ++ at'.tail)) alike
          (IsBefore-behind (number_bits mode (first_number mode code)) (tails_ordered symbols at.kind at'.kind (omega arith)))
    ]))

-- The number of the ECI at the front of elements, 0 where there is none.
eci_ahead : List Element → ℕ
eci_ahead [] = 0
eci_ahead (element.Byte byte ∷ elements) = 0
eci_ahead (element.Eci number ∷ elements) = number
eci_ahead (element.Fnc1 ∷ elements) = 0

flag_from : (n ahead : ℕ) → Code
flag_from zero ahead = Fnc1
flag_from (suc n) ahead = Eci ahead (suc n)

-- The code of two numbers, from the symbol of the first.
code_from : Symbol → (first second ahead : ℕ) → Code
code_from Absent first second ahead = Plain first
code_from (One byte) first second ahead = Plain first
code_from (Two a b) first second ahead = Plain first
code_from (LatchTo to) first second ahead = Latch to
code_from (ShiftTo to) first second ahead = if nat_lt second 7 then flag_from second ahead else Shift to (second - 6)
code_from Binary first second ahead = if nat_lt second 2048 then Run (second + 31) true else Run (second - 2047) false
code_from Flag first second ahead = flag_from second ahead

data_from : (s : Symbol) (k ahead : ℕ) (spelled : List Element) → data_spelled s ≡ Some spelled → Plain k ≡ code_from s k 0 ahead
unfolding data_spelled code_from
data_from (One byte) k ahead spelled is = refl
data_from (Two a b) k ahead spelled is = refl
data_from Absent k ahead spelled is = refl
data_from (LatchTo to) k ahead spelled is = absurd (cc)
data_from (ShiftTo to) k ahead spelled is = absurd (cc)
data_from Binary k ahead spelled is = absurd (cc)
data_from Flag k ahead spelled is = absurd (cc)

flag_is : {mode : Mode} {n : ℕ} {bits : List Bool} (ahead : ℕ) → FlagBits mode n bits → n < 7 → flag_from n ahead ≡ code_from (table_symbol mode 0) 0 n ahead
unfolding code_from
flag_is {mode} {n} ahead (direct flag is) few =
    let here : table_symbol mode 0 ≡ Flag = subst (λ (k : ℕ). table_symbol mode k ≡ Flag) (flag_at mode flag is).1 is in
    sym (ap (λ (s : Symbol). code_from s 0 n ahead) here)
flag_is {mode} {n} ahead (shifted {to = to} number flag is_shift is_flag) few =
    let first : number ≡ 0 = shift_to_punct mode number (subst (λ (m : Mode). table_symbol mode number ≡ ShiftTo m) (flag_at to flag is_flag).0 is_shift) in
    let here : table_symbol mode 0 ≡ ShiftTo to = subst (λ (k : ℕ). table_symbol mode k ≡ ShiftTo to) first is_shift in
    sym (ap (λ (s : Symbol). code_from s 0 n ahead) here ∙ cond-true (nat_lt n 7) (flag_from n ahead) (Shift to (n - 6)) (lt-ltb n 7 few))

eci_from : (number count : ℕ) → 1 ≤ count → Eci number count ≡ flag_from count number
unfolding flag_from
eci_from number zero low = absurd (omega arith)
eci_from number (suc count) low = refl

-- A code by its two numbers and the elements that it spells the front of.
code_is : {mode : Mode} {code : Code} {bits : List Bool} {spelled : List Element} {next : Mode} (rest : List Element) → Form mode code bits spelled next
    → code ≡ code_from (table_symbol mode (first_number mode code)) (first_number mode code) (second_number code) (eci_ahead (spelled ++ rest))
unfolding first_number second_number code_from flag_from eci_ahead
code_is {mode} rest (latch {next = to} number is) =
    let here : table_symbol mode (latch_number mode to) ≡ LatchTo to = subst (λ (k : ℕ). table_symbol mode k ≡ LatchTo to) (latch_number-at mode to number is) is in
    sym (ap (λ (s : Symbol). code_from s (latch_number mode to) 0 (eci_ahead rest)) here)
code_is {mode} {spelled = spelled} rest (plain {number = number} is) = data_from (table_symbol mode number) number (eci_ahead (spelled ++ rest)) spelled is
code_is {mode} {spelled = spelled} rest (shift {to = to} number {second = n} is data_is) =
    let here : table_symbol mode (shift_number mode to) ≡ ShiftTo to = subst (λ (k : ℕ). table_symbol mode k ≡ ShiftTo to) (shift_number-at mode to number is) is in
    let low : 1 ≤ n = data_low to n spelled data_is in
    sym (ap (λ (s : Symbol). code_from s (shift_number mode to) (n + 6) (eci_ahead (spelled ++ rest))) here
    ∙ cond-false (nat_lt (n + 6) 7) (flag_from (n + 6) (eci_ahead (spelled ++ rest))) (Shift to (n + 6 - 6)) (le-ltb (n + 6) 7 (omega arith))
    ∙ ap (Shift to) (let e : n + 6 - 6 ≡ n = omega arith in e))
code_is rest (fnc1 flag) = flag_is 0 flag (omega arith)
code_is rest (eci {number = number} {count = count} flag low high fits) = eci_from number count low ∙ flag_is number flag (omega arith)
code_is {mode} {spelled = spelled} rest (short_run number {count = count} bytes is size low high small) =
    let here : table_symbol mode 31 ≡ Binary = subst (λ (k : ℕ). table_symbol mode k ≡ Binary) (binary_at mode number is).1 is in
    sym (ap (λ (s : Symbol). code_from s 31 (count + 2047) (eci_ahead (spelled ++ rest))) here
    ∙ cond-false (nat_lt (count + 2047) 2048) (Run (count + 2047 + 31) true) (Run (count + 2047 - 2047) false) (le-ltb (count + 2047) 2048 (omega arith))
    ∙ ap (λ (n : ℕ). Run n false) (let e : count + 2047 - 2047 ≡ count = omega arith in e))
code_is {mode} {spelled = spelled} rest (long_run number {count = count} bytes is size low high small) =
    let here : table_symbol mode 31 ≡ Binary = subst (λ (k : ℕ). table_symbol mode k ≡ Binary) (binary_at mode number is).1 is in
    sym (ap (λ (s : Symbol). code_from s 31 (count - 31) (eci_ahead (spelled ++ rest))) here
    ∙ cond-true (nat_lt (count - 31) 2048) (Run (count - 31 + 31) true) (Run (count - 31 - 2047) false) (lt-ltb (count - 31) 2048 (omega arith))
    ∙ ap (λ (n : ℕ). Run n true) (let e : count - 31 + 31 ≡ count = omega arith in e))

-- The code of a rank before given elements.
pub ranked : Mode → (rank : ℕ) → List Element → Code
ranked mode rank elements = code_from (table_symbol mode (rank / 4096)) (rank / 4096) (rank % 4096) (eci_ahead elements)

pub ranked_is : {mode : Mode} {code : Code} {bits : List Bool} {spelled : List Element} {next : Mode} (rest : List Element) → Form mode code bits spelled next
    → code ≡ ranked mode (code_rank mode code) (spelled ++ rest)
unfolding ranked
ranked_is {mode} {code} {spelled = spelled} rest form =
    let few = (numbers_few form).1 in
    let first : first_number mode code ≡ code_rank mode code / 4096 = omega arith in
    let second : second_number code ≡ code_rank mode code % 4096 = omega arith in
    code_is rest form
    ∙ ap (λ (k : ℕ). code_from (table_symbol mode k) k (second_number code) (eci_ahead (spelled ++ rest))) first
    ∙ ap (λ (j : ℕ). code_from (table_symbol mode (code_rank mode code / 4096)) (code_rank mode code / 4096) j (eci_ahead (spelled ++ rest))) second

-- Two codes of one rank that spell the front of the same elements are one.
pub same_rank : {mode : Mode} {code code' : Code} {bits bits' : List Bool} {spelled spelled' : List Element} {next next' : Mode} (rest rest' : List Element)
    → Form mode code bits spelled next → Form mode code' bits' spelled' next' → spelled ++ rest ≡ spelled' ++ rest' → code_rank mode code ≡ code_rank mode code' → code ≡ code'
same_rank {mode} {code} {code'} {spelled = spelled} rest rest' former latter same_elements ranks =
    ranked_is rest former
    ∙ ap (λ (r : ℕ). ranked mode r (spelled ++ rest)) ranks
    ∙ ap (λ (es : List Element). ranked mode (code_rank mode code') es) same_elements
    ∙ sym (ranked_is rest' latter)

-- A code that begins with a latch is that latch.
pub latch_alone : {mode : Mode} {code : Code} {bits : List Bool} {spelled : List Element} {next : Mode} (to : Mode) → Form mode code bits spelled next
    → table_symbol mode (first_number mode code) ≡ LatchTo to → code ≡ Latch to
unfolding code_from
latch_alone {mode} {code} {spelled = spelled} to form is =
    code_is [] form ∙ ap (λ (s : Symbol). code_from s (first_number mode code) (second_number code) (eci_ahead (spelled ++ []))) is

-- A code that begins with a shift, other than FLG(n), is that shift and a data code.
pub shift_alone : {mode : Mode} {code : Code} {bits : List Bool} {spelled : List Element} {next : Mode} (to : Mode) → Form mode code bits spelled next
    → table_symbol mode (first_number mode code) ≡ ShiftTo to → 7 ≤ second_number code → (number : ℕ) × (code ≡ Shift to number)
unfolding code_from
shift_alone {mode} {code} {spelled = spelled} to form is late = (
  second_number code - 6,
  code_is [] form ∙ ap (λ (s : Symbol). code_from s (first_number mode code) (second_number code) (eci_ahead (spelled ++ []))) is
      ∙ cond-false (nat_lt (second_number code) 7) (flag_from (second_number code) (eci_ahead (spelled ++ []))) (Shift to (second_number code - 6)) (le-ltb (second_number code) 7 late),
)

-- A code that begins with B/S is a run: of the long form where the second number is below 2,048, else of the short one.
pub long_alone : {mode : Mode} {code : Code} {bits : List Bool} {spelled : List Element} {next : Mode} → Form mode code bits spelled next
    → table_symbol mode (first_number mode code) ≡ Binary → second_number code < 2048 → code ≡ Run (second_number code + 31) true
unfolding code_from
long_alone {mode} {code} {spelled = spelled} form is below =
    code_is [] form ∙ ap (λ (s : Symbol). code_from s (first_number mode code) (second_number code) (eci_ahead (spelled ++ []))) is
    ∙ cond-true (nat_lt (second_number code) 2048) (Run (second_number code + 31) true) (Run (second_number code - 2047) false) (lt-ltb (second_number code) 2048 below)

pub short_alone : {mode : Mode} {code : Code} {bits : List Bool} {spelled : List Element} {next : Mode} → Form mode code bits spelled next
    → table_symbol mode (first_number mode code) ≡ Binary → 2048 ≤ second_number code → code ≡ Run (second_number code - 2047) false
unfolding code_from
short_alone {mode} {code} {spelled = spelled} form is late =
    code_is [] form ∙ ap (λ (s : Symbol). code_from s (first_number mode code) (second_number code) (eci_ahead (spelled ++ []))) is
    ∙ cond-false (nat_lt (second_number code) 2048) (Run (second_number code + 31) true) (Run (second_number code - 2047) false) (le-ltb (second_number code) 2048 late)
