-- Spellings that are filled with ones read as what they spell.
use Rattle.std.proofs.Common.{◌≡◌, ℕ, zero, suc, ◌+◌, ◌-◌, ◌*◌, ◌<◌, ◌≤◌, Bool, true, false, ◌&&◌, ◌||◌, not, List, [], ◌∷◌, ◌++◌, length, refl, sym, ap, subst, ◌∙◌, arith}
use Rattle.std.specs.Prelude.{nat_lt, replicate, Some, Option, None, is_some}
use Rattle.std.proofs.Math.Bool.{or-true}
use Rattle.std.proofs.lemmas.List.{append_assoc, append-nil, length-append, length-replicate}
use Rattle.std.proofs.lemmas.Bool.Decides.{nat_tests}
use Rattle.std.proofs.lemmas.Bool.{and_parts, agree_below, ltb-true, lt-ltb}
use Rattle.bar_base.specs.Bits.{to_bits}
use Rattle.bar_base.specs.declared.element.Element.{Element}
use Rattle.aztec_modes.specs.declared.mode.Mode.{Mode}
use Rattle.aztec_modes.specs.declared.mode.Mode.TheVariants.{Upper, Lower, Mixed, Punct, Digit}
use Rattle.aztec_modes.specs.declared.code.Code.{Code}
use Rattle.aztec_modes.specs.declared.table.Symbol.{Symbol}
use Rattle.aztec_modes.specs.declared.table.Symbol.TheVariants.{Absent}
use Rattle.aztec_modes.specs.Codes.{table_symbol, code_table, number_bits, mode_width, data_spelled}
use Rattle.aztec_modes.specs.Entry.{Entry, digit_bits, code_length}
use Rattle.aztec_modes.proofs.Forms.{FlagBits, direct, shifted, Form, latch, plain, shift, fnc1, eci, short_run, long_run, form_of, entry_of}
use Rattle.aztec_modes.specs.Spelling.{Spells, nothing, onward}
use Rattle.aztec_modes.specs.Reading.{all_ones, fills, Reads, ends, onward as onward_read}
use Rattle.aztec_modes.proofs.EntryLaws.{entry_len}
use Rattle.aztec_modes.proofs.TableFacts.{each_symbol, flag_at}

pub all_ones-front : (front back : List Bool) → all_ones (front ++ back) ≡ true → all_ones front ≡ true
unfolding all_ones
all_ones-front [] back is = refl
all_ones-front (true ∷ front) back is = all_ones-front front back is
all_ones-front (false ∷ front) back is = is

pub all_ones-back : (front back : List Bool) → all_ones (front ++ back) ≡ true → all_ones back ≡ true
unfolding all_ones
all_ones-back [] back is = is
all_ones-back (true ∷ front) back is = all_ones-back front back is
all_ones-back (false ∷ front) back is = absurd (cc)

pub all_ones-replicate : (n : ℕ) → all_ones (replicate n true) ≡ true
unfolding all_ones
all_ones-replicate zero = refl
all_ones-replicate (suc n) = all_ones-replicate n

-- No data code is all ones.
data_test : Mode → ℕ → Symbol → Bool
data_test mode k s = not (all_ones (number_bits mode k)) || not (is_some (data_spelled s))

data_within : (mode : Mode) → agree_below (λ k. data_test mode k (table_symbol mode k)) (λ k. true) 32 ≡ true
unfolding data_test all_ones number_bits mode_width to_bits table_symbol code_table data_spelled
data_within Upper = refl
data_within Lower = refl
data_within Mixed = refl
data_within Punct = refl
data_within Digit = refl

data_none : (mode : Mode) (k : ℕ) → data_test mode k Absent ≡ true
unfolding data_test data_spelled
data_none mode k = or-true (not (all_ones (number_bits mode k)))

no_data : (mode : Mode) (k : ℕ) (spelled : List Element) → all_ones (number_bits mode k) ≡ true → data_spelled (table_symbol mode k) ≡ Some spelled → ⊥
unfolding data_test
no_data mode k spelled ones is = told (all_ones (number_bits mode k)) (data_spelled (table_symbol mode k)) spelled ones is (each_symbol data_test data_within data_none mode k)
  where
    told : (b : Bool) (d : Option (List Element)) (spelled : List Element) → b ≡ true → d ≡ Some spelled → (not b || not (is_some d)) ≡ true → ⊥
    told true (Some x) spelled ones is h = cc
    told true None spelled ones is h = cc
    told false d spelled ones is h = cc

zero_code : (mode : Mode) (k : ℕ) → mode ≡ Punct → k ≡ 0 → all_ones (number_bits mode k) ≡ true → ⊥
unfolding all_ones number_bits mode_width to_bits
zero_code mode k mode_is k_is ones =
    let low : all_ones (number_bits Punct 0) ≡ true = sym (ap (λ (m : Mode). all_ones (number_bits m 0)) mode_is) ∙ sym (ap (λ (j : ℕ). all_ones (number_bits mode j)) k_is) ∙ ones in
    cc

-- FLG(n) is not all ones.
no_flag : {mode : Mode} {n : ℕ} {bits : List Bool} → FlagBits mode n bits → all_ones bits ≡ true → ⊥
no_flag {mode} {n} (direct flag is) ones = zero_code mode flag (flag_at mode flag is).0 (flag_at mode flag is).1 (all_ones-front (number_bits mode flag) (to_bits 3 n) ones)
no_flag {mode} {n} (shifted {to = to} number flag is_shift is) ones =
    zero_code to flag (flag_at to flag is).0 (flag_at to flag is).1
    (all_ones-front (number_bits to flag) (to_bits 3 n) (all_ones-back (number_bits mode number) (number_bits to flag ++ to_bits 3 n) ones))

-- A code whose bits are all ones and fewer than 18 is a latch: it spells nothing.
ones_form : {mode : Mode} {code : Code} {bits : List Bool} {spelled : List Element} {next : Mode}
    → Form mode code bits spelled next → all_ones bits ≡ true → length bits < 18 → spelled ≡ []
unfolding code_length
ones_form (latch number is) ones few = refl
ones_form {mode} {spelled = spelled} (plain {number = number} is) ones few = absurd (no_data mode number spelled ones is)
ones_form {mode} {spelled = spelled} (shift {to = to} number {second = second} is data_is) ones few =
    absurd (no_data to second spelled (all_ones-back (number_bits mode number) (number_bits to second) ones) data_is)
ones_form (fnc1 flag) ones few = absurd (no_flag flag ones)
ones_form (eci {bits = bits} {number = number} {count = count} flag low high fits) ones few =
    absurd (no_flag flag (all_ones-front bits (digit_bits count number) ones))
ones_form {mode} (short_run number {count = count} bytes is size low high ok) ones few =
    absurd (omega (arith, entry_len (entry_of (short_run {mode = mode} number {count = count} bytes is size low high ok))))
ones_form {mode} (long_run number {count = count} bytes is size low high ok) ones few =
    absurd (omega (arith, entry_len (entry_of (long_run {mode = mode} number {count = count} bytes is size low high ok))))

-- A spelling whose bits are all ones and fewer than 18 spells nothing.
ones_spell : {mode : Mode} {codes : List Code} {bits : List Bool} {elements : List Element}
    → Spells mode codes bits elements → all_ones bits ≡ true → length bits < 18 → elements ≡ []
ones_spell nothing ones few = refl
ones_spell (onward {bits = bits} {rest = rest} {elements = elements} entry spells) ones few =
    ap (λ (xs : List Element). xs ++ elements) (ones_form (form_of entry) (all_ones-front bits rest ones) (omega (arith, length-append bits rest)))
    ∙ ones_spell spells (all_ones-back bits rest ones) (omega (arith, length-append bits rest))

-- Bits that begin a filling are all ones, and fewer than a codeword has.
fills-front : (width : ℕ) (front back : List Bool) → fills width (front ++ back) ≡ true → (all_ones front ≡ true) × (length front < width)
unfolding fills
fills-front width front back is =
    let parts = and_parts (nat_lt (length (front ++ back)) width) (all_ones (front ++ back)) is in
    (all_ones-front front back parts.1, omega (arith, ltb-true (length (front ++ back)) width parts.0, length-append front back))

fills-replicate : (width ones : ℕ) → ones < width → fills width (replicate ones true) ≡ true
unfolding fills
fills-replicate width ones few = grind (arith, nat_tests, length-replicate ones true, all_ones-replicate ones)

-- A spelling, followed by fewer ones than a codeword has bits, reads as what it spells. No matter whether the reading ends at the end
-- of the spelling or before latches there that are all ones.
pub spelling_reads : (width : ℕ) → width ≤ 18 → (ones : ℕ) → ones < width → {mode : Mode} {codes : List Code} {bits : List Bool} {elements : List Element}
    → Spells mode codes bits elements → Reads width mode (bits ++ replicate ones true) elements
spelling_reads width small ones few nothing = ends (fills-replicate width ones few)
spelling_reads width small ones few {mode} (onward {next = next} {bits = bits} {rest = rest} {spelled = spelled} {elements = elements} entry spells) =
    choose (fills width ((bits ++ rest) ++ replicate ones true)) refl (spelling_reads width small ones few spells)
  where
    choose : (b : Bool) → fills width ((bits ++ rest) ++ replicate ones true) ≡ b → Reads width next (rest ++ replicate ones true) elements → Reads width mode ((bits ++ rest) ++ replicate ones true) (spelled ++ elements)
    choose true is more =
        let front = fills-front width (bits ++ rest) (replicate ones true) is in
        subst (λ (es : List Element). Reads width mode ((bits ++ rest) ++ replicate ones true) es) (sym (ones_spell (onward entry spells) front.0 (omega (arith, front.1)))) (ends is)
    choose false is more =
        let same : (bits ++ rest) ++ replicate ones true ≡ bits ++ (rest ++ replicate ones true) = append_assoc bits rest (replicate ones true) in
        subst (λ (xs : List Bool). Reads width mode xs (spelled ++ elements)) (sym same)
        (onward_read (sym (ap (fills width) same) ∙ is) entry more)
