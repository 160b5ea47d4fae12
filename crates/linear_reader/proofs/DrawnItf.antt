-- The row of ITF-14 that is drawn for digits reads as its fourteen digits.
use Rattle.std.proofs.Common.{◌≡◌, ℕ, zero, suc, ◌+◌, ◌-◌, ◌*◌, ◌/◌, ◌%◌, ◌==◌, ◌&&◌, ◌<◌, ◌≤◌, nat_le, Bool, true, false, if◌then◌else◌, All, List, [], ◌∷◌, ◌++◌, length, map, take, drop, reverse, replicate, slice_index, Some, None, Ok, Err, refl, sym, ap, subst, ◌∙◌, arith}
use Rattle.std.specs.List.{flat_map}
use Rattle.std.proofs.lemmas.Bool.{eqb-true, eqb-false, and_parts, leb-true}
use Rattle.std.proofs.lemmas.List.{length-append, length-take-le, length-replicate, map-append}
use Rattle.std.proofs.lemmas.List.Elements.{All-append, All-cons, All-nil, All-head, All-tail, All-take}
use Rattle.bar_base.specs.Bits.{number_after}
use Rattle.bar_base.specs.CheckDigit.{check_digit}
use Rattle.bar_base.specs.Results.{◌>>=◌}
use Rattle.bar_base.specs.Stripes.{stripes, row_picture}
use Rattle.bar_base.specs.Text.{values_of_text}
use Rattle.bar_base.specs.declared.linear.Linear.{Linear}
use Rattle.bar_base.specs.declared.linear.LinearFault.TheVariants.{BadCheck}
use Rattle.linear_codes.specs.Itf14.{digit_elements, element_width, in_turn, digit_pairs, symbol_widths14, symbol14, digit_values, thirteen, checked, filled_to_thirteen, itf14_of}
use Rattle.linear_reader.specs.declared.symbology.RowSymbology.TheVariants.{Itf14}
use Rattle.linear_reader.specs.Patterns.{start_modules, start_value, pattern_count, end_modules, end_pattern}
use Rattle.linear_reader.specs.Row.{least_patterns, most_patterns, two_digits, listed_values}
use Rattle.linear_reader.specs.Checks.{check_count, wanted_checks}
use Rattle.linear_reader.specs.Data.{digit_element, row_elements}
use Rattle.linear_reader.specs.Drawn.{IsReadAs, fourteen}
use Rattle.linear_reader.proofs.CheckLaws.{checks_right}
use Rattle.linear_reader.proofs.DrawnRows.{IsMadeOf, made_read}
use Rattle.linear_reader.proofs.PieceTables.{widths_pair, piece_pair, pieces_pair, all_even_pair}
use Rattle.linear_reader.proofs.StripePieces.{after, stripes-append, stripes-pieces}
use Rattle.linear_reader.proofs.TextValues.{drawn_text, each_value}

start_elements : List ℕ
start_elements = 1 ∷ 1 ∷ 1 ∷ 1 ∷ []

stop_elements : List ℕ
stop_elements = 2 ∷ 1 ∷ 1 ∷ []

begin14 : List Bool
begin14 = stripes true (map element_width start_elements)

end14 : List Bool
end14 = stripes true (map element_width stop_elements)

begin_long : length begin14 ≡ 4
unfolding begin14 start_elements stripes
begin_long = refl

begin_dark : begin14 ≡ true ∷ drop 1 begin14
unfolding begin14 start_elements stripes
begin_dark = refl

begin_is : start_value Itf14 (number_after 0 begin14) ≡ Some 0
unfolding begin14 start_elements start_value number_after stripes
begin_is = refl

begin_after : after true (map element_width start_elements) ≡ true
unfolding after start_elements
begin_after = refl

end_long : length end14 ≡ 5
unfolding end14 stop_elements stripes
end_long = refl

end_is : number_after 0 end14 ≡ 29
unfolding end14 stop_elements number_after stripes
end_is = refl

end_dark : reverse end14 ≡ true ∷ drop 1 (reverse end14)
unfolding end14 stop_elements stripes
end_dark = refl

end_other : start_value Itf14 (number_after 0 (take 4 (reverse end14))) ≡ None
unfolding end14 stop_elements start_value number_after stripes
end_other = refl

-- The pairs of digits as numbers.
pairs_of : List ℕ → List ℕ
pairs_of [] = []
pairs_of (first ∷ []) = []
pairs_of (first ∷ second ∷ digits) = (first * 10 + second) ∷ pairs_of digits

-- An even number of digits.
data IsEven : List ℕ → Type 0 where
  none : IsEven []
  two : {first second : ℕ} {digits : List ℕ} → first < 10 → second < 10 → IsEven digits → IsEven (first ∷ second ∷ digits)

high : (first second : ℕ) → second < 10 → (first * 10 + second) / 10 ≡ first
high first second small = omega arith

low : (first second : ℕ) → second < 10 → (first * 10 + second) % 10 ≡ second
low first second small = omega arith

two_back : {digits : List ℕ} → IsEven digits → flat_map two_digits (pairs_of digits) ≡ digits
unfolding pairs_of
two_back none = refl
two_back (two {first = first} {second = second} {digits = digits} a b more) =
    ap (λ (n : ℕ). n ∷ (first * 10 + second) % 10 ∷ flat_map two_digits (pairs_of digits)) (high first second b)
    ∙ ap (λ (n : ℕ). first ∷ n ∷ flat_map two_digits (pairs_of digits)) (low first second b)
    ∙ ap (λ (ds : List ℕ). first ∷ second ∷ ds) (two_back more)

pairs_small : {digits : List ℕ} → IsEven digits → All (λ pair. pair < 100) (pairs_of digits)
unfolding pairs_of
pairs_small none = All-nil (λ pair. pair < 100)
pairs_small (two {first = first} {second = second} {digits = digits} a b more) =
    All-cons (λ pair. pair < 100) (first * 10 + second) (pairs_of digits) (omega arith) (pairs_small more)

pairs_half : {digits : List ℕ} → IsEven digits → 2 * length (pairs_of digits) ≡ length digits
unfolding pairs_of
pairs_half none = refl
pairs_half (two {first = first} {second = second} {digits = digits} a b more) = let rest = pairs_half more in omega arith

pair_widths : {digits : List ℕ} → IsEven digits → map element_width (digit_pairs digits) ≡ flat_map widths_pair (pairs_of digits)
unfolding pairs_of digit_pairs
pair_widths none = refl
pair_widths (two {first = first} {second = second} {digits = digits} a b more) =
    let rest = flat_map widths_pair (pairs_of digits) in
    map-append element_width (in_turn (digit_elements first) (digit_elements second)) (digit_pairs digits)
    ∙ ap (λ (ws : List ℕ). map element_width (in_turn (digit_elements first) (digit_elements second)) ++ ws) (pair_widths more)
    ∙ ap (λ (n : ℕ). map element_width (in_turn (digit_elements n) (digit_elements second)) ++ rest) (sym (high first second b))
    ∙ ap (λ (n : ℕ). map element_width (in_turn (digit_elements ((first * 10 + second) / 10)) (digit_elements n)) ++ rest) (sym (low first second b))

row14 : (digits : List ℕ) → IsEven digits → stripes true (symbol_widths14 digits) ≡ begin14 ++ (flat_map piece_pair (pairs_of digits) ++ end14)
unfolding symbol_widths14 begin14 end14 start_elements stop_elements
row14 digits even =
    let pairs = flat_map widths_pair (pairs_of digits) in
    let stop = map element_width stop_elements in
    let widths : map element_width (start_elements ++ digit_pairs digits ++ stop_elements) ≡ map element_width start_elements ++ (pairs ++ stop) =
    ap (λ (ws : List ℕ). 1 ∷ 1 ∷ 1 ∷ 1 ∷ ws) (map-append element_width (digit_pairs digits) stop_elements ∙ ap (λ (ws : List ℕ). ws ++ stop) (pair_widths even)) in
    ap (stripes true) widths
    ∙ stripes-append true (map element_width start_elements) (pairs ++ stop)
    ∙ ap (λ (d : Bool). begin14 ++ stripes d (pairs ++ stop)) begin_after
    ∙ ap (λ (ms : List Bool). begin14 ++ ms) (stripes-pieces true widths_pair (pairs_of digits) stop (all_even_pair (pairs_of digits) (pairs_small even)))

made14 : (digits : List ℕ) → IsEven digits → length digits ≡ 14
    → IsMadeOf Itf14 piece_pair 0 begin14 end14 (pairs_of digits) (stripes true (symbol_widths14 digits))
unfolding start_modules pattern_count end_modules end_pattern least_patterns most_patterns
made14 digits even long = record {
  is = row14 digits even;
  begin_long = begin_long;
  begin_is = begin_is;
  begin_rest = drop 1 begin14;
  begin_dark = begin_dark;
  end_long = end_long;
  end_is = end_is;
  end_rest = drop 1 (reverse end14);
  end_dark = end_dark;
  end_wide = omega arith;
  end_other = end_other;
  small = pairs_small even;
  enough = omega (arith, pairs_half even);
  few = omega (arith, pairs_half even);
}

even_of : (half : ℕ) (digits : List ℕ) → length digits ≡ 2 * half → All (λ digit. digit < 10) digits → IsEven digits
even_of half [] long small = none
even_of half (first ∷ []) long small = absurd (omega arith)
even_of half (first ∷ second ∷ digits) long small =
    let more = All-tail (λ (d : ℕ). d < 10) first (second ∷ digits) small in
    two (All-head (λ (d : ℕ). d < 10) first (second ∷ digits) small) (All-head (λ (d : ℕ). d < 10) second digits more)
    (even_of (half - 1) digits (omega arith) (All-tail (λ (d : ℕ). d < 10) second digits more))

check_small : (digits : List ℕ) → check_digit digits < 10
unfolding check_digit
check_small digits = omega arith

reads14 : (front : List ℕ) → length front ≡ 13 → All (λ digit. digit < 10) front
    → IsReadAs Itf14 (stripes true (symbol_widths14 (front ++ check_digit front ∷ []))) (map digit_element (front ++ check_digit front ∷ [])) (check_digit front ∷ [])
unfolding listed_values row_elements check_count wanted_checks
reads14 front long small =
    let digits = front ++ check_digit front ∷ [] in
    let whole : length digits ≡ 14 = omega (arith, length-append front (check_digit front ∷ [])) in
    let all = All-append (λ digit. digit < 10) front (check_digit front ∷ []) small
    (All-cons (λ digit. digit < 10) (check_digit front) [] (check_small front) (All-nil (λ digit. digit < 10))) in
    let even = even_of 7 digits whole all in
    made_read Itf14 piece_pair 0 begin14 end14 (pairs_of digits) (stripes true (symbol_widths14 digits)) digits (check_digit front ∷ []) (map digit_element digits)
    pieces_pair (made14 digits even whole) (two_back even) (checks_right Itf14 front (check_digit front ∷ []) refl refl) refl

-- the values of digits
one_digit : (byte : ℕ) → All (λ digit. digit < 10) (digit_values byte)
unfolding digit_values
one_digit byte = elim (nat_le 48 byte && nat_le byte 57) as (λ b. (nat_le 48 byte && nat_le byte 57) ≡ b → All (λ digit. digit < 10) (if b then (byte - 48) ∷ [] else [])) [
  | true ↦ λ is.
      let parts = and_parts (nat_le 48 byte) (nat_le byte 57) is in
      let most = leb-true byte 57 parts.1 in
      All-cons (λ digit. digit < 10) (byte - 48) [] (omega arith) (All-nil (λ digit. digit < 10))
  | false ↦ λ _. All-nil (λ digit. digit < 10)
] refl

at_most_one : (byte : ℕ) → length (digit_values byte) ≤ 1
unfolding digit_values
at_most_one byte = elim (nat_le 48 byte && nat_le byte 57) as (λ b. length (if b then (byte - 48) ∷ [] else []) ≤ 1) [ true ↦ omega arith | false ↦ omega arith ]

few_digits : (text : List ℕ) → length (flat_map digit_values text) ≤ length text
few_digits [] = omega arith
few_digits (byte ∷ text) = let rest = few_digits text in omega (arith, at_most_one byte, length-append (digit_values byte) (flat_map digit_values text))

record IsFront (front : List ℕ) : Type 0 where
  long : length front ≡ 13
  small : All (λ digit. digit < 10) front

replicated : (count : ℕ) → All (λ digit. digit < 10) (replicate count 0)
replicated zero = All-nil (λ digit. digit < 10)
replicated (suc count) = All-cons (λ digit. digit < 10) 0 (replicate count 0) (omega arith) (replicated count)

front_of : (digits front : List ℕ) → length digits ≤ 14 → All (λ digit. digit < 10) digits → thirteen digits ≡ Ok front → IsFront front
unfolding thirteen
front_of digits front few small is = elim (length digits == 14) as (λ b. (length digits == 14) ≡ b → (if b then checked (take 13 digits) (slice_index digits 13) else Ok (filled_to_thirteen digits)) ≡ Ok front → IsFront front) [
  | true ↦ λ e given. elim (slice_index digits 13 == check_digit (take 13 digits)) as (λ c. (if c then Ok (take 13 digits) else Err (BadCheck 13 (slice_index digits 13) (check_digit (take 13 digits)))) ≡ Ok front → IsFront front) [
    | true ↦ λ right.
        let whole = eqb-true (length digits) 14 e in
        let same : take 13 digits ≡ front = cc in
        subst IsFront same (record { long = length-take-le 13 digits (omega arith); small = All-take (λ digit. digit < 10) 13 digits small })
    | false ↦ λ wrong. absurd (cc)
  ] given
  | false ↦ λ e given.
      let other = eqb-false (length digits) 14 e in
      let shorter : length digits ≤ 13 = omega arith in
      let same : filled_to_thirteen digits ≡ front = cc in
      subst IsFront same (record {
        long = omega (arith, length-append (replicate (13 - length digits) 0) digits, length-replicate {A = ℕ} (13 - length digits) 0);
        small = All-append (λ digit. digit < 10) (replicate (13 - length digits) 0) digits (replicated (13 - length digits)) small;
      })
] refl is

record IsSymbolOf (front : List ℕ) (symbol : Linear) : Type 0 where
  modules : symbol.grid.modules ≡ stripes true (symbol_widths14 (front ++ check_digit front ∷ []))
  checks : symbol.checks ≡ check_digit front ∷ []

symbol_of : (front : List ℕ) (symbol : Linear) → symbol14 front ≡ symbol → IsSymbolOf front symbol
unfolding symbol14 row_picture
symbol_of front symbol is = record { modules = ap (λ (s : Linear). s.grid.modules) (sym is); checks = ap (λ (s : Linear). s.checks) (sym is) }

by_front : (front : List ℕ) (symbol : Linear) (digits : List ℕ) → IsFront front → symbol14 front ≡ symbol → front ++ check_digit front ∷ [] ≡ digits
    → IsReadAs Itf14 symbol.grid.modules (map digit_element digits) symbol.checks
by_front front symbol digits is drawn same =
    let s = symbol_of front symbol drawn in
    subst (λ (ds : List ℕ). IsReadAs Itf14 symbol.grid.modules (map digit_element ds) symbol.checks) same
    (subst (λ (ms : List Bool). IsReadAs Itf14 ms (map digit_element (front ++ check_digit front ∷ [])) symbol.checks) (sym s.modules)
    (subst (IsReadAs Itf14 (stripes true (symbol_widths14 (front ++ check_digit front ∷ []))) (map digit_element (front ++ check_digit front ∷ []))) (sym s.checks)
    (reads14 front is.long is.small)))

-- A drawn text of ITF-14 reads as its fourteen digits.
pub text14 : (text digits : List ℕ) (symbol : Linear) → itf14_of text ≡ Ok symbol → fourteen text ≡ Ok digits → IsReadAs Itf14 symbol.grid.modules (map digit_element digits) symbol.checks
unfolding itf14_of fourteen
text14 text digits symbol drawn are =
    elim (values_of_text digit_values 14 text) as (λ r. values_of_text digit_values 14 text ≡ r
    → (r >>= λ values. thirteen values >>= λ front. Ok (symbol14 front)) ≡ Ok symbol
    → (r >>= λ values. thirteen values >>= λ front. Ok (front ++ check_digit front ∷ [])) ≡ Ok digits
    → IsReadAs Itf14 symbol.grid.modules (map digit_element digits) symbol.checks) [
      | Err fault ↦ λ _ bad _. absurd (cc)
      | Ok values ↦ λ given first second. elim (thirteen values) as (λ t. thirteen values ≡ t → (t >>= λ front. Ok (symbol14 front)) ≡ Ok symbol
          → (t >>= λ front. Ok (front ++ check_digit front ∷ [])) ≡ Ok digits → IsReadAs Itf14 symbol.grid.modules (map digit_element digits) symbol.checks) [
            | Err fault ↦ λ _ bad _. absurd (cc)
            | Ok front ↦ λ thirteen_is one two.
                let d = drawn_text digit_values 14 text values given in
                let small : All (λ digit. digit < 10) values = subst (All (λ digit. digit < 10)) (sym d.is) (each_value (λ digit. digit < 10) digit_values (λ byte _. one_digit byte) text d.known) in
                let few : length values ≤ 14 = omega (arith, ap length d.is, few_digits text, d.few) in
                by_front front symbol digits (front_of values front few small thirteen_is) (let e : symbol14 front ≡ symbol = cc in e) (let e : front ++ check_digit front ∷ [] ≡ digits = cc in e)
          ] refl first second
    ] refl drawn are
