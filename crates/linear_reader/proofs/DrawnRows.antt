-- A row that is made of a start, the patterns of values and an end reads as these values, in both directions.
use Rattle.std.proofs.Common.{◌≡◌, ℕ, zero, suc, ◌+◌, ◌==◌, ◌<◌, ◌≤◌, Bool, true, false, nat_le, if◌then◌else◌, All, List, [], ◌∷◌, ◌++◌, length, take, drop, reverse, Option, Some, None, Ok, refl, sym, ap, ◌∙◌, arith, append_assoc, eq-eqb, ne_eqb, inl, inr}
use Rattle.std.specs.List.{flat_map}
use Rattle.std.proofs.lemmas.Bool.{cases_lt, le-leb, eqb-true}
use Rattle.std.proofs.lemmas.List.{length-append, length-reverse, reverse-append, reverse-reverse, take-append-le}
use Rattle.std.proofs.lemmas.List.Elements.{All-head, All-tail}
use Rattle.std.proofs.Math.Seq.{take-append_seam, drop-append_seam}
use Rattle.bar_base.specs.Bits.{number_after}
use Rattle.bar_base.specs.declared.element.Element.{Element}
use Rattle.linear_reader.specs.declared.symbology.RowSymbology.{RowSymbology}
use Rattle.linear_reader.specs.Patterns.{front_number, on_number, first_from, start_modules, start_value, start_of, pattern_modules, pattern_count, value_pattern, value_of, value_in_front, end_modules, end_pattern}
use Rattle.linear_reader.specs.Row.{from_dark, core, is_end, is_proper_end, least_patterns, most_patterns, value_and_more, values_from, pattern_values, listed_values, row_values}
use Rattle.linear_reader.specs.Checks.{checks_of}
use Rattle.linear_reader.specs.Data.{row_elements}
use Rattle.linear_reader.specs.Drawn.{IsReadAs}
use Rattle.linear_reader.specs.Scan.{scan_from, either_way, core_scan, row_scan}
use Rattle.linear_reader.proofs.RowLaws.{ended, onward}

-- The only number that passes a test is the first that does.
one_passes : (test : ℕ → Bool) (left from v : ℕ) → from ≤ v → v < from + left → test v ≡ true
    → ((other : ℕ) → other < from + left → test other ≡ true → other ≡ v) → first_from test left from ≡ Some v
unfolding first_from
one_passes test zero from v above below passes only = absurd (omega arith)
one_passes test (suc left) from v above below passes only =
    elim (test from) as (λ b. test from ≡ b → (if b then Some from else first_from test left (from + 1)) ≡ Some v) [
      | true ↦ λ e. ap Some (only from (omega arith) e)
      | false ↦ λ e. one_passes test left (from + 1) v (past e) (omega arith) passes (λ other small is. only other (omega arith) is)
    ] refl
  where
    past : test from ≡ false → from + 1 ≤ v
    past e = elim (cases_lt from v) [
      | inl less ↦ omega arith
      | inr more ↦ let same : from ≡ v = omega arith in absurd (let f : true ≡ false = sym passes ∙ ap test (sym same) ∙ e in cc)
    ]

-- How the patterns of a symbology are pieces of modules.
pub record ArePieces (s : RowSymbology) (piece : ℕ → List Bool) : Type 0 where
  pub some : 1 ≤ pattern_modules s
  pub long : (value : ℕ) → value < pattern_count s → length (piece value) ≡ pattern_modules s
  pub number : (value : ℕ) → value < pattern_count s → number_after 0 (piece value) ≡ value_pattern s value
  pub only : (value other : ℕ) → value < pattern_count s → other < pattern_count s → value_pattern s other ≡ value_pattern s value → other ≡ value

value_found : (s : RowSymbology) (piece : ℕ → List Bool) → ArePieces s piece → (value : ℕ) → value < pattern_count s → value_of s (value_pattern s value) ≡ Some value
unfolding value_of
value_found s piece pieces value small =
    one_passes (λ other. value_pattern s other == value_pattern s value) (pattern_count s) 0 value (omega arith) (omega arith)
    (eq-eqb (value_pattern s value) (value_pattern s value) refl)
    (λ other small_other is. pieces.only value other small (omega arith) (eqb-true (value_pattern s other) (value_pattern s value) is))

-- the number of a front
pub number_in_front : (front rest : List Bool) (count : ℕ) → length front ≡ count → front_number count (front ++ rest) ≡ Some (number_after 0 front)
unfolding front_number
number_in_front front rest count is =
    ap (λ (b : Bool). if b then Some (number_after 0 (take count (front ++ rest))) else None)
    (le-leb count (length (front ++ rest)) (omega (arith, length-append front rest)))
    ∙ ap (λ (n : ℕ). Some (number_after 0 (take n (front ++ rest)))) (sym is)
    ∙ ap (λ (xs : List Bool). Some (number_after 0 xs)) (take-append_seam front rest)

piece_read : (s : RowSymbology) (piece : ℕ → List Bool) → ArePieces s piece → (value : ℕ) (rest : List Bool) → value < pattern_count s
    → value_in_front s (piece value ++ rest) ≡ Some value
unfolding value_in_front
piece_read s piece pieces value rest small =
    ap (λ (n : Option ℕ). on_number n (value_of s)) (number_in_front (piece value) rest (pattern_modules s) (pieces.long value small))
    ∙ ap (value_of s) (pieces.number value small)
    ∙ value_found s piece pieces value small

not_end : (s : RowSymbology) (done : ℕ) (modules : List Bool) → end_modules s < length modules → is_proper_end s done modules ≡ false
unfolding is_proper_end is_end
not_end s done modules long =
    elim (nat_le (least_patterns s) done) as (λ b. (if b then (if length modules == end_modules s then number_after 0 modules == end_pattern s else false) else false) ≡ false) [
      | true ↦ ap (λ (b : Bool). if b then number_after 0 modules == end_pattern s else false) (ne_eqb (length modules) (end_modules s) (λ is. omega arith))
      | false ↦ refl
    ]

-- What a row is made of: its start, the pieces of its values, its end.
pub record IsMadeOf (s : RowSymbology) (piece : ℕ → List Bool) (start : ℕ) (begin end : List Bool) (values : List ℕ) (modules : List Bool) : Type 0 where
  pub is : modules ≡ begin ++ (flat_map piece values ++ end)
  pub begin_long : length begin ≡ start_modules s
  pub begin_is : start_value s (number_after 0 begin) ≡ Some start
  pub begin_rest : List Bool
  pub begin_dark : begin ≡ true ∷ begin_rest
  pub end_long : length end ≡ end_modules s
  pub end_is : number_after 0 end ≡ end_pattern s
  pub end_rest : List Bool
  pub end_dark : reverse end ≡ true ∷ end_rest
  pub end_wide : start_modules s ≤ end_modules s
  pub end_other : start_value s (number_after 0 (take (start_modules s) (reverse end))) ≡ None
  pub small : All (λ value. value < pattern_count s) values
  pub enough : least_patterns s ≤ length values
  pub few : length values ≤ most_patterns s modules

at_end : (s : RowSymbology) (done : ℕ) (end : List Bool) → length end ≡ end_modules s → number_after 0 end ≡ end_pattern s → least_patterns s ≤ done → is_proper_end s done end ≡ true
unfolding is_proper_end is_end
at_end s done end long is enough =
    ap (λ (b : Bool). if b then (if length end == end_modules s then number_after 0 end == end_pattern s else false) else false) (le-leb (least_patterns s) done enough)
    ∙ ap (λ (b : Bool). if b then number_after 0 end == end_pattern s else false) (eq-eqb (length end) (end_modules s) long)
    ∙ eq-eqb (number_after 0 end) (end_pattern s) is

read_on : (s : RowSymbology) (piece : ℕ → List Bool) → ArePieces s piece → (end : List Bool) → length end ≡ end_modules s → number_after 0 end ≡ end_pattern s
    → (values : List ℕ) (left done place : ℕ) → All (λ value. value < pattern_count s) values → least_patterns s ≤ done + length values → length values ≤ left
    → values_from s left done place (flat_map piece values ++ end) ≡ Ok values
read_on s piece pieces end long is [] left done place small enough few = ended s left done place end (at_end s done end long is (omega arith))
read_on s piece pieces end long is (value ∷ values) zero done place small enough few = absurd (omega arith)
read_on s piece pieces end long is (value ∷ values) (suc left) done place small enough few =
    let here : value < pattern_count s = All-head (λ (v : ℕ). v < pattern_count s) value values small in
    let rest = flat_map piece values ++ end in
    let whole : (piece value ++ flat_map piece values) ++ end ≡ piece value ++ rest = append_assoc (piece value) (flat_map piece values) end in
    let longer : end_modules s < length (piece value ++ rest) =
    omega (arith, length-append (piece value) rest, length-append (flat_map piece values) end, pieces.long value here, pieces.some) in
    let gone : drop (pattern_modules s) (piece value ++ rest) ≡ rest =
    ap (λ (n : ℕ). drop n (piece value ++ rest)) (sym (pieces.long value here)) ∙ drop-append_seam (piece value) rest in
    ap (values_from s (suc left) done place) whole
    ∙ onward s left done place (piece value ++ rest) (Some value) (not_end s done (piece value ++ rest) longer) (piece_read s piece pieces value rest here)
    ∙ ap (λ (ms : List Bool). value_and_more (Some value) place (values_from s left (done + 1) (place + pattern_modules s) ms)) gone
    ∙ ap (value_and_more (Some value) place)
    (read_on s piece pieces end long is values left (done + 1) (place + pattern_modules s) (All-tail (λ (v : ℕ). v < pattern_count s) value values small) (omega arith) (omega arith))

pub values_read : (s : RowSymbology) (piece : ℕ → List Bool) (start : ℕ) (begin end : List Bool) (values : List ℕ) (modules : List Bool)
    → ArePieces s piece → IsMadeOf s piece start begin end values modules → pattern_values s modules ≡ Ok values
unfolding pattern_values
values_read s piece start begin end values modules pieces made =
    let rest = flat_map piece values ++ end in
    let gone : drop (start_modules s) modules ≡ rest =
    ap (λ (n : ℕ). drop n modules) (sym made.begin_long) ∙ ap (drop (length begin)) made.is ∙ drop-append_seam begin rest in
    ap (values_from s (most_patterns s modules) 0 (start_modules s)) gone
    ∙ read_on s piece pieces end made.end_long made.end_is values (most_patterns s modules) 0 (start_modules s) made.small (omega (arith, made.enough)) made.few

-- a core begins and ends with dark modules
core_itself : (modules rest back : List Bool) → modules ≡ true ∷ rest → reverse modules ≡ true ∷ back → core modules ≡ modules
unfolding core from_dark
core_itself modules rest back is turned =
    ap (λ (xs : List Bool). reverse (from_dark (reverse (from_dark xs)))) is
    ∙ ap (λ (xs : List Bool). reverse (from_dark (reverse xs))) (sym is)
    ∙ ap (λ (xs : List Bool). reverse (from_dark xs)) turned
    ∙ ap reverse (sym turned)
    ∙ reverse-reverse modules

made_dark : (s : RowSymbology) (piece : ℕ → List Bool) (start : ℕ) (begin end : List Bool) (values : List ℕ) (modules : List Bool)
    → (made : IsMadeOf s piece start begin end values modules) → modules ≡ true ∷ (made.begin_rest ++ (flat_map piece values ++ end))
made_dark s piece start begin end values modules made = made.is ∙ ap (λ (xs : List Bool). xs ++ (flat_map piece values ++ end)) made.begin_dark

made_turned : (s : RowSymbology) (piece : ℕ → List Bool) (start : ℕ) (begin end : List Bool) (values : List ℕ) (modules : List Bool)
    → (made : IsMadeOf s piece start begin end values modules) → reverse modules ≡ reverse end ++ reverse (begin ++ flat_map piece values)
made_turned s piece start begin end values modules made =
    ap reverse (made.is ∙ sym (append_assoc begin (flat_map piece values) end)) ∙ reverse-append (begin ++ flat_map piece values) end

begins : (s : RowSymbology) (piece : ℕ → List Bool) (start : ℕ) (begin end : List Bool) (values : List ℕ) (modules : List Bool)
    → IsMadeOf s piece start begin end values modules → start_of s modules ≡ Some start
unfolding start_of
begins s piece start begin end values modules made =
    ap (λ (xs : List Bool). on_number (front_number (start_modules s) xs) (start_value s)) made.is
    ∙ ap (λ (n : Option ℕ). on_number n (start_value s)) (number_in_front begin (flat_map piece values ++ end) (start_modules s) made.begin_long)
    ∙ made.begin_is

begins_not : (s : RowSymbology) (piece : ℕ → List Bool) (start : ℕ) (begin end : List Bool) (values : List ℕ) (modules : List Bool)
    → IsMadeOf s piece start begin end values modules → start_of s (reverse modules) ≡ None
unfolding start_of front_number
begins_not s piece start begin end values modules made =
    let behind = reverse (begin ++ flat_map piece values) in
    let turned = made_turned s piece start begin end values modules made in
    let long : start_modules s ≤ length (reverse end) = omega (arith, length-reverse end, made.end_long, made.end_wide) in
    ap (λ (xs : List Bool). on_number (front_number (start_modules s) xs) (start_value s)) turned
    ∙ ap (λ (b : Bool). on_number (if b then Some (number_after 0 (take (start_modules s) (reverse end ++ behind))) else None) (start_value s))
    (le-leb (start_modules s) (length (reverse end ++ behind)) (omega (arith, length-append (reverse end) behind)))
    ∙ ap (λ (xs : List Bool). start_value s (number_after 0 xs)) (take-append-le (start_modules s) (reverse end) behind long)
    ∙ made.end_other

-- What a row and the row turned round read as.
pub read_forward : (s : RowSymbology) (piece : ℕ → List Bool) (start : ℕ) (begin end : List Bool) (values : List ℕ) (modules : List Bool)
    → IsMadeOf s piece start begin end values modules → row_scan s modules ≡ scan_from s false modules start
unfolding row_scan core_scan
read_forward s piece start begin end values modules made =
    let dark = made_dark s piece start begin end values modules made in
    let turned = made_turned s piece start begin end values modules made ∙ ap (λ (xs : List Bool). xs ++ reverse (begin ++ flat_map piece values)) made.end_dark in
    ap (core_scan s) (core_itself modules _ _ dark turned)
    ∙ ap (λ (n : Option ℕ). either_way s modules n (start_of s (reverse modules))) (begins s piece start begin end values modules made)

pub read_backward : (s : RowSymbology) (piece : ℕ → List Bool) (start : ℕ) (begin end : List Bool) (values : List ℕ) (modules : List Bool)
    → IsMadeOf s piece start begin end values modules → row_scan s (reverse modules) ≡ scan_from s true modules start
unfolding row_scan core_scan
read_backward s piece start begin end values modules made =
    let dark = made_dark s piece start begin end values modules made in
    let turned = made_turned s piece start begin end values modules made ∙ ap (λ (xs : List Bool). xs ++ reverse (begin ++ flat_map piece values)) made.end_dark in
    ap (core_scan s) (core_itself (reverse modules) _ _ turned (reverse-reverse modules ∙ dark))
    ∙ ap (λ (n : Option ℕ). either_way s (reverse modules) n (start_of s (reverse (reverse modules)))) (begins_not s piece start begin end values modules made)
    ∙ ap (either_way s (reverse modules) None) (ap (start_of s) (reverse-reverse modules) ∙ begins s piece start begin end values modules made)
    ∙ ap (λ (xs : List Bool). scan_from s true xs start) (reverse-reverse modules)

-- What values read as.
pub scan_is : (s : RowSymbology) (backward : Bool) (modules : List Bool) (start : ℕ) (values listed checks : List ℕ) (body : List Element) → pattern_values s modules ≡ Ok values
    → listed_values s start values ≡ listed → checks_of s listed ≡ Ok checks → row_elements s listed ≡ Ok body
    → scan_from s backward modules start ≡ Ok (record { body = body; checks = checks; backward = backward })
unfolding scan_from row_values
scan_is s backward modules start values listed checks body read listed_is right spelled = rw (read, listed_is, right, spelled) refl

-- There are at least as many modules as values.
pub as_many : (s : RowSymbology) (piece : ℕ → List Bool) → ArePieces s piece → (values : List ℕ) → All (λ value. value < pattern_count s) values → length values ≤ length (flat_map piece values)
as_many s piece pieces [] small = omega arith
as_many s piece pieces (value ∷ values) small =
    let here : value < pattern_count s = All-head (λ (v : ℕ). v < pattern_count s) value values small in
    let rest = as_many s piece pieces values (All-tail (λ (v : ℕ). v < pattern_count s) value values small) in
    omega (arith, length-append (piece value) (flat_map piece values), pieces.long value here, pieces.some)

-- A row made of pieces reads as its values, in both directions.
pub made_read : (s : RowSymbology) (piece : ℕ → List Bool) (start : ℕ) (begin end : List Bool) (values : List ℕ) (modules : List Bool) (listed checks : List ℕ) (body : List Element)
    → ArePieces s piece → IsMadeOf s piece start begin end values modules → listed_values s start values ≡ listed → checks_of s listed ≡ Ok checks → row_elements s listed ≡ Ok body
    → IsReadAs s modules body checks
made_read s piece start begin end values modules listed checks body pieces made listed_is right spelled =
    let read = values_read s piece start begin end values modules pieces made in
    record {
      forward = read_forward s piece start begin end values modules made ∙ scan_is s false modules start values listed checks body read listed_is right spelled;
      backward = read_backward s piece start begin end values modules made ∙ scan_is s true modules start values listed checks body read listed_is right spelled;
    }
