-- The row of Code 93 that is drawn for a text reads as this text.
use Rattle.std.proofs.Common.{◌≡◌, ℕ, ◌<◌, ◌≤◌, Bool, true, All, List, [], ◌∷◌, ◌++◌, length, map, take, drop, reverse, Some, None, Ok, Err, refl, sym, ap, subst, ◌∙◌, arith, append_assoc}
use Rattle.std.specs.List.{flat_map}
use Rattle.std.proofs.lemmas.List.{append-nil, length-append}
use Rattle.std.proofs.lemmas.List.Elements.{All-append, All-cons, All-nil}
use Rattle.std.proofs.lemmas.Grind.{flat_map-append}
use Rattle.bar_base.specs.Bits.{number_after}
use Rattle.bar_base.specs.Results.{◌>>=◌}
use Rattle.bar_base.specs.Stripes.{stripes, row_picture}
use Rattle.bar_base.specs.Text.{values_of_text}
use Rattle.bar_base.specs.declared.element.Element.{Element}
use Rattle.bar_base.specs.declared.element.Element.TheVariants as element
use Rattle.bar_base.specs.declared.linear.Linear.{Linear}
use Rattle.linear_codes.specs.Code93.{widths93, pattern93_of, symbol_widths93, weighted_check, checks93, symbol93, values93, code93_of}
use Rattle.linear_reader.specs.declared.symbology.RowSymbology.TheVariants.{Code93}
use Rattle.linear_reader.specs.Patterns.{start_modules, start_value, pattern_count, end_modules, end_pattern}
use Rattle.linear_reader.specs.Row.{least_patterns, most_patterns, listed_values}
use Rattle.linear_reader.specs.Checks.{check_count, wanted_checks}
use Rattle.linear_reader.specs.Data.{bytes_from, drawn_values, row_elements}
use Rattle.linear_reader.specs.Drawn.{IsReadAs}
use Rattle.linear_reader.proofs.CheckLaws.{checks_right, data_is}
use Rattle.linear_reader.proofs.DrawnRows.{IsMadeOf, made_read, as_many}
use Rattle.linear_reader.proofs.FullAsciiTable.{draws93, drawn_small93, values_small93}
use Rattle.linear_reader.proofs.ListedLaws.{weaker}
use Rattle.linear_reader.proofs.PieceTables.{piece93, pieces93, all_even93}
use Rattle.linear_reader.proofs.StripePieces.{stripes-pieces}
use Rattle.linear_reader.proofs.TextValues.{drawn_text, each_value, text_read}

end93 : List Bool
end93 = stripes true (widths93 47 ++ 1 ∷ [])

begin_long : length (piece93 47) ≡ 9
unfolding widths93 stripes
begin_long = refl

begin_dark : piece93 47 ≡ true ∷ drop 1 (piece93 47)
unfolding widths93 stripes
begin_dark = refl

begin_is : start_value Code93 (number_after 0 (piece93 47)) ≡ Some 47
unfolding start_value pattern93_of widths93 number_after stripes
begin_is = refl

end_long : length end93 ≡ 10
unfolding end93 widths93 stripes
end_long = refl

end_is : number_after 0 end93 ≡ end_pattern Code93
unfolding end93 end_pattern pattern93_of widths93 number_after stripes
end_is = refl

end_dark : reverse end93 ≡ true ∷ drop 1 (reverse end93)
unfolding end93 widths93 stripes
end_dark = refl

end_other : start_value Code93 (number_after 0 (take 9 (reverse end93))) ≡ None
unfolding end93 start_value pattern93_of widths93 number_after stripes
end_other = refl

row93 : (values : List ℕ) → All (λ value. value < 47) values → stripes true (symbol_widths93 values) ≡ piece93 47 ++ (flat_map piece93 values ++ end93)
unfolding symbol_widths93 end93
row93 values small =
    let all : All (λ value. value < 48) (47 ∷ values) = All-cons (λ value. value < 48) 47 values (omega arith) (weaker 47 48 (omega arith) values small) in
    let ending = widths93 47 ++ 1 ∷ [] in
    let widths : flat_map widths93 (47 ∷ values ++ 47 ∷ []) ++ 1 ∷ [] ≡ flat_map widths93 (47 ∷ values) ++ ending =
    ap (λ (ws : List ℕ). ws ++ 1 ∷ []) (flat_map-append widths93 (47 ∷ values) (47 ∷ []) ∙ ap (λ (ws : List ℕ). flat_map widths93 (47 ∷ values) ++ ws) (append-nil (widths93 47)))
    ∙ append_assoc (flat_map widths93 (47 ∷ values)) (widths93 47) (1 ∷ []) in
    ap (stripes true) widths
    ∙ stripes-pieces true widths93 (47 ∷ values) ending (all_even93 (47 ∷ values) all)
    ∙ append_assoc (piece93 47) (flat_map piece93 values) (stripes true ending)

as_many93 : (values : List ℕ) → All (λ value. value < 47) values → length values ≤ length (flat_map piece93 values)
unfolding pattern_count
as_many93 values small = as_many Code93 piece93 pieces93 values small

made93 : (values : List ℕ) → All (λ value. value < 47) values → 2 ≤ length values
    → IsMadeOf Code93 piece93 47 (piece93 47) end93 values (stripes true (symbol_widths93 values))
unfolding start_modules pattern_count end_modules least_patterns most_patterns
made93 values small enough = record {
  is = row93 values small;
  begin_long = begin_long;
  begin_is = begin_is;
  begin_rest = drop 1 (piece93 47);
  begin_dark = begin_dark;
  end_long = end_long;
  end_is = end_is;
  end_rest = drop 1 (reverse end93);
  end_dark = end_dark;
  end_wide = omega arith;
  end_other = end_other;
  small = small;
  enough = enough;
  few = omega (arith, ap length (row93 values small), length-append (piece93 47) (flat_map piece93 values ++ end93), length-append (flat_map piece93 values) end93, as_many93 values small);
}

check_small : (most : ℕ) (values : List ℕ) → weighted_check most values < 47
unfolding weighted_check
check_small most values = omega arith

checks_small : (values : List ℕ) → All (λ value. value < 47) (checks93 values)
unfolding checks93
checks_small values =
    All-cons (λ value. value < 47) (weighted_check 20 values) (weighted_check 15 (values ++ weighted_check 20 values ∷ []) ∷ []) (check_small 20 values)
    (All-cons (λ value. value < 47) (weighted_check 15 (values ++ weighted_check 20 values ∷ [])) [] (check_small 15 (values ++ weighted_check 20 values ∷ [])) (All-nil (λ value. value < 47)))

two_checks : (values : List ℕ) → length (checks93 values) ≡ 2
unfolding checks93
two_checks values = refl

reads93 : (values : List ℕ) (body : List Element) → All (λ value. value < 47) values → bytes_from Code93 0 None values ≡ Ok body
    → IsReadAs Code93 (stripes true (symbol_widths93 (values ++ checks93 values))) body (checks93 values)
unfolding listed_values row_elements check_count wanted_checks
reads93 values body small spelled =
    let all = values ++ checks93 values in
    made_read Code93 piece93 47 (piece93 47) end93 all (stripes true (symbol_widths93 all)) all (checks93 values) body pieces93
    (made93 all (All-append (λ value. value < 47) values (checks93 values) small (checks_small values)) (omega (arith, length-append values (checks93 values), two_checks values))) refl
    (checks_right Code93 values (checks93 values) (two_checks values) refl)
    (ap (bytes_from Code93 0 None) (data_is Code93 values (checks93 values) (two_checks values)) ∙ spelled)

record IsSymbolOf (values : List ℕ) (symbol : Linear) : Type 0 where
  modules : symbol.grid.modules ≡ stripes true (symbol_widths93 (values ++ checks93 values))
  checks : symbol.checks ≡ checks93 values

symbol_of : (values : List ℕ) (symbol : Linear) → symbol93 values ≡ symbol → IsSymbolOf values symbol
unfolding symbol93 row_picture
symbol_of values symbol is = record { modules = ap (λ (s : Linear). s.grid.modules) (sym is); checks = ap (λ (s : Linear). s.checks) (sym is) }

-- A drawn text of Code 93 reads as its bytes.
pub text93 : (text : List ℕ) (symbol : Linear) → code93_of text ≡ Ok symbol → IsReadAs Code93 symbol.grid.modules (map element.Byte text) symbol.checks
unfolding code93_of drawn_values
text93 text symbol is =
    elim (values_of_text values93 107 text) as (λ r. values_of_text values93 107 text ≡ r → (r >>= λ values. Ok (symbol93 values)) ≡ Ok symbol → IsReadAs Code93 symbol.grid.modules (map element.Byte text) symbol.checks) [
      | Err fault ↦ λ _ bad. absurd (cc)
      | Ok values ↦ λ drawn given.
          let d = drawn_text values93 107 text values drawn in
          let small : All (λ value. value < 47) values =
          subst (All (λ value. value < 47)) (sym d.is) (each_value (λ value. value < 47) values93 (λ byte some. values_small93 byte (drawn_small93 byte some)) text d.known) in
          let s = symbol_of values symbol (let e : symbol93 values ≡ symbol = cc in e) in
          let body : bytes_from Code93 0 None values ≡ Ok (map element.Byte text) =
          ap (bytes_from Code93 0 None) d.is ∙ text_read Code93 (λ byte some. draws93 byte (drawn_small93 byte some)) text 0 d.known in
          subst (λ (ms : List Bool). IsReadAs Code93 ms (map element.Byte text) symbol.checks) (sym s.modules)
          (subst (IsReadAs Code93 (stripes true (symbol_widths93 (values ++ checks93 values))) (map element.Byte text)) (sym s.checks) (reads93 values (map element.Byte text) small body))
    ] refl is
