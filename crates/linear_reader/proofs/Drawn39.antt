-- The rows of Code 39 that are drawn for texts read as these texts.
use Rattle.std.proofs.Common.{◌≡◌, ℕ, ◌<◌, ◌≤◌, Bool, true, false, All, List, [], ◌∷◌, ◌++◌, length, map, take, drop, reverse, Some, None, Ok, Err, refl, sym, ap, subst, ◌∙◌, arith}
use Rattle.std.specs.List.{flat_map}
use Rattle.std.proofs.lemmas.List.{append-nil, length-append}
use Rattle.std.proofs.lemmas.Grind.{flat_map-append}
use Rattle.bar_base.specs.Bits.{number_after}
use Rattle.bar_base.specs.Results.{◌>>=◌}
use Rattle.bar_base.specs.Stripes.{stripes, row_picture}
use Rattle.bar_base.specs.Text.{values_of_text}
use Rattle.bar_base.specs.declared.element.Element.{Element}
use Rattle.bar_base.specs.declared.element.Element.TheVariants as element
use Rattle.bar_base.specs.declared.linear.Linear.{Linear}
use Rattle.linear_codes.specs.Code39.{widths39, pattern39_of, symbol_widths39, checks39, symbol39, values39, values39_full, code39_of, code39_full_of}
use Rattle.linear_reader.specs.declared.symbology.RowSymbology.TheVariants.{Code39, Code39Full}
use Rattle.linear_reader.specs.Patterns.{start_modules, start_value, pattern_count, end_modules, end_pattern}
use Rattle.linear_reader.specs.Row.{least_patterns, most_patterns, listed_values}
use Rattle.linear_reader.specs.Checks.{check_count, wanted_checks, checks_of}
use Rattle.linear_reader.specs.Data.{character_element, drawn_values, row_elements}
use Rattle.linear_reader.specs.Drawn.{IsReadAs, raised}
use Rattle.linear_reader.proofs.CheckLaws.{checks_right}
use Rattle.linear_reader.proofs.DrawnRows.{IsMadeOf, made_read, as_many}
use Rattle.linear_reader.proofs.FullAsciiTable.{draws39, drawn_small39, values_small39}
use Rattle.linear_reader.proofs.PieceTables.{gap39, piece39, pieces39, pieces39_full, all_even39}
use Rattle.linear_reader.proofs.StripePieces.{after, stripes-append, stripes-pieces}
use Rattle.linear_reader.proofs.TextValues.{drawn_text, each_value, small39, raised_text, text_read}

begin39 : List Bool
begin39 = stripes true (widths39 43)

begin_long : length begin39 ≡ 12
unfolding begin39 widths39 stripes
begin_long = refl

begin_dark : begin39 ≡ true ∷ drop 1 begin39
unfolding begin39 widths39 stripes
begin_dark = refl

begin_is : start_value Code39 (number_after 0 begin39) ≡ Some 43
unfolding begin39 start_value pattern39_of widths39 number_after stripes
begin_is = refl

begin_is_full : start_value Code39Full (number_after 0 begin39) ≡ Some 43
unfolding begin39 start_value pattern39_of widths39 number_after stripes
begin_is_full = refl

begin_after : after true (widths39 43) ≡ false
unfolding after widths39
begin_after = refl

end_long : length (piece39 43) ≡ 13
unfolding widths39 stripes
end_long = refl

end_is : number_after 0 (piece39 43) ≡ pattern39_of 43
unfolding pattern39_of widths39 number_after stripes
end_is = refl

end_dark : reverse (piece39 43) ≡ true ∷ drop 1 (reverse (piece39 43))
unfolding widths39 stripes
end_dark = refl

end_other : start_value Code39 (number_after 0 (take 12 (reverse (piece39 43)))) ≡ None
unfolding start_value pattern39_of widths39 number_after stripes
end_other = refl

end_other_full : start_value Code39Full (number_after 0 (take 12 (reverse (piece39 43)))) ≡ None
unfolding start_value pattern39_of widths39 number_after stripes
end_other_full = refl

row39 : (values : List ℕ) → All (λ value. value < 43) values → stripes true (symbol_widths39 values) ≡ begin39 ++ (flat_map piece39 values ++ piece39 43)
unfolding symbol_widths39 begin39
row39 values small =
    stripes-append true (widths39 43) (flat_map gap39 (values ++ 43 ∷ []))
    ∙ ap (λ (d : Bool). begin39 ++ stripes d (flat_map gap39 (values ++ 43 ∷ []))) begin_after
    ∙ ap (λ (ws : List ℕ). begin39 ++ stripes false ws) (flat_map-append gap39 values (43 ∷ []) ∙ ap (λ (ws : List ℕ). flat_map gap39 values ++ ws) (append-nil (gap39 43)))
    ∙ ap (λ (ms : List Bool). begin39 ++ ms) (stripes-pieces false gap39 values (gap39 43) (all_even39 values small))

as_many39 : (values : List ℕ) → All (λ value. value < 43) values → length values ≤ length (flat_map piece39 values)
unfolding pattern_count
as_many39 values small = as_many Code39 piece39 pieces39 values small

long39 : (values : List ℕ) → All (λ value. value < 43) values → length values ≤ length (stripes true (symbol_widths39 values))
long39 values small =
    omega (arith, ap length (row39 values small), length-append begin39 (flat_map piece39 values ++ piece39 43), length-append (flat_map piece39 values) (piece39 43), as_many39 values small)

made39 : (values : List ℕ) → All (λ value. value < 43) values → IsMadeOf Code39 piece39 43 begin39 (piece39 43) values (stripes true (symbol_widths39 values))
unfolding start_modules pattern_count end_modules end_pattern least_patterns most_patterns
made39 values small = record {
  is = row39 values small;
  begin_long = begin_long;
  begin_is = begin_is;
  begin_rest = drop 1 begin39;
  begin_dark = begin_dark;
  end_long = end_long;
  end_is = end_is;
  end_rest = drop 1 (reverse (piece39 43));
  end_dark = end_dark;
  end_wide = omega arith;
  end_other = end_other;
  small = small;
  enough = omega arith;
  few = long39 values small;
}

made39_full : (values : List ℕ) → All (λ value. value < 43) values → IsMadeOf Code39Full piece39 43 begin39 (piece39 43) values (stripes true (symbol_widths39 values))
unfolding start_modules pattern_count end_modules end_pattern least_patterns most_patterns
made39_full values small = record {
  is = row39 values small;
  begin_long = begin_long;
  begin_is = begin_is_full;
  begin_rest = drop 1 begin39;
  begin_dark = begin_dark;
  end_long = end_long;
  end_is = end_is;
  end_rest = drop 1 (reverse (piece39 43));
  end_dark = end_dark;
  end_wide = omega arith;
  end_other = end_other_full;
  small = small;
  enough = omega arith;
  few = long39 values small;
}

no_checks : (values : List ℕ) → checks_of Code39 values ≡ Ok []
unfolding check_count wanted_checks
no_checks values = ap (checks_of Code39) (sym (append-nil values)) ∙ checks_right Code39 values [] refl refl

no_checks_full : (values : List ℕ) → checks_of Code39Full values ≡ Ok []
unfolding check_count wanted_checks
no_checks_full values = ap (checks_of Code39Full) (sym (append-nil values)) ∙ checks_right Code39Full values [] refl refl

reads39 : (values : List ℕ) → All (λ value. value < 43) values → IsReadAs Code39 (stripes true (symbol_widths39 values)) (map character_element values) []
unfolding listed_values row_elements
reads39 values small =
    made_read Code39 piece39 43 begin39 (piece39 43) values (stripes true (symbol_widths39 values)) values [] (map character_element values)
    pieces39 (made39 values small) refl (no_checks values) refl

reads39_full : (values : List ℕ) (body : List Element) → All (λ value. value < 43) values → row_elements Code39Full values ≡ Ok body
    → IsReadAs Code39Full (stripes true (symbol_widths39 values)) body []
unfolding listed_values
reads39_full values body small spelled =
    made_read Code39Full piece39 43 begin39 (piece39 43) values (stripes true (symbol_widths39 values)) values [] body
    pieces39_full (made39_full values small) refl (no_checks_full values) spelled

-- the symbol of values without check
record IsSymbolOf (values : List ℕ) (symbol : Linear) : Type 0 where
  modules : symbol.grid.modules ≡ stripes true (symbol_widths39 values)
  checks : symbol.checks ≡ []

symbol_of : (values : List ℕ) (symbol : Linear) → symbol39 values [] ≡ symbol → IsSymbolOf values symbol
unfolding symbol39 row_picture
symbol_of values symbol is = record {
  modules = ap (λ (s : Linear). s.grid.modules) (sym is) ∙ ap (λ (vs : List ℕ). stripes true (symbol_widths39 vs)) (append-nil values);
  checks = ap (λ (s : Linear). s.checks) (sym is);
}

-- A drawn text of Code 39 reads as its characters, raised.
pub text39 : (text : List ℕ) (symbol : Linear) → code39_of text false ≡ Ok symbol → IsReadAs Code39 symbol.grid.modules (map raised text) symbol.checks
unfolding code39_of checks39
text39 text symbol is =
    elim (values_of_text values39 85 text) as (λ r. values_of_text values39 85 text ≡ r → (r >>= λ values. Ok (symbol39 values [])) ≡ Ok symbol → IsReadAs Code39 symbol.grid.modules (map raised text) symbol.checks) [
      | Err fault ↦ λ _ bad. absurd (cc)
      | Ok values ↦ λ drawn given.
          let d = drawn_text values39 85 text values drawn in
          let small : All (λ value. value < 43) values = subst (All (λ value. value < 43)) (sym d.is) (each_value (λ value. value < 43) values39 small39 text d.known) in
          let s = symbol_of values symbol (let e : symbol39 values [] ≡ symbol = cc in e) in
          let body : map character_element values ≡ map raised text = ap (map character_element) d.is ∙ raised_text text d.known in
          subst (λ (es : List Element). IsReadAs Code39 symbol.grid.modules es symbol.checks) body
          (subst (λ (ms : List Bool). IsReadAs Code39 ms (map character_element values) symbol.checks) (sym s.modules)
          (subst (IsReadAs Code39 (stripes true (symbol_widths39 values)) (map character_element values)) (sym s.checks) (reads39 values small)))
    ] refl is

-- A drawn text of extended Code 39 reads as its bytes.
pub text39_full : (text : List ℕ) (symbol : Linear) → code39_full_of text ≡ Ok symbol → IsReadAs Code39Full symbol.grid.modules (map element.Byte text) symbol.checks
unfolding code39_full_of row_elements drawn_values
text39_full text symbol is =
    elim (values_of_text values39_full 85 text) as (λ r. values_of_text values39_full 85 text ≡ r → (r >>= λ values. Ok (symbol39 values [])) ≡ Ok symbol → IsReadAs Code39Full symbol.grid.modules (map element.Byte text) symbol.checks) [
      | Err fault ↦ λ _ bad. absurd (cc)
      | Ok values ↦ λ drawn given.
          let d = drawn_text values39_full 85 text values drawn in
          let small : All (λ value. value < 43) values =
          subst (All (λ value. value < 43)) (sym d.is) (each_value (λ value. value < 43) values39_full (λ byte some. values_small39 byte (drawn_small39 byte some)) text d.known) in
          let s = symbol_of values symbol (let e : symbol39 values [] ≡ symbol = cc in e) in
          let body : row_elements Code39Full values ≡ Ok (map element.Byte text) =
          ap (row_elements Code39Full) d.is ∙ text_read Code39Full (λ byte some. draws39 byte (drawn_small39 byte some)) text 0 d.known in
          subst (λ (ms : List Bool). IsReadAs Code39Full ms (map element.Byte text) symbol.checks) (sym s.modules)
          (subst (IsReadAs Code39Full (stripes true (symbol_widths39 values)) (map element.Byte text)) (sym s.checks) (reads39_full values (map element.Byte text) small body))
    ] refl is
