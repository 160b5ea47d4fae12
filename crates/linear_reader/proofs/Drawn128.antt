-- The row of Code 128 that is drawn for values reads as the elements that they spell.
use Rattle.std.proofs.Common.{◌≡◌, ◌⊎◌, ℕ, ◌+◌, ◌==◌, ◌<◌, Bool, true, false, if◌then◌else◌, All, List, [], ◌∷◌, ◌++◌, length, take, drop, reverse, Option, Some, None, Ok, Err, inl, inr, refl, sym, ap, subst, ◌∙◌, arith, append_assoc}
use Rattle.std.specs.List.{flat_map}
use Rattle.std.proofs.lemmas.Bool.{eqb-true}
use Rattle.std.proofs.lemmas.List.{length-append}
use Rattle.std.proofs.lemmas.List.Elements.{All-append, All-cons, All-nil}
use Rattle.bar_base.specs.Bits.{number_after}
use Rattle.bar_base.specs.Stripes.{stripes}
use Rattle.bar_base.specs.declared.element.Element.{Element}
use Rattle.code128_best.specs.declared.state.State.{State}
use Rattle.code128_best.specs.Rules.{Acts, character, digits, shift_on, text_to_c, a_to_b, fnc4_in_b, c_to_b, fnc4_in_a, b_to_a, c_to_a, fnc1}
use Rattle.code128_best.specs.Spelling.{ValuesSpell, ended, onward, SymbolSpells, begun, state_after_start}
use Rattle.code128_best.specs.Symbol.{check128, widths128, pattern128, stop_widths128, symbol_widths128}
use Rattle.code128_best.specs.Values.{spelled_elements}
use Rattle.code128_best.proofs.RuleLaws.{HasEffect, acts_has}
use Rattle.linear_reader.specs.declared.symbology.RowSymbology.TheVariants.{Code128}
use Rattle.linear_reader.specs.declared.scan.ScanFault.TheVariants.{BadSpelling}
use Rattle.linear_reader.specs.Patterns.{start_modules, start_value, pattern_count, end_modules, end_pattern}
use Rattle.linear_reader.specs.Row.{least_patterns, most_patterns, listed_values}
use Rattle.linear_reader.specs.Checks.{check_count, wanted_checks}
use Rattle.linear_reader.specs.Data.{with_more, on_state, spelled_from, spelled128, row_elements}
use Rattle.linear_reader.specs.Drawn.{IsReadAs}
use Rattle.linear_reader.proofs.CheckLaws.{checks_right, data_is}
use Rattle.linear_reader.proofs.DrawnRows.{IsMadeOf, made_read, as_many}
use Rattle.linear_reader.proofs.PieceTables.{piece128, pieces128, long128, all_even128}
use Rattle.linear_reader.proofs.SpellingLaws.{act_on}
use Rattle.linear_reader.proofs.StripePieces.{stripes-pieces}

-- what values spell, they read as
spells_from : {state : State} {values : List ℕ} {elements : List Element} → ValuesSpell state values elements → (place : ℕ) → spelled_from place state values ≡ Ok elements
unfolding spelled_from
spells_from {state = state} (ended free) place = ap (λ (b : Bool). if b then Ok [] else Err (BadSpelling place)) free
spells_from {state = state} (onward {next = next} {value = value} {values = values} {spelled = spelled} {elements = elements} acts spells) place =
    let has : HasEffect state value next spelled = acts_has acts in
    act_on place state value values has.effect has.acts
    ∙ ap (λ (n : State). with_more (spelled_elements has.effect.spelled) (spelled_from (place + 1) n values)) has.leads
    ∙ ap (λ (es : List Element). with_more es (spelled_from (place + 1) next values)) has.spells
    ∙ ap (with_more spelled) (spells_from spells (place + 1))

-- values that act are small
acts_small : {s next : State} {value : ℕ} {spelled : List Element} → Acts s value next spelled → value < 103
acts_small (character text below) = omega arith
acts_small (digits is below) = omega arith
acts_small (shift_on text is) = omega arith
acts_small (text_to_c text free latch) = omega arith
acts_small (a_to_b is free) = omega arith
acts_small (fnc4_in_b is shift) = omega arith
acts_small (c_to_b is) = omega arith
acts_small (fnc4_in_a is shift) = omega arith
acts_small (b_to_a is free) = omega arith
acts_small (c_to_a is) = omega arith
acts_small (fnc1 free) = omega arith

spelling_small : {state : State} {values : List ℕ} {elements : List Element} → ValuesSpell state values elements → All (λ value. value < 106) values
spelling_small (ended free) = All-nil (λ value. value < 106)
spelling_small (onward {value = value} {values = values} acts spells) =
    let small = acts_small acts in All-cons (λ value. value < 106) value values (omega arith) (spelling_small spells)

check_small : (values : List ℕ) → check128 values < 106
unfolding check128
check_small [] = omega arith
check_small (start ∷ values) = omega arith

-- the three starts
starts : (start : ℕ) (state : State) → state_after_start start ≡ Some state → (start ≡ 103) ⊎ ((start ≡ 104) ⊎ (start ≡ 105))
unfolding state_after_start
starts start state is = elim (start == 103) as (λ b. (start == 103) ≡ b → (start ≡ 103) ⊎ ((start ≡ 104) ⊎ (start ≡ 105))) [
  | true ↦ λ e. inl (eqb-true start 103 e)
  | false ↦ λ e. elim (start == 104) as (λ b. (start == 104) ≡ b → (start ≡ 103) ⊎ ((start ≡ 104) ⊎ (start ≡ 105))) [
    | true ↦ λ f. inr (inl (eqb-true start 104 f))
    | false ↦ λ f. elim (start == 105) as (λ b. (start == 105) ≡ b → (start ≡ 103) ⊎ ((start ≡ 104) ⊎ (start ≡ 105))) [
      | true ↦ λ g. inr (inr (eqb-true start 105 g))
      | false ↦ λ g. absurd (let h : None ≡ Some state = sym (rw (e, f, g) refl) ∙ is in cc)
    ] refl
  ] refl
] refl

record IsStart (start : ℕ) : Type 0 where
  value : start_value Code128 (number_after 0 (piece128 start)) ≡ Some start
  dark : piece128 start ≡ true ∷ drop 1 (piece128 start)
  small : start < 106

is_start : (start : ℕ) → (start ≡ 103) ⊎ ((start ≡ 104) ⊎ (start ≡ 105)) → IsStart start
unfolding start_value pattern128 widths128 number_after stripes
is_start start (inl is) = subst IsStart (sym is) (record { value = refl; dark = refl; small = omega arith })
is_start start (inr (inl is)) = subst IsStart (sym is) (record { value = refl; dark = refl; small = omega arith })
is_start start (inr (inr is)) = subst IsStart (sym is) (record { value = refl; dark = refl; small = omega arith })

end128 : List Bool
end128 = stripes true stop_widths128

end_long : length end128 ≡ 13
unfolding end128 stop_widths128 stripes
end_long = refl

end_dark : reverse end128 ≡ true ∷ drop 1 (reverse end128)
unfolding end128 stop_widths128 stripes
end_dark = refl

end_other : start_value Code128 (number_after 0 (take 11 (reverse end128))) ≡ None
unfolding end128 stop_widths128 stripes number_after start_value pattern128 widths128
end_other = refl

made128 : (start : ℕ) (values : List ℕ) → IsStart start → All (λ value. value < 106) values
    → IsMadeOf Code128 piece128 start (piece128 start) end128 (values ++ check128 (start ∷ values) ∷ []) (stripes true (symbol_widths128 (start ∷ values)))
unfolding end128 symbol_widths128 start_modules pattern_count end_modules end_pattern least_patterns most_patterns
made128 start values begins small =
    let listed = values ++ check128 (start ∷ values) ∷ [] in
    let all_small = All-append (λ value. value < 106) values (check128 (start ∷ values) ∷ []) small
    (All-cons (λ value. value < 106) (check128 (start ∷ values)) [] (check_small (start ∷ values)) (All-nil (λ value. value < 106))) in
    let whole = stripes-pieces true widths128 (start ∷ listed) stop_widths128 (all_even128 (start ∷ listed) (All-cons (λ value. value < 106) start listed begins.small all_small)) in
    let is = whole ∙ append_assoc (piece128 start) (flat_map piece128 listed) end128 in
    record {
      is = is;
      begin_long = long128 start begins.small;
      begin_is = begins.value;
      begin_rest = drop 1 (piece128 start);
      begin_dark = begins.dark;
      end_long = end_long;
      end_is = refl;
      end_rest = drop 1 (reverse end128);
      end_dark = end_dark;
      end_wide = omega arith;
      end_other = end_other;
      small = all_small;
      enough = omega (arith, length-append values (check128 (start ∷ values) ∷ []));
      few = omega (arith, ap length is, length-append (piece128 start) (flat_map piece128 listed ++ end128), length-append (flat_map piece128 listed) end128, as_many Code128 piece128 pieces128 listed all_small);
    }

-- A symbol of Code 128 reads as its elements.
pub reads128 : (values : List ℕ) (elements : List Element) → SymbolSpells values elements
    → IsReadAs Code128 (stripes true (symbol_widths128 values)) elements (check128 values ∷ [])
unfolding listed_values row_elements spelled128 check_count wanted_checks
reads128 values elements (begun {start = start} {state = state} {values = rest} begins spells) =
    let check = check128 (start ∷ rest) in
    let body = ap spelled128 (data_is Code128 (start ∷ rest) (check ∷ []) refl)
    ∙ ap (λ (s : Option State). on_state s (λ state. spelled_from 1 state rest)) begins ∙ spells_from spells 1 in
    made_read Code128 piece128 start (piece128 start) end128 (rest ++ check ∷ []) (stripes true (symbol_widths128 (start ∷ rest))) (start ∷ rest ++ check ∷ []) (check ∷ []) elements
    pieces128 (made128 start rest (is_start start (starts start state begins)) (spelling_small spells)) refl
    (checks_right Code128 (start ∷ rest) (check ∷ []) refl refl) body
