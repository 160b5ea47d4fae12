-- Bytes show one picture, or there is one reason why they show none.
use Rattle.std.proofs.Common.{◌≡◌, ◌⊎◌, ℕ, ◌+◌, ◌<◌, ◌≤◌, inl, inr, Bool, true, false, List, [], ◌∷◌, ◌++◌, length, take, drop, map, refl, sym, ap, subst, ◌∙◌, append_assoc, append-nil, arith}
use Rattle.std.proofs.lemmas.Bool.{cases_lt, cases_order}
use Rattle.std.proofs.lemmas.List.{take-append-drop, take-take}
use Rattle.bar_base.specs.GridText.{module_text}
use Rattle.symbol_reader.specs.GridLines.{AreLines, IsBadText, IsGridText, IsLineEnd, IsTextFault, IsTextFaultFor, IsTooLargeFor, feed, return_feed, no_line, last_line, line}
use Rattle.symbol_reader.specs.declared.text_fault.TextFault.{TextFault}
use Rattle.symbol_reader.specs.declared.text_fault.TextFault.TheVariants.{NoMemory, BadText, BadSide}

-- No module begins the bytes.
abbrev NoModule : List ℕ → Type 0
NoModule bytes = (dark : Bool) (more : List ℕ) → bytes ≡ module_text dark ∷ more → ⊥

abbrev first_byte : List ℕ → ℕ
first_byte [] = 0
first_byte (byte ∷ bytes) = byte

none_in_nothing : NoModule []
none_in_nothing dark more e = cc

none_in_end : (end rest : List ℕ) → IsLineEnd end → NoModule (end ++ rest)
none_in_end _ rest feed true more e = absurd (omega (arith, ap first_byte e))
none_in_end _ rest feed false more e = absurd (omega (arith, ap first_byte e))
none_in_end _ rest return_feed true more e = absurd (omega (arith, ap first_byte e))
none_in_end _ rest return_feed false more e = absurd (omega (arith, ap first_byte e))

end_some : (end rest : List ℕ) → IsLineEnd end → [] ≡ end ++ rest → ⊥
end_some _ rest feed e = cc
end_some _ rest return_feed e = cc

ends_once : (end end' rest rest' : List ℕ) → IsLineEnd end → IsLineEnd end' → end ++ rest ≡ end' ++ rest' → rest ≡ rest'
ends_once _ _ rest rest' feed feed e = cc e
ends_once _ _ rest rest' feed return_feed e = absurd (omega (arith, ap first_byte e))
ends_once _ _ rest rest' return_feed feed e = absurd (omega (arith, ap first_byte e))
ends_once _ _ rest rest' return_feed return_feed e = cc e

same_module : (dark dark' : Bool) → module_text dark ≡ module_text dark' → dark ≡ dark'
same_module true true e = refl
same_module false false e = refl
same_module true false e = absurd (omega (arith, e))
same_module false true e = absurd (omega (arith, e))

-- The modules up to the end of a line are one row.
row_once : (row row' : List Bool) (x y : List ℕ) → NoModule x → NoModule y → map module_text row ++ x ≡ map module_text row' ++ y → (row ≡ row') × (x ≡ y)
row_once [] [] x y no_x no_y e = (refl, e)
row_once [] (dark ∷ row') x y no_x no_y e = absurd (no_x dark (map module_text row' ++ y) e)
row_once (dark ∷ row) [] x y no_x no_y e = absurd (no_y dark (map module_text row ++ x) (sym e))
row_once (dark ∷ row) (dark' ∷ row') x y no_x no_y e =
    let first : dark ≡ dark' = same_module dark dark' (ap first_byte e) in
    let tails : map module_text row ++ x ≡ map module_text row' ++ y = cc e in
    let rest = row_once row row' x y no_x no_y tails in
    (ap (λ (d : Bool). d ∷ row) first ∙ ap (λ (r : List Bool). dark' ∷ r) rest.0, rest.1)

row_some : (row : List Bool) (x : List ℕ) → 1 ≤ length row → [] ≡ map module_text row ++ x → ⊥
row_some [] x some e = absurd (omega (arith, some))
row_some (dark ∷ row) x some e = cc

open_row : (row : List Bool) → map module_text row ++ [] ≡ map module_text row
open_row row = append-nil (map module_text row)

-- Lines are those of one list of rows.
rows_once : {width width' : ℕ} {rows rows' : List (List Bool)} {bytes bytes' : List ℕ} → 1 ≤ width → 1 ≤ width'
    → AreLines width rows bytes → AreLines width' rows' bytes' → bytes ≡ bytes' → rows ≡ rows'
rows_once wide wide' no_line no_line e = refl
rows_once wide wide' no_line (last_line {row} long) e = absurd (row_some row [] (omega (arith, wide', long)) (e ∙ sym (open_row row)))
rows_once wide wide' no_line (line {row} {rows} {end} {rest} long ends more) e = absurd (row_some row (end ++ rest) (omega (arith, wide', long)) e)
rows_once wide wide' (last_line {row} long) no_line e = absurd (row_some row [] (omega (arith, wide, long)) (sym e ∙ sym (open_row row)))
rows_once wide wide' (last_line {row} long) (last_line {row = row'} long') e =
    ap (λ (r : List Bool). r ∷ []) (row_once row row' [] [] none_in_nothing none_in_nothing (open_row row ∙ e ∙ sym (open_row row'))).0
rows_once wide wide' (last_line {row} long) (line {row = row'} {rows = rows'} {end = end'} {rest = rest'} long' ends' more') e =
    absurd (end_some end' rest' ends' (row_once row row' [] (end' ++ rest') none_in_nothing (none_in_end end' rest' ends') (open_row row ∙ e)).1)
rows_once wide wide' (line {row} {rows} {end} {rest} long ends more) no_line e = absurd (row_some row (end ++ rest) (omega (arith, wide, long)) (sym e))
rows_once wide wide' (line {row} {rows} {end} {rest} long ends more) (last_line {row = row'} long') e =
    absurd (end_some end rest ends (row_once row' row [] (end ++ rest) none_in_nothing (none_in_end end rest ends) (open_row row' ∙ sym e)).1)
rows_once wide wide' (line {row} {rows} {end} {rest} long ends more) (line {row = row'} {rows = rows'} {end = end'} {rest = rest'} long' ends' more') e =
    let here = row_once row row' (end ++ rest) (end' ++ rest') (none_in_end end rest ends) (none_in_end end' rest' ends') e in
    let rest_is : rest ≡ rest' = ends_once end end' rest rest' ends ends' here.1 in
    ap (λ (r : List Bool). r ∷ rows) here.0 ∙ ap (λ (rs : List (List Bool)). row' ∷ rs) (rows_once wide wide' more more' rest_is)

abbrev first_row : List (List Bool) → List Bool
first_row [] = []
first_row (row ∷ rows) = row

first_long : {width : ℕ} {rows : List (List Bool)} {bytes : List ℕ} → 1 ≤ length rows → AreLines width rows bytes → length (first_row rows) ≡ width
first_long some no_line = absurd (omega (arith, some))
first_long some (last_line long) = long
first_long some (line long ends more) = long

-- A text that is too large is so with one width and one number of rows.
sides_once : (most_wide most_rows : ℕ) (bytes : List ℕ) (width width' count count' : ℕ) → IsTooLargeFor most_wide most_rows bytes width count → IsTooLargeFor most_wide most_rows bytes width' count' → (width ≡ width') × (count ≡ count')
sides_once most_wide most_rows bytes width width' count count' p q =
    let rows : p.sides.rows ≡ q.sides.rows = rows_once p.sides.text.wide q.sides.text.wide p.sides.text.lines q.sides.text.lines refl in (
      sym (first_long p.sides.text.some p.sides.text.lines) ∙ ap (λ (rs : List (List Bool)). length (first_row rs)) rows ∙ first_long q.sides.text.some q.sides.text.lines,
      sym p.sides.counted ∙ ap length rows ∙ q.sides.counted,
    )

-- Bytes leave the text of a grid at one place.
not_before : (bytes : List ℕ) (place place' : ℕ) → IsBadText bytes place → IsBadText bytes place' → place < place' → ⊥
not_before bytes place place' p q before =
    let (more, goes_on) = q.begins in
    let front : take place' bytes ≡ take (place + 1) bytes ++ drop (place + 1) (take place' bytes) =
    sym (take-append-drop (place + 1) (take place' bytes))
    ∙ ap (λ (bs : List ℕ). bs ++ drop (place + 1) (take place' bytes)) (take-take (place + 1) place' bytes (omega (arith, before))) in
    let whole : take place' bytes ++ more ≡ take (place + 1) bytes ++ (drop (place + 1) (take place' bytes) ++ more) =
    ap (λ (bs : List ℕ). bs ++ more) front ∙ append_assoc (take (place + 1) bytes) (drop (place + 1) (take place' bytes)) more in
    p.stuck (omega (arith, before, q.within)) (drop (place + 1) (take place' bytes) ++ more) (subst (λ (bs : List ℕ). IsGridText bs) whole goes_on)

place_once : (bytes : List ℕ) (place place' : ℕ) → IsBadText bytes place → IsBadText bytes place' → place ≡ place'
place_once bytes place place' p q = by_order (cases_order place place')
  where
    by_order : (place ≡ place') ⊎ ((place < place') ⊎ (place' < place)) → place ≡ place'
    by_order (inl same) = same
    by_order (inr (inl before)) = absurd (not_before bytes place place' p q before)
    by_order (inr (inr behind)) = absurd (not_before bytes place' place q p behind)

not_too_large : (most_wide most_rows : ℕ) (bytes : List ℕ) (place width count : ℕ) → IsBadText bytes place → IsTooLargeFor most_wide most_rows bytes width count → ⊥
not_too_large most_wide most_rows bytes place width count bad large = by_place (cases_lt place (length bytes))
  where
    text : IsGridText bytes
    text = (width, count, large.sides)

    by_place : (place < length bytes) ⊎ (length bytes ≤ place) → ⊥
    by_place (inl inside) = bad.stuck inside (drop (place + 1) bytes) (subst (λ (bs : List ℕ). IsGridText bs) (sym (take-append-drop (place + 1) bytes)) text)
    by_place (inr past) = bad.short (omega (arith, past, bad.within)) text

-- Besides want of memory bytes have one fault.
pub text_fault_for_once : (most_wide most_rows : ℕ) (bytes : List ℕ) (fault other : TextFault) → IsTextFaultFor most_wide most_rows bytes fault
    → IsTextFaultFor most_wide most_rows bytes other → (fault ≡ NoMemory) ⊎ ((other ≡ NoMemory) ⊎ (fault ≡ other))
text_fault_for_once w h bytes NoMemory other p q = inl refl
text_fault_for_once w h bytes (BadText place) NoMemory p q = inr (inl refl)
text_fault_for_once w h bytes (BadText place) (BadText place') p q = inr (inr (ap (λ (n : ℕ). BadText n) (place_once bytes place place' p q)))
text_fault_for_once w h bytes (BadText place) (BadSide width count) p q = absurd (not_too_large w h bytes place width count p q)
text_fault_for_once w h bytes (BadSide width count) NoMemory p q = inr (inl refl)
text_fault_for_once w h bytes (BadSide width count) (BadText place) p q = absurd (not_too_large w h bytes place width count q p)
text_fault_for_once w h bytes (BadSide width count) (BadSide width' count') p q =
    let same = sides_once w h bytes width width' count count' p q in
    inr (inr (ap (λ (n : ℕ). BadSide n count) same.0 ∙ ap (λ (n : ℕ). BadSide width' n) same.1))

-- The same of a picture of at most 151 by 151 modules.
pub text_fault_once : (bytes : List ℕ) (fault other : TextFault) → IsTextFault bytes fault → IsTextFault bytes other
    → (fault ≡ NoMemory) ⊎ ((other ≡ NoMemory) ⊎ (fault ≡ other))
text_fault_once bytes fault other p q = text_fault_for_once 151 151 bytes fault other p q
