-- What has been read goes on to the text of a grid; where it can end, it is one; where a byte cannot stand, it is none.
use Rattle.std.proofs.Common.{◌≡◌, ◌⊎◌, ℕ, zero, suc, ◌+◌, ◌-◌, ◌<◌, ◌≤◌, inl, inr, Bool, true, false, List, [], ◌∷◌, ◌++◌, length, take, map, refl, sym, ap, subst, ◌∙◌, arith}
use Rattle.std.specs.Prelude.{None, replicate, ◌==◌}
use Rattle.std.proofs.lemmas.Bool.Decides.{nat_tests}
use Rattle.std.proofs.lemmas.List.{length-append, map-append, length-replicate, append-nil, append_assoc, take_all}
use Rattle.bar_base.specs.GridText.{module_text}
use Rattle.symbol_reader.specs.GridLines.{AreLines, HasTextSides, IsBadText, IsGridText, IsLineEnd, return_feed, no_line, last_line}
use Rattle.symbol_reader.specs.Scanning.{IsOpen, IsScanned, can_end_text, is_whole_line, return_bytes, scan_step}
use Rattle.symbol_reader.specs.declared.scanning.Scan.{Scan}
use Rattle.symbol_reader.proofs.OpenTexts.{ended, plain, whole_wide}
use Rattle.symbol_reader.proofs.TextRuns.{none_here, none_on}

-- A text whose last row is there.
with_last : (scan : Scan) (bytes more : List ℕ) (width : ℕ) (row : List Bool) → (o : IsOpen scan bytes) → (scan.width ≡ 0) ⊎ (scan.width ≡ width) → 1 ≤ width → length row ≡ width
    → bytes ++ more ≡ o.front ++ map module_text row → HasTextSides (bytes ++ more) width (scan.rows + 1)
with_last scan bytes more width row o fits wide long is = record {
  rows = o.rows ++ row ∷ [];
  text = record {
    some = omega (arith, length-append o.rows (row ∷ []));
    wide = wide;
    lines = subst (λ (bs : List ℕ). AreLines width (o.rows ++ row ∷ []) bs) (sym is) (o.fronts width fits (row ∷ []) (map module_text row) (last_line long));
  };
  counted = length-append o.rows (row ∷ []) ∙ ap (λ (n : ℕ). n + 1) o.rows_are;
}

filled_up : (scan : Scan) (bytes : List ℕ) (width : ℕ) → (o : IsOpen scan bytes) → scan.returned ≡ false → (scan.width ≡ 0) ⊎ (scan.width ≡ width) → 1 ≤ width → scan.column ≤ width
    → (more : List ℕ) × IsGridText (bytes ++ more)
filled_up scan bytes width o is fits wide few =
    let rest : List Bool = replicate (width - scan.column) false in
    let long : length (o.row ++ rest) ≡ width =
    length-append o.row rest ∙ omega (arith, o.column_is, length-replicate (width - scan.column) false, few) in (
      map module_text rest,
      (
        width,
        scan.rows + 1,
        with_last scan bytes (map module_text rest) width (o.row ++ rest) o fits wide long
            (ap (λ (bs : List ℕ). bs ++ map module_text rest) (plain scan bytes o is)
            ∙ append_assoc o.front (map module_text o.row) (map module_text rest)
            ∙ ap (λ (bs : List ℕ). o.front ++ bs) (sym (map-append module_text o.row rest))),
      ),
    )

-- What has been read goes on to a good text.
goes_on : (scan : Scan) (bytes : List ℕ) → IsOpen scan bytes → (more : List ℕ) × IsGridText (bytes ++ more)
unfolding ended
goes_on scan bytes o = by_returned scan.returned refl
  where
    with_feed : (whole : is_whole_line scan ≡ true) → scan.returned ≡ true → (more : List ℕ) × IsGridText (bytes ++ more)
    with_feed whole is =
        let n = ended scan bytes (10 ∷ []) o whole (subst (λ (r : Bool). IsLineEnd (return_bytes r ++ 10 ∷ [])) (sym is) return_feed) (omega arith) in (
          10 ∷ [],
          (
            scan.column,
            scan.rows + 1,
            record {
              rows = n.rows ++ [];
              text = record {
                some = omega (arith, length-append n.rows [], n.rows_are);
                wide = (whole_wide scan whole).0;
                lines = subst (λ (bs : List ℕ). AreLines scan.column (n.rows ++ []) bs) (sym n.bytes_are) (n.fronts scan.column (inr refl) [] [] no_line);
              };
              counted = ap length (append-nil n.rows) ∙ n.rows_are;
            },
          ),
        )

    by_room : scan.returned ≡ false → (scan.width ≡ 0) ⊎ (scan.column ≤ scan.width) → (b : Bool) → (scan.width == 0) ≡ b → (more : List ℕ) × IsGridText (bytes ++ more)
    by_room is (inl zero_is) b test = filled_up scan bytes (scan.column + 1) o is (inl zero_is) (omega arith) (omega arith)
    by_room is (inr few) true test = filled_up scan bytes (scan.column + 1) o is (inl (grind (arith, nat_tests))) (omega arith) (omega arith)
    by_room is (inr few) false test = filled_up scan bytes scan.width o is (inr refl) (grind (arith, nat_tests)) few

    by_returned : (r : Bool) → scan.returned ≡ r → (more : List ℕ) × IsGridText (bytes ++ more)
    by_returned true is = with_feed (o.whole is) is
    by_returned false is = by_room is o.room (scan.width == 0) refl

-- The place of a byte that cannot stand, and of an end that comes too early.
pub bad_byte : (bytes : List ℕ) (place : ℕ) (byte : ℕ) (scan : Scan) → IsScanned (take place bytes) scan → place < length bytes → scan_step scan byte ≡ None
    → take (place + 1) bytes ≡ take place bytes ++ byte ∷ [] → IsBadText bytes place
bad_byte bytes place byte scan known inside refused next = record {
  within = omega (arith, inside);
  begins = goes_on scan (take place bytes) known.open_at;
  stuck = λ _ more good. none_on (take place bytes) scan byte more known.reached refused (subst (λ (bs : List ℕ). IsGridText (bs ++ more)) next good);
  short = λ is. absurd (omega (arith, is, inside));
}

pub bad_end : (bytes : List ℕ) (scan : Scan) → IsScanned bytes scan → can_end_text scan ≡ false → IsBadText bytes (length bytes)
bad_end bytes scan known not_yet = record {
  within = omega arith;
  begins = subst (λ (bs : List ℕ). (more : List ℕ) × IsGridText (bs ++ more)) (sym (take_all (length bytes) bytes (omega arith))) (goes_on scan bytes known.open_at);
  stuck = λ inside. absurd (omega (arith, inside));
  short = λ _. none_here bytes scan known.reached not_yet;
}

-- What can end is a text.
end_plain : (scan : Scan) → can_end_text scan ≡ true → scan.returned ≡ false
end_plain scan is = by_returned scan.returned refl
  where
    by_returned : (r : Bool) → scan.returned ≡ r → scan.returned ≡ false
    by_returned true e = absurd (grind (arith, nat_tests))
    by_returned false e = e

pub ends_between : (bytes : List ℕ) (scan : Scan) → IsScanned bytes scan → can_end_text scan ≡ true → scan.column ≡ 0 → HasTextSides bytes scan.width scan.rows
ends_between bytes scan known is empty =
    let o = known.open_at in
    let wide : 1 ≤ scan.width = grind (arith, nat_tests) in
    let nothing : o.row ≡ [] = no_items o.row (o.column_is ∙ empty) in
    let whole : bytes ≡ o.front ++ [] = plain scan bytes o (end_plain scan is) ∙ ap (λ (row : List Bool). o.front ++ map module_text row) nothing in
    record {
      rows = o.rows ++ [];
      text = record {
        some = some o.rows (o.rows ++ []) o.rows_are wide (ap length (append-nil o.rows)) o.later;
        wide = wide;
        lines = subst (λ (bs : List ℕ). AreLines scan.width (o.rows ++ []) bs) (sym whole) (o.fronts scan.width (inr refl) [] [] no_line);
      };
      counted = ap length (append-nil o.rows) ∙ o.rows_are;
    }
  where
    no_items : (row : List Bool) → length row ≡ 0 → row ≡ []
    no_items [] e = refl
    no_items (x ∷ row) e = absurd (omega (arith, e))

    some : (rows all : List (List Bool)) → length rows ≡ scan.rows → 1 ≤ scan.width → length all ≡ length rows → (scan.rows ≡ 0 → scan.width ≡ 0) → 1 ≤ length all
    some rows all rows_are wide same later = by_rows scan.rows refl
      where
        by_rows : (n : ℕ) → scan.rows ≡ n → 1 ≤ length all
        by_rows zero e = absurd (omega (arith, later e, wide))
        by_rows (suc n) e = omega (arith, e, rows_are, same)

pub ends_after_row : (bytes : List ℕ) (scan : Scan) → IsScanned bytes scan → can_end_text scan ≡ true → 1 ≤ scan.column → HasTextSides bytes scan.column (scan.rows + 1)
ends_after_row bytes scan known is some =
    let o = known.open_at in
    let whole : is_whole_line scan ≡ true = grind (arith, nat_tests) in
    subst (λ (bs : List ℕ). HasTextSides bs scan.column (scan.rows + 1)) (append-nil bytes)
    (with_last scan bytes [] scan.column o.row o (whole_wide scan whole).1 some o.column_is (append-nil bytes ∙ plain scan bytes o (end_plain scan is)))
