-- What has been read of a text: whole lines and a front of one more, byte by byte.
use Rattle.std.proofs.Common.{◌≡◌, ◌⊎◌, ℕ, ◌+◌, ◌≤◌, inl, inr, Bool, true, false, List, [], ◌∷◌, ◌++◌, Some, length, map, refl, sym, ap, subst, ◌∙◌, arith}
use Rattle.std.specs.Prelude.{Option, ◌==◌}
use Rattle.std.proofs.lemmas.Bool.Decides.{nat_tests}
use Rattle.std.proofs.lemmas.List.{length-append, map-append, append-nil, append_assoc}
use Rattle.bar_base.specs.GridText.{module_text}
use Rattle.symbol_reader.specs.GridLines.{AreLines, IsLineEnd, feed, return_feed, line}
use Rattle.symbol_reader.specs.Scanning.{IsOpen, IsScanned, TakesByte, takes_feed, takes_line_feed, takes_module, takes_return, is_full_line, is_whole_line, line_after, module_after, return_after, return_bytes, scan_of, scan_on, scan_start, scan_step}
use Rattle.symbol_reader.specs.declared.scanning.Scan.{Scan}
use Rattle.symbol_reader.proofs.TextRuns.{scan_of-append, scan_of-one}

pub open_start : IsOpen scan_start []
open_start = record {
  rows = [];
  row = [];
  front = [];
  fronts = λ width fits more_rows more lines. lines;
  bytes_are = refl;
  column_is = refl;
  rows_are = refl;
  first = λ is. refl;
  later = λ is. refl;
  room = inl refl;
  whole = λ is. cc;
  small = omega arith;
}

-- A whole line is as wide as those before it.
pub whole_wide : (scan : Scan) → is_whole_line scan ≡ true → (1 ≤ scan.column) × ((scan.width ≡ 0) ⊎ (scan.width ≡ scan.column))
whole_wide scan whole = (grind (arith, nat_tests), by_width (scan.width == 0) refl)
  where
    by_width : (b : Bool) → (scan.width == 0) ≡ b → (scan.width ≡ 0) ⊎ (scan.width ≡ scan.column)
    by_width true is = inl (grind (arith, nat_tests))
    by_width false is = inr (grind (arith, nat_tests))

-- A line ends.
unfoldable pub ended : (scan : Scan) (bytes end : List ℕ) → (o : IsOpen scan bytes) → is_whole_line scan ≡ true → IsLineEnd (return_bytes scan.returned ++ end) → 1 ≤ length end
    → IsOpen (line_after scan) (bytes ++ end)
ended scan bytes end o whole is_end some =
    let wide = whole_wide scan whole in
    let long : length (bytes ++ end) ≡ length bytes + length end = length-append bytes end in
    record {
      rows = o.rows ++ o.row ∷ [];
      row = [];
      front = o.front ++ (map module_text o.row ++ (return_bytes scan.returned ++ end));
      fronts = λ width fits more_rows more lines.
          let same : scan.column ≡ width = same_width width wide.0 fits in
          let here : AreLines width (o.row ∷ more_rows) (map module_text o.row ++ ((return_bytes scan.returned ++ end) ++ more)) =
          line (o.column_is ∙ same) is_end lines in
          subst (λ (rs : List (List Bool)). AreLines width rs ((o.front ++ (map module_text o.row ++ (return_bytes scan.returned ++ end))) ++ more))
          (sym (append_assoc o.rows (o.row ∷ []) more_rows))
          (subst (λ (bs : List ℕ). AreLines width (o.rows ++ o.row ∷ more_rows) bs)
          (sym (append_assoc o.front (map module_text o.row ++ (return_bytes scan.returned ++ end)) more
          ∙ ap (λ (bs : List ℕ). o.front ++ bs) (append_assoc (map module_text o.row) (return_bytes scan.returned ++ end) more)))
          (o.fronts width (old_fits width wide.1 same) (o.row ∷ more_rows) (map module_text o.row ++ ((return_bytes scan.returned ++ end) ++ more)) here));
      bytes_are =
          ap (λ (bs : List ℕ). bs ++ end) o.bytes_are
          ∙ append_assoc o.front (map module_text o.row ++ return_bytes scan.returned) end
          ∙ ap (λ (bs : List ℕ). o.front ++ bs) (append_assoc (map module_text o.row) (return_bytes scan.returned) end)
          ∙ sym (append-nil (o.front ++ (map module_text o.row ++ (return_bytes scan.returned ++ end))));
      column_is = refl;
      rows_are = length-append o.rows (o.row ∷ []) ∙ ap (λ (n : ℕ). n + 1) o.rows_are;
      first = λ is. absurd (omega (arith, wide.0, is));
      later = λ is. absurd (omega (arith, is));
      room = inr (omega arith);
      whole = λ is. cc;
      small = omega (arith, o.small, long, some);
    }
  where
    same_width : (width : ℕ) → 1 ≤ scan.column → (scan.column ≡ 0) ⊎ (scan.column ≡ width) → scan.column ≡ width
    same_width width some (inl is) = absurd (omega (arith, some, is))
    same_width width some (inr is) = is

    old_fits : (width : ℕ) → (scan.width ≡ 0) ⊎ (scan.width ≡ scan.column) → scan.column ≡ width → (scan.width ≡ 0) ⊎ (scan.width ≡ width)
    old_fits width (inl is) same = inl is
    old_fits width (inr is) same = inr (is ∙ same)

-- A module more.
more_room : (scan : Scan) → is_full_line scan ≡ false → (scan.width ≡ 0) ⊎ (scan.column ≤ scan.width) → (scan.width ≡ 0) ⊎ (scan.column + 1 ≤ scan.width)
more_room scan free (inl is) = inl is
more_room scan free (inr few) = by_width (scan.width == 0) refl
  where
    by_width : (b : Bool) → (scan.width == 0) ≡ b → (scan.width ≡ 0) ⊎ (scan.column + 1 ≤ scan.width)
    by_width true is = inl (grind (arith, nat_tests))
    by_width false is = inr (grind (arith, nat_tests))

pub plain : (scan : Scan) (bytes : List ℕ) → (o : IsOpen scan bytes) → scan.returned ≡ false → bytes ≡ o.front ++ map module_text o.row
plain scan bytes o is =
    o.bytes_are ∙ ap (λ (r : Bool). o.front ++ (map module_text o.row ++ return_bytes r)) is ∙ ap (λ (bs : List ℕ). o.front ++ bs) (append-nil (map module_text o.row))

longer : (scan : Scan) (bytes : List ℕ) (byte : ℕ) (dark : Bool) → IsOpen scan bytes → scan.returned ≡ false → byte ≡ module_text dark → is_full_line scan ≡ false
    → IsOpen (module_after scan) (bytes ++ byte ∷ [])
longer scan bytes byte dark o is byte_is free =
    let long : length (bytes ++ byte ∷ []) ≡ length bytes + 1 = length-append bytes (byte ∷ []) in
    record {
      rows = o.rows;
      row = o.row ++ dark ∷ [];
      front = o.front;
      fronts = o.fronts;
      bytes_are =
          ap (λ (bs : List ℕ). bs ++ byte ∷ []) (plain scan bytes o is)
          ∙ append_assoc o.front (map module_text o.row) (byte ∷ [])
          ∙ ap (λ (bs : List ℕ). o.front ++ bs)
          (ap (λ (b : ℕ). map module_text o.row ++ b ∷ []) byte_is ∙ sym (map-append module_text o.row (dark ∷ [])) ∙ sym (append-nil (map module_text (o.row ++ dark ∷ []))));
      column_is = length-append o.row (dark ∷ []) ∙ ap (λ (n : ℕ). n + 1) o.column_is;
      rows_are = o.rows_are;
      first = o.first;
      later = o.later;
      room = more_room scan free o.room;
      whole = λ is. absurd (cc is);
      small = omega (arith, o.small, long);
    }

turned_back : (scan : Scan) (bytes : List ℕ) (byte : ℕ) → IsOpen scan bytes → scan.returned ≡ false → byte ≡ 13 → is_whole_line scan ≡ true
    → IsOpen (return_after scan) (bytes ++ byte ∷ [])
turned_back scan bytes byte o is byte_is whole =
    let long : length (bytes ++ byte ∷ []) ≡ length bytes + 1 = length-append bytes (byte ∷ []) in
    record {
      rows = o.rows;
      row = o.row;
      front = o.front;
      fronts = o.fronts;
      bytes_are =
          ap (λ (bs : List ℕ). bs ++ byte ∷ []) (plain scan bytes o is)
          ∙ append_assoc o.front (map module_text o.row) (byte ∷ [])
          ∙ ap (λ (b : ℕ). o.front ++ (map module_text o.row ++ b ∷ [])) byte_is;
      column_is = o.column_is;
      rows_are = o.rows_are;
      first = o.first;
      later = o.later;
      room = o.room;
      whole = λ _. whole;
      small = omega (arith, o.small, long);
    }

open_step : {scan next : Scan} {byte : ℕ} (bytes : List ℕ) → IsOpen scan bytes → TakesByte scan byte next → IsOpen next (bytes ++ byte ∷ [])
open_step {scan} {next} {byte} bytes o (takes_feed is byte_is) =
    subst (λ (b : ℕ). IsOpen (line_after scan) (bytes ++ b ∷ [])) (sym byte_is)
    (ended scan bytes (10 ∷ []) o (o.whole is) (subst (λ (r : Bool). IsLineEnd (return_bytes r ++ 10 ∷ [])) (sym is) return_feed) (omega arith))
open_step {scan} {next} {byte} bytes o (takes_module is (inl byte_is) free) = longer scan bytes byte false o is byte_is free
open_step {scan} {next} {byte} bytes o (takes_module is (inr byte_is) free) = longer scan bytes byte true o is byte_is free
open_step {scan} {next} {byte} bytes o (takes_line_feed is whole byte_is) =
    subst (λ (b : ℕ). IsOpen (line_after scan) (bytes ++ b ∷ [])) (sym byte_is)
    (ended scan bytes (10 ∷ []) o whole (subst (λ (r : Bool). IsLineEnd (return_bytes r ++ 10 ∷ [])) (sym is) feed) (omega arith))
open_step {scan} {next} {byte} bytes o (takes_return is whole byte_is) = turned_back scan bytes byte o is byte_is whole

pub scanned_start : IsScanned [] scan_start
unfolding scan_of
scanned_start = record { reached = refl; open_at = open_start }

pub scanned_more : (scan next : Scan) (byte : ℕ) (bytes more : List ℕ) → IsScanned bytes scan → scan_step scan byte ≡ Some next → TakesByte scan byte next → more ≡ bytes ++ byte ∷ []
    → IsScanned more next
scanned_more scan next byte bytes more known steps how is =
    subst (λ (bs : List ℕ). IsScanned bs next) (sym is) (record {
      reached = scan_of-append (Some scan_start) bytes (byte ∷ []) ∙ scan_of-one (scan_of (Some scan_start) bytes) byte ∙ ap (λ (s : Option Scan). scan_on s byte) known.reached ∙ steps;
      open_at = open_step bytes known.open_at how;
    })
