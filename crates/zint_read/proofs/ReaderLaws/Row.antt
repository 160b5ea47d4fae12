-- The bytes of a row have one answer: one report, or one refusal; and what was drawn is told.
use Rattle.std.proofs.Common.{◌≡◌, ◌⊎◌, ◌≤◌, ℕ, inl, inr, Bool, true, false, List, [], ◌∷◌, ◌++◌, ◌+◌, ◌*◌, length, drop, reverse, map, slice_get, refl, sym, ap, subst, ◌∙◌, arith, codes, nat_eq, if◌then◌else◌}
use Rattle.std.specs.Prelude.{Option, Some, None, Result, Ok, Err}
use Rattle.std.proofs.lemmas.List.{length-append, length-map, length-take}
use Rattle.bar_base.specs.GridText.{grid_text, line_of, lines_from, module_text}
use Rattle.bar_base.specs.Input.{limit_for}
use Rattle.bar_base.specs.Limits.{most_bytes}
use Rattle.bar_base.specs.Picture.{Picture, row_count, row_of}
use Rattle.std.specs.List.{starts_with}
use Rattle.bar_base.specs.declared.element.Element.{Element}
use Rattle.bar_base.specs.declared.element.Element.TheVariants as element
use Rattle.symbol_reader.specs.declared.text_fault.TextFault.{TextFault}
use Rattle.symbol_reader.specs.declared.text_fault.TextFault.TheVariants as text
use Rattle.symbol_reader.proofs.PictureTexts.{picture_within_once}
use Rattle.linear_reader.specs.Patterns.{symbology_of}
use Rattle.linear_reader.specs.RowText.{IsRowFault, IsRowOf}
use Rattle.linear_reader.specs.Scan.{row_scan}
use Rattle.linear_reader.specs.declared.parsing.RowFault.{RowFault}
use Rattle.linear_reader.specs.declared.parsing.RowFault.TheVariants as row
use Rattle.linear_reader.specs.declared.scan.Scan.{Scan}
use Rattle.linear_reader.specs.Drawn.{IsReadAs}
use Rattle.linear_reader.proofs.DrawnReads.{drawn_reads}
use Rattle.linear_reader.proofs.RowTexts.{none_row, row_shows}
use Rattle.bar_base.specs.Steps.{never_refused}
use Rattle.zint_answers.specs.declared.fault.Fault.TheVariants.{NoMemory}
use Rattle.zint_answers.specs.declared.refusal.Refusal.{Refusal}
use Rattle.bar_base.proofs.OneStep.{IsOne, never_one, then_one}
use Rattle.zint_answers.proofs.OneStep.{answered_one, related_one}
use Rattle.zint_read.specs.ReadReport.{body_line, gs1_line}
use Rattle.zint_read.specs.readers.Row.{DrawnRow, IsGs1Behind, IsLineOf, IsRowReport, ShowsRow, TellsRow, direction_line, row_fault, check_line, scan_fault, reads_row, scans, shows_row, symbol_line}
use Rattle.zint_read.proofs.OnePicture.{text_fault_for_once}
use Rattle.zint_read.proofs.OneReport.{option_once}

text_of : RowFault → TextFault
text_of row.NoMemory = text.NoMemory
text_of (row.BadText place) = text.BadText place
text_of (row.BadSide width rows) = text.BadSide width rows

fault_same : (f g : RowFault) → (text_of f ≡ text.NoMemory) ⊎ ((text_of g ≡ text.NoMemory) ⊎ (text_of f ≡ text_of g))
    → (row_fault f ≡ NoMemory) ⊎ ((row_fault g ≡ NoMemory) ⊎ (f ≡ g))
unfolding text_of
fault_same row.NoMemory g same = inl refl
fault_same f row.NoMemory same = inr (inl refl)
fault_same (row.BadText p) (row.BadText q) (inl is) = absurd (cc)
fault_same (row.BadText p) (row.BadText q) (inr (inl is)) = absurd (cc)
fault_same (row.BadText p) (row.BadText q) (inr (inr is)) = inr (inr (cc))
fault_same (row.BadText p) (row.BadSide w h) (inl is) = absurd (cc)
fault_same (row.BadText p) (row.BadSide w h) (inr (inl is)) = absurd (cc)
fault_same (row.BadText p) (row.BadSide w h) (inr (inr is)) = absurd (cc)
fault_same (row.BadSide w h) (row.BadText q) (inl is) = absurd (cc)
fault_same (row.BadSide w h) (row.BadText q) (inr (inl is)) = absurd (cc)
fault_same (row.BadSide w h) (row.BadText q) (inr (inr is)) = absurd (cc)
fault_same (row.BadSide w h) (row.BadSide v k) (inl is) = absurd (cc)
fault_same (row.BadSide w h) (row.BadSide v k) (inr (inl is)) = absurd (cc)
fault_same (row.BadSide w h) (row.BadSide v k) (inr (inr is)) = inr (inr (cc))

faults_once : (bytes : List ℕ) (f g : RowFault) → IsRowFault bytes f → IsRowFault bytes g → (text_of f ≡ text.NoMemory) ⊎ ((text_of g ≡ text.NoMemory) ⊎ (text_of f ≡ text_of g))
unfolding text_of
faults_once bytes row.NoMemory g p q = inl refl
faults_once bytes f row.NoMemory p q = inr (inl refl)
faults_once bytes (row.BadText a) (row.BadText b) p q = text_fault_for_once 16384 1 bytes (text.BadText a) (text.BadText b) p q
faults_once bytes (row.BadText a) (row.BadSide w h) p q = text_fault_for_once 16384 1 bytes (text.BadText a) (text.BadSide w h) p q
faults_once bytes (row.BadSide w h) (row.BadText b) p q = text_fault_for_once 16384 1 bytes (text.BadSide w h) (text.BadText b) p q
faults_once bytes (row.BadSide w h) (row.BadSide v k) p q = text_fault_for_once 16384 1 bytes (text.BadSide w h) (text.BadSide v k) p q

shows_row_one : (bytes : List ℕ) → IsOne (shows_row bytes)
shows_row_one bytes =
    related_one row_fault (IsRowOf bytes) (IsRowFault bytes) (picture_within_once 16384 1 bytes)
    (λ picture fault is refused. ap row_fault (none_row bytes (Err fault) refused picture is))
    (λ f g p q. fault_same f g (faults_once bytes f g p q))

gs1_once : (first : Option Element) (rest : List Element) (a b : Option (List ℕ)) → IsGs1Behind first rest a → IsGs1Behind first rest b → a ≡ b
gs1_once None rest a b p q = p ∙ sym q
gs1_once (Some (element.Byte byte)) rest a b p q = p ∙ sym q
gs1_once (Some (element.Eci number)) rest a b p q = p ∙ sym q
gs1_once (Some element.Fnc1) rest a b p q = option_once _ _ (λ t none is. none t is.0) (λ t u p q. q.1 t p.0) a b p q

report_once : (symbol : ℕ) (seen : Scan) (a b : List ℕ) → IsRowReport symbol seen a → IsRowReport symbol seen b → a ≡ b
report_once symbol seen a b p q =
    p.lines
    ∙ ap (λ (g : Option (List ℕ)). (symbol_line symbol ++ direction_line seen.backward ++ check_line seen.checks ++ body_line seen.body) ++ gs1_line g)
    (gs1_once (slice_get seen.body 0) (drop 1 seen.body) p.gs1 q.gs1 p.shown q.shown)
    ∙ sym q.lines

-- Two answers to the same bytes are the same.
pub reads_row_one : (symbol : ℕ) (bytes : List ℕ) → IsOne (reads_row symbol bytes)
unfolding reads_row
reads_row_one symbol bytes =
    then_one (shows_row bytes) _ (shows_row_one bytes)
    (λ picture. then_one (scans symbol picture) _ (answered_one scan_fault (row_scan (symbology_of symbol) picture.modules))
    (λ seen. never_one (IsRowReport symbol seen) (report_once symbol seen)))

-- what a drawn row reads as
scan_with : List Element → List ℕ → Bool → Scan
scan_with body checks backward = record { body = body; checks = checks; backward = backward }

stands_read : (symbol : ℕ) (modules : List Bool) (body : List Element) (checks : List ℕ) (backward : Bool) → IsReadAs (symbology_of symbol) modules body checks
    → row_scan (symbology_of symbol) (if backward then reverse modules else modules) ≡ Ok (scan_with body checks backward)
unfolding scan_with
stands_read symbol modules body checks true is = is.backward
stands_read symbol modules body checks false is = is.forward

row_read : (symbol : ℕ) (bytes : List ℕ) (drawn : DrawnRow) (shows : ShowsRow symbol bytes drawn)
    → row_scan (symbology_of symbol) shows.row.modules ≡ Ok (scan_with drawn.body drawn.checks drawn.backward)
row_read symbol bytes drawn shows =
    ap (row_scan (symbology_of symbol)) shows.stands
    ∙ stands_read symbol drawn.modules drawn.body drawn.checks drawn.backward
    (drawn_reads (symbology_of symbol) drawn.modules drawn.body drawn.checks shows.drawing)

seen_of : {E : Type 0} → Scan → Result Scan E → Scan
seen_of other (Ok seen) = seen
seen_of other (Err fault) = other

picture_of : Picture → Result Picture Refusal → Picture
picture_of other (Ok picture) = picture
picture_of other (Err fault) = other

-- Every answer to a line that shows a row that was drawn tells it.
pub row_told : (symbol : ℕ) (bytes : List ℕ) (drawn : DrawnRow) → ShowsRow symbol bytes drawn
    → (answer : Result (List ℕ) Refusal) → reads_row symbol bytes answer → never_refused (TellsRow symbol drawn) answer
unfolding reads_row scan_with picture_of seen_of
row_told symbol bytes drawn shows (Ok report) (picture, shown, (seen, gives, told)) =
    let e = shows_row_one bytes (Ok picture) (Ok shows.row) shown shows.shown in
    let same : picture ≡ shows.row = ap (picture_of picture) e in
    let read = ap (λ (p : Picture). row_scan (symbology_of symbol) p.modules) same ∙ row_read symbol bytes drawn shows in
    let is : seen ≡ scan_with drawn.body drawn.checks drawn.backward = ap (seen_of seen) (sym gives ∙ read) in
    subst (λ (z : Scan). IsRowReport symbol z report) is told
row_told symbol bytes drawn shows (Err refusal) (inl refused) = (let e = shows_row_one bytes (Ok shows.row) (Err refusal) shows.shown refused in cc)
row_told symbol bytes drawn shows (Err refusal) (inr (picture, shown, inl (fault, gives, is))) =
    let e = shows_row_one bytes (Ok picture) (Ok shows.row) shown shows.shown in
    let same : picture ≡ shows.row = ap (picture_of picture) e in
    let read = ap (λ (p : Picture). row_scan (symbology_of symbol) p.modules) same ∙ row_read symbol bytes drawn shows in
    let f = sym read ∙ gives in
    cc
row_told symbol bytes drawn shows (Err refusal) (inr (picture, shown, inr (seen, gives, never))) = never

-- a line that is written shows its row
line_shows : (symbol : ℕ) (bytes : List ℕ) (drawn : DrawnRow) → IsLineOf symbol bytes drawn → ShowsRow symbol bytes drawn
line_shows symbol bytes drawn line = record {
  drawing = line.drawing;
  row = line.row;
  shown = subst (λ (b : List ℕ). IsRowOf b line.row) (sym line.written) (row_shows line.row line.shaped line.flat);
  stands = line.stands;
}

-- and has few bytes
row_few : (row : Picture) → row_count row ≡ 1 → length (grid_text row) ≤ row.width + 1
unfolding lines_from
row_few row one = subst (λ (n : ℕ). length (lines_from row 0 n) ≤ row.width + 1) (sym one) (omega (
  arith,
  length-append (line_of (row_of row 0)) [],
  length-append (map module_text (row_of row 0)) (10 ∷ []),
  length-map (row_of row 0) module_text,
  length-take row.width (drop (0 * row.width) row.modules),
))

limit_same : (bytes : List ℕ) → limit_for most_bytes most_bytes bytes ≡ most_bytes
limit_same bytes = elim (starts_with nat_eq bytes (codes "BM")) as (λ (b : Bool). (if b then most_bytes else most_bytes) ≡ most_bytes) [ true ↦ refl | false ↦ refl ]

-- A line of a row that was drawn, as it is written, is within the limit, and every answer to it tells the row.
pub row_whole : (symbol : ℕ) (bytes : List ℕ) (drawn : DrawnRow) → IsLineOf symbol bytes drawn
    → (length bytes ≤ limit_for most_bytes most_bytes bytes) × ((answer : Result (List ℕ) Refusal) → reads_row symbol bytes answer → never_refused (TellsRow symbol drawn) answer)
row_whole symbol bytes drawn line = (
  omega (arith, limit_same bytes, ap length line.written, row_few line.row (ap length line.flat), line.shaped.narrow),
  row_told symbol bytes drawn (line_shows symbol bytes drawn line),
)
