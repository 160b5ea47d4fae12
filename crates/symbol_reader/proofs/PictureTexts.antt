-- The picture of a text is one, and the text of a picture shows it.
use Rattle.std.proofs.Common.{◌≡◌, ℕ, zero, suc, ◌+◌, ◌*◌, ◌<◌, ◌≤◌, Bool, List, [], ◌∷◌, ◌++◌, length, take, drop, map, refl, sym, ap, subst, ◌∙◌, arith, ◌⊎◌, inl, inr}
use Rattle.std.specs.Prelude.{replicate, Result, Ok, Err, IfOk, IfErr}
use Rattle.std.proofs.lemmas.Bool.{cases_lt}
use Rattle.std.specs.List.{flat_map}
use Rattle.std.proofs.lemmas.List.{append_assoc, length-take-le, length-drop, take_all, drop-drop, take-append-drop}
use Rattle.std.proofs.Math.Seq.{take-add}
use Rattle.std.proofs.Math.Nat.{suc-mul, zero-mul}
use Rattle.bar_base.specs.GridText.{grid_text, lines_from, module_text}
use Rattle.bar_base.specs.Picture.{IsMatrixSymbol, IsShaped, Picture, row_count, row_of}
use Rattle.symbol_reader.specs.GridLines.{AreLines, IsBadText, IsGridText, IsPictureOf, IsPictureWithin, IsTextFault, IsTextFaultFor, GivesItsPicture, feed, no_line, line}
use Rattle.symbol_reader.specs.declared.text_fault.TextFault.{TextFault}
use Rattle.symbol_reader.specs.declared.text_fault.TextFault.TheVariants.{NoMemory, BadText, BadSide}
use Rattle.symbol_reader.proofs.TextModules.{lines_modules}
use Rattle.symbol_reader.proofs.TextRuns.{sides_once}

picture_with : ℕ → List ℕ → List Bool → Picture
picture_with width heights modules = record { width = width; heights = heights; modules = modules }

pub picture_within_once : (most_wide most_rows : ℕ) (bytes : List ℕ) (p q : Picture) → IsPictureWithin most_wide most_rows bytes p → IsPictureWithin most_wide most_rows bytes q → p ≡ q
unfolding picture_with
picture_within_once most_wide most_rows bytes p q h k =
    let same = sides_once bytes p.width q.width h.rows k.rows h.text k.text in
    let heights : p.heights ≡ q.heights = h.heights ∙ ap (λ (n : ℕ). replicate n 1) same.1 ∙ sym k.heights in
    let modules : p.modules ≡ q.modules = h.modules ∙ sym (lines_modules h.text.lines) ∙ lines_modules k.text.lines ∙ sym k.modules in
    ap (λ (w : ℕ). picture_with w p.heights p.modules) same.0 ∙ ap (λ (hs : List ℕ). picture_with q.width hs p.modules) heights ∙ ap (λ (ms : List Bool). picture_with q.width q.heights ms) modules

pub picture_once : (bytes : List ℕ) (p q : Picture) → IsPictureOf bytes p → IsPictureOf bytes q → p ≡ q
picture_once bytes p q h k = picture_within_once 151 151 bytes p q h k

rows_from : Picture → (y count : ℕ) → List (List Bool)
rows_from picture y zero = []
rows_from picture y (suc count) = row_of picture y ∷ rows_from picture (suc y) count

rows_counted : (picture : Picture) (y count : ℕ) → length (rows_from picture y count) ≡ count
unfolding rows_from
rows_counted picture y zero = refl
rows_counted picture y (suc count) = ap suc (rows_counted picture (suc y) count)

row_long : (picture : Picture) (y count : ℕ) → y * picture.width + suc count * picture.width ≤ length picture.modules → length (row_of picture y) ≡ picture.width
row_long picture y count room =
    length-take-le picture.width (drop (y * picture.width) picture.modules) (omega (arith, room, suc-mul count picture.width, length-drop (y * picture.width) picture.modules))

picture_lines : (picture : Picture) (y count : ℕ) → y * picture.width + count * picture.width ≤ length picture.modules
    → AreLines picture.width (rows_from picture y count) (lines_from picture y count)
unfolding rows_from lines_from
picture_lines picture y zero room = no_line
picture_lines picture y (suc count) room =
    subst (λ (bs : List ℕ). AreLines picture.width (row_of picture y ∷ rows_from picture (suc y) count) bs)
    (sym (append_assoc (map module_text (row_of picture y)) (10 ∷ []) (lines_from picture (suc y) count)))
    (line (row_long picture y count room) feed
    (picture_lines picture (suc y) count (omega (arith, room, suc-mul count picture.width, suc-mul y picture.width))))

rows_joined : (picture : Picture) (y count : ℕ) → flat_map (λ row. row) (rows_from picture y count) ≡ take (count * picture.width) (drop (y * picture.width) picture.modules)
unfolding rows_from
rows_joined picture y zero = ap (λ (n : ℕ). take n (drop (y * picture.width) picture.modules)) (sym (zero-mul picture.width))
rows_joined picture y (suc count) =
    ap (λ (ms : List Bool). row_of picture y ++ ms)
    (rows_joined picture (suc y) count
    ∙ ap (take (count * picture.width)) (ap (λ (n : ℕ). drop n picture.modules) (suc-mul y picture.width) ∙ sym (drop-drop picture.width (y * picture.width) picture.modules)))
    ∙ sym (take-add picture.width (count * picture.width) (drop (y * picture.width) picture.modules))
    ∙ ap (λ (n : ℕ). take n (drop (y * picture.width) picture.modules)) (let e : picture.width + count * picture.width ≡ suc count * picture.width = omega (arith, suc-mul count picture.width) in e)

-- The text of a picture with rows of height 1 shows it.
pub text_shows_within : (most_wide most_rows : ℕ) (picture : Picture) → IsShaped picture → picture.heights ≡ replicate (row_count picture) 1 → picture.width ≤ most_wide
    → row_count picture ≤ most_rows → IsPictureWithin most_wide most_rows (grid_text picture) picture
text_shows_within most_wide most_rows picture shape flat narrow short =
    let counted : length (rows_from picture 0 (row_count picture)) ≡ row_count picture = rows_counted picture 0 (row_count picture) in
    let nothing : 0 * picture.width ≡ 0 = zero-mul picture.width in
    record {
      rows = rows_from picture 0 (row_count picture);
      text = record {
        some = omega (arith, counted, shape.tall);
        wide = shape.wide;
        lines = picture_lines picture 0 (row_count picture) (omega (arith, nothing, shape.whole));
      };
      heights = flat ∙ ap (λ (n : ℕ). replicate n 1) (sym counted);
      modules =
          sym (rows_joined picture 0 (row_count picture)
          ∙ ap (λ (n : ℕ). take (row_count picture * picture.width) (drop n picture.modules)) nothing
          ∙ take_all (row_count picture * picture.width) picture.modules (omega (arith, shape.whole)));
      narrow = narrow;
      short = omega (arith, counted, short);
    }

-- The text of a matrix symbol shows it.
pub text_shows : (picture : Picture) → IsMatrixSymbol picture → IsPictureOf (grid_text picture) picture
text_shows picture symbol = text_shows_within 151 151 picture symbol.shape symbol.flat symbol.narrow symbol.short

-- What is refused shows no picture.
bad_text_none : (bytes : List ℕ) (place : ℕ) → IsBadText bytes place → IsGridText bytes → ⊥
bad_text_none bytes place bad good = by_place (cases_lt place (length bytes))
  where
    by_place : (place < length bytes) ⊎ (length bytes ≤ place) → ⊥
    by_place (inl inside) = bad.stuck inside (drop (place + 1) bytes) (subst (λ (bs : List ℕ). IsGridText bs) (sym (take-append-drop (place + 1) bytes)) good)
    by_place (inr past) = bad.short (omega (arith, past, bad.within)) good

pub refused_none : (most_wide most_rows : ℕ) (bytes : List ℕ) (fault : TextFault) → IsTextFaultFor most_wide most_rows bytes fault → (other : Picture)
    → IsPictureWithin most_wide most_rows bytes other → fault ≡ NoMemory
refused_none most_wide most_rows bytes NoMemory is other shows = refl
refused_none most_wide most_rows bytes (BadText place) is other shows =
    absurd (bad_text_none bytes place is (other.width, length shows.rows, record { rows = shows.rows; text = shows.text; counted = refl }))
refused_none most_wide most_rows bytes (BadSide width count) is other shows =
    let same = sides_once bytes width other.width is.sides.rows shows.rows is.sides.text shows.text in
    absurd (by_side same.0 (sym is.sides.counted ∙ same.1) is.large)
  where
    by_side : width ≡ other.width → count ≡ length shows.rows → (most_wide < width) ⊎ (most_rows < count) → ⊥
    by_side w n (inl large) = omega (arith, w, large, shows.narrow)
    by_side w n (inr large) = omega (arith, n, large, shows.short)

pub only_picture_within : (most_wide most_rows : ℕ) (bytes : List ℕ) (result : Result Picture TextFault) → IfOk result (IsPictureWithin most_wide most_rows bytes)
    → IfOk result (λ grid. (other : Picture) → IsPictureWithin most_wide most_rows bytes other → other ≡ grid)
only_picture_within most_wide most_rows bytes (Ok grid) is = λ other shows. picture_within_once most_wide most_rows bytes other grid shows is
only_picture_within most_wide most_rows bytes (Err fault) is = is

pub no_picture_within : (most_wide most_rows : ℕ) (bytes : List ℕ) (result : Result Picture TextFault) → IfErr result (IsTextFaultFor most_wide most_rows bytes)
    → IfErr result (λ fault. (other : Picture) → IsPictureWithin most_wide most_rows bytes other → fault ≡ NoMemory)
no_picture_within most_wide most_rows bytes (Ok grid) is = is
no_picture_within most_wide most_rows bytes (Err fault) is = λ other shows. refused_none most_wide most_rows bytes fault is other shows

pub no_picture : (bytes : List ℕ) (result : Result Picture TextFault) → IfErr result (IsTextFault bytes) → IfErr result (λ fault. (other : Picture) → IsPictureOf bytes other → fault ≡ NoMemory)
no_picture bytes result is = no_picture_within 151 151 bytes result is

-- The text that is written for a matrix symbol shows the symbol.
pub its_picture : (bytes : List ℕ) (result : Result Picture TextFault) → IfOk result (IsPictureOf bytes) → IfErr result (IsTextFault bytes) → GivesItsPicture bytes result
its_picture bytes (Ok grid) is refused = λ picture symbol written.
    picture_once bytes grid picture is (subst (λ (bs : List ℕ). IsPictureOf bs picture) (sym written) (text_shows picture symbol))
its_picture bytes (Err fault) is refused = λ picture symbol written.
    refused_none 151 151 bytes fault refused picture (subst (λ (bs : List ℕ). IsPictureOf bs picture) (sym written) (text_shows picture symbol))
