-- The row of a text is one, and the text of a row shows it.
use Rattle.std.proofs.Common.{◌≡◌, ℕ, List, [], ◌∷◌, length, Result, Ok, Err, refl, sym, ap, subst, ◌∙◌, arith}
use Rattle.std.specs.Prelude.{IfOk, IfErr, replicate}
use Rattle.std.proofs.lemmas.List.{length-replicate}
use Rattle.bar_base.specs.GridText.{grid_text}
use Rattle.bar_base.specs.Picture.{IsShaped, Picture, row_count}
use Rattle.symbol_reader.specs.declared.text_fault.TextFault.TheVariants as text
use Rattle.symbol_reader.proofs.PictureTexts.{picture_within_once, refused_none, text_shows_within}
use Rattle.linear_reader.specs.declared.parsing.RowFault.{RowFault}
use Rattle.linear_reader.specs.declared.parsing.RowFault.TheVariants.{NoMemory, BadText, BadSide}
use Rattle.linear_reader.specs.RowText.{IsRowOf, IsRowFault, GivesItsRow}

one_row : (bytes : List ℕ) (picture : Picture) → IsRowOf bytes picture → row_count picture ≡ 1
one_row bytes picture is =
    let counted : length picture.heights ≡ length is.rows = ap length is.heights ∙ length-replicate (length is.rows) 1 in
    omega (arith, counted, is.text.some, is.short)

pub rows_one : (bytes : List ℕ) (result : Result Picture RowFault) → IfOk result (IsRowOf bytes) → IfOk result (λ grid. row_count grid ≡ 1)
rows_one bytes (Ok grid) is = one_row bytes grid is
rows_one bytes (Err fault) is = is

no_row : (bytes : List ℕ) (fault : RowFault) → IsRowFault bytes fault → (other : Picture) → IsRowOf bytes other → fault ≡ NoMemory
no_row bytes NoMemory is other shows = refl
no_row bytes (BadText place) is other shows = absurd (let e = refused_none 16384 1 bytes (text.BadText place) is other shows in cc)
no_row bytes (BadSide width count) is other shows = absurd (let e = refused_none 16384 1 bytes (text.BadSide width count) is other shows in cc)

pub only_row : (bytes : List ℕ) (result : Result Picture RowFault) → IfOk result (IsRowOf bytes) → IfOk result (λ grid. (other : Picture) → IsRowOf bytes other → other ≡ grid)
only_row bytes (Ok grid) is = λ other shows. picture_within_once 16384 1 bytes other grid shows is
only_row bytes (Err fault) is = is

pub none_row : (bytes : List ℕ) (result : Result Picture RowFault) → IfErr result (IsRowFault bytes) → IfErr result (λ fault. (other : Picture) → IsRowOf bytes other → fault ≡ NoMemory)
none_row bytes (Ok grid) is = is
none_row bytes (Err fault) is = λ other shows. no_row bytes fault is other shows

-- The text that is written for a row shows it.
pub row_shows : (picture : Picture) → IsShaped picture → picture.heights ≡ 1 ∷ [] → IsRowOf (grid_text picture) picture
row_shows picture shape flat =
    let one : row_count picture ≡ 1 = ap length flat in
    text_shows_within 16384 1 picture shape (flat ∙ ap (λ (n : ℕ). replicate n 1) (sym one)) shape.narrow (omega arith)

pub its_row : (bytes : List ℕ) (result : Result Picture RowFault) → IfOk result (IsRowOf bytes) → IfErr result (IsRowFault bytes) → GivesItsRow bytes result
its_row bytes (Ok grid) is refused = λ picture shape flat written.
    picture_within_once 16384 1 bytes grid picture is (subst (λ (bs : List ℕ). IsRowOf bs picture) (sym written) (row_shows picture shape flat))
its_row bytes (Err fault) is refused = λ picture shape flat written.
    no_row bytes fault refused picture (subst (λ (bs : List ℕ). IsRowOf bs picture) (sym written) (row_shows picture shape flat))
