-- The rows that are drawn, and what they read as.
use Rattle.std.specs.Prelude.{◌≡◌, ℕ, Bool, true, false, List, [], ◌∷◌, ◌++◌, map, reverse, Result, Ok, Err}
use Rattle.std.specs.Char.{to_ascii_uppercase}
use Rattle.bar_base.specs.CheckDigit.{check_digit}
use Rattle.bar_base.specs.Results.{◌>>=◌}
use Rattle.bar_base.specs.Stripes.{stripes}
use Rattle.bar_base.specs.Text.{values_of_text}
use Rattle.bar_base.specs.declared.element.Element.{Element}
use Rattle.bar_base.specs.declared.element.Element.TheVariants as element
use Rattle.bar_base.specs.declared.linear.Linear.{Linear}
use Rattle.bar_base.specs.declared.linear.LinearFault.{LinearFault}
use Rattle.code128_best.specs.Spelling.{SymbolSpells}
use Rattle.code128_best.specs.Symbol.{check128, symbol_widths128}
use Rattle.linear_codes.specs.Code39.{code39_of, code39_full_of}
use Rattle.linear_codes.specs.Code93.{code93_of}
use Rattle.linear_codes.specs.Itf14.{digit_values, thirteen, itf14_of}
use Rattle.linear_reader.specs.declared.symbology.RowSymbology.{RowSymbology}
use Rattle.linear_reader.specs.declared.symbology.RowSymbology.TheVariants.{Code39, Code39Full, Code93, Code128, Itf14}
use Rattle.linear_reader.specs.declared.scan.Scan.{Scan}
use Rattle.linear_reader.specs.declared.scan.ScanFault.{ScanFault}
use Rattle.linear_reader.specs.declared.scan.ScanFault.TheVariants.{NoMemory}
use Rattle.linear_reader.specs.Data.{digit_element}
use Rattle.linear_reader.specs.Scan.{row_scan}

-- A row reads as these elements and checks, and the row turned round reads as the same, backward.
pub record IsReadAs (symbology : RowSymbology) (modules : List Bool) (body : List Element) (checks : List ℕ) : Type 0 where
  pub forward : row_scan symbology modules ≡ Ok (record { body = body; checks = checks; backward = false })
  pub backward : row_scan symbology (reverse modules) ≡ Ok (record { body = body; checks = checks; backward = true })

-- The element of a byte that Code 39 draws: its character, a lower-case letter raised.
abbrev pub raised : (byte : ℕ) → Element
raised byte = element.Byte (to_ascii_uppercase byte)

-- The fourteen digits that ITF-14 draws for a text.
unfoldable pub fourteen : (text : List ℕ) → Result (List ℕ) LinearFault
fourteen text = do
  digits ← values_of_text digit_values 14 text
  front ← thirteen digits
  Ok (front ++ check_digit front ∷ [])

-- What a row reads as is this, unless memory is wanting.
abbrev pub GivesScan : Scan → Result Scan ScanFault → Type 0
GivesScan scan (Ok given) = given ≡ scan
GivesScan scan (Err fault) = fault ≡ NoMemory

-- A row that is the drawn one reads as its elements and checks; one that is the drawn one turned round reads as the same, backward.
pub record ReadsAs (drawn : List Bool) (body : List Element) (checks : List ℕ) (modules : List Bool) (result : Result Scan ScanFault) : Type 0 where
  pub forward : modules ≡ drawn → GivesScan (record { body = body; checks = checks; backward = false }) result
  pub backward : modules ≡ reverse drawn → GivesScan (record { body = body; checks = checks; backward = true }) result

-- Each drawn row of a symbology reads as what was drawn: Code 39 as the characters, without check character; extended Code 39 and Code 93 as
-- the bytes; Code 128 as the elements that the drawn values spell; ITF-14 as the fourteen digits.
abbrev pub ReadsDrawn : RowSymbology → (modules : List Bool) → (result : Result Scan ScanFault) → Type 0
ReadsDrawn Code39 modules result =
    (text : List ℕ) (symbol : Linear) → code39_of text false ≡ Ok symbol → ReadsAs symbol.grid.modules (map raised text) symbol.checks modules result
ReadsDrawn Code39Full modules result =
    (text : List ℕ) (symbol : Linear) → code39_full_of text ≡ Ok symbol → ReadsAs symbol.grid.modules (map element.Byte text) symbol.checks modules result
ReadsDrawn Code93 modules result =
    (text : List ℕ) (symbol : Linear) → code93_of text ≡ Ok symbol → ReadsAs symbol.grid.modules (map element.Byte text) symbol.checks modules result
ReadsDrawn Code128 modules result =
    (values : List ℕ) (elements : List Element) → SymbolSpells values elements
    → ReadsAs (stripes true (symbol_widths128 values)) elements (check128 values ∷ []) modules result
ReadsDrawn Itf14 modules result =
    (text digits : List ℕ) (symbol : Linear) → itf14_of text ≡ Ok symbol → fourteen text ≡ Ok digits
    → ReadsAs symbol.grid.modules (map digit_element digits) symbol.checks modules result

-- A row is one that is drawn of a text, with its elements and its checks.
pub record IsDrawnOf (drawing : List ℕ → Result Linear LinearFault) (element_of : ℕ → Element) (modules : List Bool) (body : List Element) (checks : List ℕ) : Type 0 where
  pub text : List ℕ
  pub symbol : Linear
  pub drawn : drawing text ≡ Ok symbol
  pub modules_are : modules ≡ symbol.grid.modules
  pub body_is : body ≡ map element_of text
  pub checks_are : checks ≡ symbol.checks

-- A row is that of a list of values, which spell its elements.
pub record IsDrawn128 (modules : List Bool) (body : List Element) (checks : List ℕ) : Type 0 where
  pub values : List ℕ
  pub spelled : SymbolSpells values body
  pub modules_are : modules ≡ stripes true (symbol_widths128 values)
  pub checks_are : checks ≡ check128 values ∷ []

-- A row is one that is drawn of a text of digits, of which fourteen come.
pub record IsDrawn14 (modules : List Bool) (body : List Element) (checks : List ℕ) : Type 0 where
  pub text : List ℕ
  pub digits : List ℕ
  pub symbol : Linear
  pub drawn : itf14_of text ≡ Ok symbol
  pub fourteen_are : fourteen text ≡ Ok digits
  pub modules_are : modules ≡ symbol.grid.modules
  pub body_is : body ≡ map digit_element digits
  pub checks_are : checks ≡ symbol.checks

-- A row of a symbology is one that is drawn, and these are the elements and the checks of what was drawn.
abbrev pub IsDrawnAs : RowSymbology → (modules : List Bool) → (body : List Element) → (checks : List ℕ) → Type 0
IsDrawnAs Code39 modules body checks = IsDrawnOf (λ text. code39_of text false) raised modules body checks
IsDrawnAs Code39Full modules body checks = IsDrawnOf code39_full_of element.Byte modules body checks
IsDrawnAs Code93 modules body checks = IsDrawnOf code93_of element.Byte modules body checks
IsDrawnAs Code128 modules body checks = IsDrawn128 modules body checks
IsDrawnAs Itf14 modules body checks = IsDrawn14 modules body checks
