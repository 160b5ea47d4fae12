-- The row of bars in a line of text, read (ISO/IEC 15417, 16388, 16390; AIM Code 93).
use Rattle.std.specs.Prelude.{◌≡◌, ℕ, Bool, List, [], ◌∷◌, ◌++◌, drop, slice_get, Option, Some, None, MatchOption, codes, decimal, if◌then◌else◌, Ok, reverse}
use Rattle.bar_base.specs.Picture.{IsShaped, Picture}
use Rattle.bar_base.specs.declared.element.Element.{Element}
use Rattle.bar_base.specs.declared.element.Element.TheVariants.{Byte, Eci, Fnc1}
use Rattle.gs1_check.specs.LeadingStrings.{HasNoText, IsOnlyText}
use Rattle.bar_base.specs.GridText.{grid_text}
use Rattle.linear_reader.specs.Drawn.{IsDrawnAs}
use Rattle.linear_reader.specs.Patterns.{symbology_of}
use Rattle.linear_reader.specs.RowText.{IsRowFault, IsRowOf}
use Rattle.linear_reader.specs.Scan.{row_scan}
use Rattle.linear_reader.specs.declared.parsing.RowFault.{RowFault}
use Rattle.linear_reader.specs.declared.parsing.RowFault.TheVariants as row
use Rattle.linear_reader.specs.declared.scan.Scan.{Scan}
use Rattle.linear_reader.specs.declared.scan.ScanFault.{ScanFault}
use Rattle.linear_reader.specs.declared.scan.ScanFault.TheVariants as scan
use Rattle.zint_answers.specs.Report.{numbers_text}
use Rattle.bar_base.specs.Steps.{Step, never_refused, ◌>>=◌}
use Rattle.zint_answers.specs.Steps.{answered, related}
use Rattle.zint_answers.specs.declared.fault.Fault.{Fault}
use Rattle.zint_answers.specs.declared.fault.Fault.TheVariants.{NoMemory, Refused}
use Rattle.zint_answers.specs.declared.image_fault.ImageFault.TheVariants.{Grid, Side}
use Rattle.zint_answers.specs.declared.refusal.Refusal.TheVariants.{BadCheck, BadImage, BadSymbol}
use Rattle.zint_answers.specs.declared.symbol_fault.SymbolFault.TheVariants.{BadPattern, BadValue, NoFinder}
use Rattle.zint_read.specs.ReadReport.{body_line, gs1_line}
use Rattle.zint_answers.specs.declared.refusal.Refusal.{Refusal}

-- the line `symbol=`
unfoldable pub symbol_line : (symbol : ℕ) → List ℕ
symbol_line symbol = codes "symbol=" ++ decimal symbol ++ codes "\n"

-- the name of a direction
abbrev pub direction_text : (backward : Bool) → List ℕ
direction_text backward = if backward then codes "backward" else codes "forward"

-- the line `direction=`
unfoldable pub direction_line : (backward : Bool) → List ℕ
direction_line backward = codes "direction=" ++ direction_text backward ++ codes "\n"

-- the line `check=`, where there are check values
unfoldable pub check_line : (checks : List ℕ) → List ℕ
check_line [] = []
check_line (check ∷ checks) = codes "check=" ++ numbers_text (check ∷ checks) ++ codes "\n"

-- Behind FNC1 as the first element: the text of the element strings in square brackets, where there is one (GS1 General Specifications).
abbrev pub IsGs1Behind : (first : Option Element) → (rest : List Element) → Option (List ℕ) → Type 0
IsGs1Behind None rest shown = shown ≡ None
IsGs1Behind (Some (Byte byte)) rest shown = shown ≡ None
IsGs1Behind (Some (Eci number)) rest shown = shown ≡ None
IsGs1Behind (Some Fnc1) rest shown = MatchOption shown (HasNoText rest) (λ text. IsOnlyText text rest)

-- What stands behind `gs1=`, where the body begins with FNC1.
abbrev pub IsRowGs1 : (body : List Element) → Option (List ℕ) → Type 0
IsRowGs1 body shown = IsGs1Behind (slice_get body 0) (drop 1 body) shown

-- The report of a row of bars.
pub record IsRowReport (symbol : ℕ) (seen : Scan) (report : List ℕ) : Type 0 where
  pub gs1 : Option (List ℕ)
  pub shown : IsRowGs1 seen.body gs1
  pub lines : report ≡ (symbol_line symbol ++ direction_line seen.backward ++ check_line seen.checks ++ body_line seen.body) ++ gs1_line gs1

-- what a fault of the text of a row is here
abbrev pub row_fault : RowFault → Fault
row_fault row.NoMemory = NoMemory
row_fault (row.BadText place) = Refused (BadImage (Grid place))
row_fault (row.BadSide width rows) = Refused (BadImage (Side width rows))

-- what a fault of a row is here
abbrev pub scan_fault : ScanFault → Fault
scan_fault scan.NoMemory = NoMemory
scan_fault scan.NoStart = Refused (BadSymbol (NoFinder 0 0))
scan_fault (scan.BadPattern place) = Refused (BadSymbol (BadPattern place))
scan_fault (scan.BadCheck place given wanted) = Refused (BadCheck given place wanted)
scan_fault (scan.BadSpelling place) = Refused (BadSymbol (BadValue place))

-- the row that a text shows
abbrev pub shows_row : List ℕ → Step Picture Refusal
shows_row bytes = related row_fault (IsRowOf bytes) (IsRowFault bytes)

-- what a row reads as by a symbology
abbrev pub scans : (symbol : ℕ) → Picture → Step Scan Refusal
scans symbol picture = answered scan_fault (row_scan (symbology_of symbol) picture.modules)

-- The report of the row that bytes show, or the first refusal: of the bytes as a row, and then of the row as a symbol.
unfoldable pub reads_row : (symbol : ℕ) → (bytes : List ℕ) → Step (List ℕ) Refusal
reads_row symbol bytes = do
  picture ← shows_row bytes
  seen ← scans symbol picture
  never_refused (IsRowReport symbol seen)

-- What was drawn: the modules of a row, its elements and its checks; and whether the row is turned round.
pub record DrawnRow : Type 0 where
  pub modules : List Bool
  pub body : List Element
  pub checks : List ℕ
  pub backward : Bool

-- the modules as they stand from left to right
abbrev pub standing : DrawnRow → List Bool
standing drawn = if drawn.backward then reverse drawn.modules else drawn.modules

-- A line shows a row that was drawn.
pub record ShowsRow (symbol : ℕ) (bytes : List ℕ) (drawn : DrawnRow) : Type 0 where
  pub drawing : IsDrawnAs (symbology_of symbol) drawn.modules drawn.body drawn.checks
  pub row : Picture
  pub shown : shows_row bytes (Ok row)
  pub stands : row.modules ≡ standing drawn

-- A line is a row that was drawn, as it is written: the text of a picture of this one row.
pub record IsLineOf (symbol : ℕ) (bytes : List ℕ) (drawn : DrawnRow) : Type 0 where
  pub drawing : IsDrawnAs (symbology_of symbol) drawn.modules drawn.body drawn.checks
  pub row : Picture
  pub shaped : IsShaped row
  pub flat : row.heights ≡ 1 ∷ []
  pub stands : row.modules ≡ standing drawn
  pub written : bytes ≡ grid_text row

-- The report of what was drawn, with its direction.
abbrev pub TellsRow : (symbol : ℕ) → DrawnRow → (report : List ℕ) → Type 0
TellsRow symbol drawn report = IsRowReport symbol (record { body = drawn.body; checks = drawn.checks; backward = drawn.backward }) report
