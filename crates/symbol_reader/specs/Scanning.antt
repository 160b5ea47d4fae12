-- How far the text of a grid has been read, byte by byte.
use Rattle.std.specs.Prelude.{◌≡◌, ◌⊎◌, ℕ, ◌+◌, ◌≤◌, ◌==◌, ◌&&◌, ◌||◌, not, Bool, true, false, List, [], ◌∷◌, ◌++◌, Option, Some, None, length, map, if◌then◌else◌}
use Rattle.std.specs.List.{flat_map}
use Rattle.bar_base.specs.GridText.{module_text}
use Rattle.symbol_reader.specs.GridLines.{AreLines}
use Rattle.symbol_reader.specs.declared.scanning.Scan.{Scan}

-- Before any byte. The width is 0 up to the end of the first line.
abbrev pub scan_start : Scan
scan_start = record { width = 0; column = 0; rows = 0; returned = false }

-- No module can follow in the line.
abbrev pub is_full_line : Scan → Bool
is_full_line scan = not (scan.width == 0) && (scan.column == scan.width)

-- The line can end.
abbrev pub is_whole_line : Scan → Bool
is_whole_line scan = not (scan.column == 0) && ((scan.width == 0) || (scan.column == scan.width))

-- The bytes can end.
abbrev pub can_end_text : Scan → Bool
can_end_text scan = not scan.returned && (is_whole_line scan || (not (scan.width == 0) && (scan.column == 0)))

-- Behind a line feed.
abbrev pub line_after : Scan → Scan
line_after scan = record { width = scan.column; column = 0; rows = scan.rows + 1; returned = false }

-- Behind a module.
abbrev pub module_after : Scan → Scan
module_after scan = record { width = scan.width; column = scan.column + 1; rows = scan.rows; returned = false }

-- Behind a carriage return.
abbrev pub return_after : Scan → Scan
return_after scan = record { width = scan.width; column = scan.column; rows = scan.rows; returned = true }

-- Behind one byte more; none where the byte cannot stand.
abbrev pub scan_step : Scan → ℕ → Option Scan
scan_step scan byte =
    if scan.returned then (if byte == 10 then Some (line_after scan) else None)
    else if (byte == 48) || (byte == 49) then (if is_full_line scan then None else Some (module_after scan))
    else if is_whole_line scan then
    (if byte == 10 then Some (line_after scan) else if byte == 13 then Some (return_after scan) else None)
    else None

-- The same, where no byte has failed to stand so far.
abbrev pub scan_on : Option Scan → ℕ → Option Scan
scan_on None byte = None
scan_on (Some scan) byte = scan_step scan byte

-- Behind more bytes.
unfoldable pub scan_of : Option Scan → List ℕ → Option Scan
scan_of scan [] = scan
scan_of scan (byte ∷ bytes) = scan_of (scan_on scan byte) bytes

-- How one byte more is taken.
pub data TakesByte (scan : Scan) (byte : ℕ) : Scan → Type 0 where
  takes_feed : scan.returned ≡ true → byte ≡ 10 → TakesByte scan byte (line_after scan)
  takes_module : scan.returned ≡ false → (byte ≡ 48) ⊎ (byte ≡ 49) → is_full_line scan ≡ false
      → TakesByte scan byte (module_after scan)
  takes_line_feed : scan.returned ≡ false → is_whole_line scan ≡ true → byte ≡ 10
      → TakesByte scan byte (line_after scan)
  takes_return : scan.returned ≡ false → is_whole_line scan ≡ true → byte ≡ 13 → TakesByte scan byte (return_after scan)

-- A carriage return, where one has been read.
abbrev pub return_bytes : Bool → List ℕ
return_bytes returned = if returned then 13 ∷ [] else []

-- The bytes that have been read: whole lines, and a front of one more.
pub record IsOpen (scan : Scan) (bytes : List ℕ) : Type 0 where
  pub rows : List (List Bool)
  pub row : List Bool
  pub front : List ℕ
  -- lines behind the whole lines
  pub fronts : (width : ℕ) → (scan.width ≡ 0) ⊎ (scan.width ≡ width)
      → (more_rows : List (List Bool)) (more : List ℕ) → AreLines width more_rows more
      → AreLines width (rows ++ more_rows) (front ++ more)
  pub bytes_are : bytes ≡ front ++ (map module_text row ++ return_bytes scan.returned)
  pub column_is : length row ≡ scan.column
  pub rows_are : length rows ≡ scan.rows
  pub first : scan.width ≡ 0 → scan.rows ≡ 0
  pub later : scan.rows ≡ 0 → scan.width ≡ 0
  pub room : (scan.width ≡ 0) ⊎ (scan.column ≤ scan.width)
  pub whole : scan.returned ≡ true → is_whole_line scan ≡ true
  pub small : scan.column + scan.rows ≤ length bytes

-- All bytes can stand, and this is behind them.
pub record IsScanned (bytes : List ℕ) (scan : Scan) : Type 0 where
  pub reached : scan_of (Some scan_start) bytes ≡ Some scan
  pub open_at : IsOpen scan bytes

-- The module that a byte is, if it is one.
abbrev pub byte_modules : ℕ → List Bool
byte_modules byte = if byte == 48 then false ∷ [] else if byte == 49 then true ∷ [] else []

-- The modules of a text, one behind the other.
abbrev pub modules_in : List ℕ → List Bool
modules_in bytes = flat_map byte_modules bytes
