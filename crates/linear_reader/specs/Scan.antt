-- What a row of bars reads as, and why it is not read.
use Rattle.std.specs.Prelude.{ℕ, Bool, true, false, List, reverse, Option, Some, None, Result, Ok, Err}
use Rattle.bar_base.specs.Results.{◌>>=◌}
use Rattle.linear_reader.specs.declared.symbology.RowSymbology.{RowSymbology}
use Rattle.linear_reader.specs.declared.scan.Scan.{Scan}
use Rattle.linear_reader.specs.declared.scan.ScanFault.{ScanFault}
use Rattle.linear_reader.specs.declared.scan.ScanFault.TheVariants.{NoMemory, NoStart, BadPattern, BadCheck, BadSpelling}
use Rattle.linear_reader.specs.Patterns.{start_of}
use Rattle.linear_reader.specs.Row.{core, row_values}
use Rattle.linear_reader.specs.Checks.{checks_of}
use Rattle.linear_reader.specs.Data.{row_elements}

-- The refusals among the faults of a row: all but want of memory.
abbrev pub refusal_of : ScanFault → Option ScanFault
refusal_of NoMemory = None
refusal_of NoStart = Some NoStart
refusal_of (BadPattern place) = Some (BadPattern place)
refusal_of (BadCheck place given wanted) = Some (BadCheck place given wanted)
refusal_of (BadSpelling place) = Some (BadSpelling place)

-- What modules that begin with a start read as.
unfoldable pub scan_from : RowSymbology → (backward : Bool) → (modules : List Bool) → (start : ℕ) → Result Scan ScanFault
scan_from symbology backward modules start = do
  values ← row_values symbology start modules
  checks ← checks_of symbology values
  body ← row_elements symbology values
  Ok (record { body = body; checks = checks; backward = backward })

-- A core is read forward where it begins with a start, else backward where it does when it is turned round.
abbrev pub either_way : RowSymbology → (core : List Bool) → (forward backward : Option ℕ) → Result Scan ScanFault
either_way symbology core (Some start) backward = scan_from symbology false core start
either_way symbology core None (Some start) = scan_from symbology true (reverse core) start
either_way symbology core None None = Err NoStart

-- What a core reads as.
unfoldable pub core_scan : RowSymbology → (core : List Bool) → Result Scan ScanFault
core_scan symbology core = either_way symbology core (start_of symbology core) (start_of symbology (reverse core))

-- What a row reads as.
unfoldable pub row_scan : RowSymbology → (modules : List Bool) → Result Scan ScanFault
row_scan symbology modules = core_scan symbology (core modules)
