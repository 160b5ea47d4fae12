-- The check values of a row (ISO/IEC 15417, symbol check character; AIM Code 93; GS1 General Specifications, check digit calculation).
use Rattle.std.specs.Prelude.{ℕ, ◌+◌, ◌-◌, ◌==◌, List, [], ◌∷◌, length, take, drop, Option, Some, None, Result, Ok, Err, if◌then◌else◌}
use Rattle.bar_base.specs.CheckDigit.{check_digit}
use Rattle.code128_best.specs.Symbol.{check128}
use Rattle.linear_codes.specs.Code93.{checks93}
use Rattle.linear_reader.specs.declared.symbology.RowSymbology.{RowSymbology}
use Rattle.linear_reader.specs.declared.symbology.RowSymbology.TheVariants.{Code39, Code39Full, Code93, Code128, Itf14}
use Rattle.linear_reader.specs.declared.scan.ScanFault.{ScanFault}
use Rattle.linear_reader.specs.declared.scan.ScanFault.TheVariants.{BadCheck}

-- How many of the values, the last, are checks.
unfoldable pub check_count : RowSymbology → ℕ
check_count Code39 = 0
check_count Code39Full = 0
check_count Code93 = 2
check_count Code128 = 1
check_count Itf14 = 1

-- How many values stand before the checks.
unfoldable pub data_count : RowSymbology → (values : List ℕ) → ℕ
data_count symbology values = length values - check_count symbology

-- The values before the checks.
unfoldable pub data_values : RowSymbology → (values : List ℕ) → List ℕ
data_values symbology values = take (data_count symbology values) values

-- The checks that the values before them want.
unfoldable pub wanted_checks : RowSymbology → (body : List ℕ) → List ℕ
wanted_checks Code39 body = []
wanted_checks Code39Full body = []
wanted_checks Code93 body = checks93 body
wanted_checks Code128 body = check128 body ∷ []
wanted_checks Itf14 body = check_digit body ∷ []

-- The first check that differs from the wanted one, the first of them at a place.
unfoldable pub first_wrong : (place : ℕ) → (given wanted : List ℕ) → Option ScanFault
first_wrong place [] wanted = None
first_wrong place (check ∷ given) [] = None
first_wrong place (check ∷ given) (due ∷ wanted) = if check == due then first_wrong (place + 1) given wanted else Some (BadCheck place check due)

-- The checks, where none is wrong.
abbrev pub right_checks : Option ScanFault → (wanted : List ℕ) → Result (List ℕ) ScanFault
right_checks None wanted = Ok wanted
right_checks (Some fault) wanted = Err fault

-- The checks of values, each as it is wanted.
unfoldable pub checks_of : RowSymbology → (values : List ℕ) → Result (List ℕ) ScanFault
checks_of symbology values =
    right_checks (first_wrong (data_count symbology values) (drop (data_count symbology values) values) (wanted_checks symbology (data_values symbology values)))
    (wanted_checks symbology (data_values symbology values))
