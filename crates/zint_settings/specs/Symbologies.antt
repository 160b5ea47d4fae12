-- The symbologies: the number of each, its name, and its versions.
use Rattle.std.specs.Prelude.{ℕ, Bool, List, [], ◌==◌, find, Option, map, slice_index_or}
use denote.Enum.Bare.{sameb}
use denote.Enum.Declared.{tag_of}
use Rattle.zint_settings.specs.contracts.symbology.Symbology.{the_type}
use Rattle.zint_settings.specs.declared.symbology.Symbology.{Symbology}
use Rattle.zint_settings.specs.declared.symbology.Symbology.TheVariants.{Code39}
use Rattle.zint_settings.specs.declared.symbology.TheConstants.{SYMBOLOGIES, SYMBOLOGY_ROWS}

-- a row of the table: a symbology, its number, its name, and the greatest of its versions
pub record SymbologyRow : Type 0 where
  pub symbology : Symbology
  pub number : ℕ
  pub name : List ℕ
  pub greatest_version : ℕ

-- the rows of the table, one for each symbology in the order of their variants
abbrev pub symbology_rows : List SymbologyRow
symbology_rows = map (λ row. record {
  symbology = row.0;
  number = row.1;
  name = row.2.now;
  greatest_version = row.3;
}) SYMBOLOGY_ROWS.now

-- the row of a symbology
unfoldable pub symbology_row : Symbology → SymbologyRow
symbology_row s = slice_index_or symbology_rows (tag_of the_type s)
    (record { symbology = Code39; number = 0; name = []; greatest_version = 0 })

-- the number that `-b` takes
unfoldable pub symbology_number : Symbology → ℕ
symbology_number s = (symbology_row s).number

-- the name of the symbology
unfoldable pub symbology_name : Symbology → List ℕ
symbology_name s = (symbology_row s).name

-- the greatest value of `--vers`
unfoldable pub greatest_version : Symbology → ℕ
greatest_version s = (symbology_row s).greatest_version

-- the two symbologies are the same
abbrev pub is_same_symbology : Symbology → Symbology → Bool
is_same_symbology a b = sameb the_type a b

-- the symbology with the number
unfoldable pub symbology_numbered : ℕ → Option Symbology
symbology_numbered n = find (λ s. symbology_number s == n) SYMBOLOGIES.now
