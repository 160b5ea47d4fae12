-- What the linear symbols and the four-state symbol share: what their faults are here, the lines of their reports, the height of a row.
use Rattle.std.specs.Prelude.{ℕ, List, [], ◌∷◌, ◌++◌, codes, decimal}
use Rattle.bar_base.specs.Picture.{Picture, with_height}
use Rattle.bar_base.specs.declared.linear.Linear.{Linear}
use Rattle.bar_base.specs.declared.linear.LinearFault.{LinearFault}
use Rattle.bar_base.specs.declared.linear.LinearFault.TheVariants as linear_variants
use Rattle.zint_answers.specs.Report.{numbers_text}
use Rattle.zint_answers.specs.declared.detail.Kind.TheVariants.{Character}
use Rattle.zint_answers.specs.declared.detail.Unit.TheVariants.{Bytes}
use Rattle.zint_answers.specs.declared.fault.Fault.{Fault}
use Rattle.zint_answers.specs.declared.fault.Fault.TheVariants.{NoMemory, Refused}
use Rattle.zint_answers.specs.declared.refusal.Refusal.TheVariants.{BadCheck, BadData, TooLong}
use Rattle.zint_settings.specs.Symbologies.{symbology_number}
use Rattle.zint_settings.specs.declared.symbology.Symbology.{Symbology}

-- What a fault of drawing is here; `most` is how many bytes of data the symbol takes.
abbrev pub linear_fault : (most : ℕ) → LinearFault → Fault
linear_fault most linear_variants.NoMemory = NoMemory
linear_fault most (linear_variants.BadCharacter place) = Refused (BadData Character place)
linear_fault most linear_variants.TooLong = Refused (TooLong most Bytes)
linear_fault most (linear_variants.BadCheck place given wanted) = Refused (BadCheck given place wanted)

-- the line of the check values, where there are some
abbrev pub check_line : (checks : List ℕ) → List ℕ
check_line [] = []
check_line (check ∷ checks) = codes "check=" ++ numbers_text (check ∷ checks) ++ codes "\n"

-- the lines of the report before the grid
abbrev pub linear_head : Symbology → Linear → List ℕ
linear_head symbology symbol =
    codes "symbol=" ++ decimal (symbology_number symbology) ++ codes "\n" ++ check_line symbol.checks
    ++ codes "modules=" ++ decimal symbol.grid.width ++ codes "\ngrid:\n"

-- the modules of a linear symbol, whose one row has a height
abbrev pub row_of_height : (height : ℕ) → Picture → Picture
row_of_height height picture = with_height picture 0 height
