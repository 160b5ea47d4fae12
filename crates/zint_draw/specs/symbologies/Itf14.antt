-- ITF-14: interleaved 2 of 5 (ISO/IEC 16390) of fourteen digits.
use Rattle.std.specs.Prelude.{ℕ, List, Ok}
use Rattle.linear_codes.specs.Itf14.{itf14_of}
use Rattle.linear_codes.specs.declared.itf14_symbol.TheConstants.{ITF14_MOST_DIGITS}
use Rattle.bar_base.specs.Steps.{Step, ◌>>=◌, only}
use Rattle.zint_answers.specs.Steps.{answered}
use Rattle.zint_settings.specs.declared.symbology.Symbology.TheVariants as symbology
use Rattle.zint_draw.specs.declared.symbologies.Symbol.{Symbol}
use Rattle.zint_draw.specs.declared.symbologies.Symbol.TheVariants as symbol
use Rattle.zint_draw.specs.symbologies.Linear.{linear_fault}
use Rattle.zint_answers.specs.declared.refusal.Refusal.{Refusal}

-- the symbol of data
unfoldable pub draws14 : (bytes : List ℕ) → Step Symbol Refusal
draws14 bytes = do
  drawn ← answered (linear_fault ITF14_MOST_DIGITS) (itf14_of bytes)
  only (Ok (symbol.Linear symbology.Itf14 drawn))
