-- Code 93 (AIM Code 93).
use Rattle.std.specs.Prelude.{ℕ, List, Ok}
use Rattle.linear_codes.specs.Code93.{code93_of}
use Rattle.linear_codes.specs.declared.code93_symbol.TheConstants.{CODE93_MOST_BYTES}
use Rattle.bar_base.specs.Steps.{Step, ◌>>=◌, only}
use Rattle.zint_answers.specs.Steps.{answered}
use Rattle.zint_settings.specs.declared.symbology.Symbology.TheVariants as symbology
use Rattle.zint_draw.specs.declared.symbologies.Symbol.{Symbol}
use Rattle.zint_draw.specs.declared.symbologies.Symbol.TheVariants as symbol
use Rattle.zint_draw.specs.symbologies.Linear.{linear_fault}
use Rattle.zint_answers.specs.declared.refusal.Refusal.{Refusal}

-- the symbol of data
unfoldable pub draws93 : (bytes : List ℕ) → Step Symbol Refusal
draws93 bytes = do
  drawn ← answered (linear_fault CODE93_MOST_BYTES) (code93_of bytes)
  only (Ok (symbol.Linear symbology.Code93 drawn))
