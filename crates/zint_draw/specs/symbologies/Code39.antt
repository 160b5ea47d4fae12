-- Code 39 and extended Code 39 (ISO/IEC 16388).
use Rattle.std.specs.Prelude.{ℕ, List, Ok, is_some}
use Rattle.linear_codes.specs.Code39.{code39_full_of, code39_of}
use Rattle.linear_codes.specs.declared.code39_symbol.TheConstants.{CODE39_MOST_BYTES}
use Rattle.bar_base.specs.Steps.{Step, ◌>>=◌, only}
use Rattle.zint_answers.specs.Steps.{answered}
use Rattle.zint_settings.specs.declared.drawing_options.DrawingOptions.{DrawingOptions}
use Rattle.zint_settings.specs.declared.symbology.Symbology.TheVariants as symbology
use Rattle.zint_draw.specs.declared.symbologies.Symbol.{Symbol}
use Rattle.zint_draw.specs.declared.symbologies.Symbol.TheVariants as symbol
use Rattle.zint_draw.specs.symbologies.Linear.{linear_fault}
use Rattle.zint_answers.specs.declared.refusal.Refusal.{Refusal}

-- the symbol of data
unfoldable pub draws39 : DrawingOptions → (bytes : List ℕ) → Step Symbol Refusal
draws39 options bytes = do
  drawn ← answered (linear_fault CODE39_MOST_BYTES) (code39_of bytes (is_some options.version))
  only (Ok (symbol.Linear symbology.Code39 drawn))

-- the symbol of data in full ASCII
unfoldable pub draws39_full : (bytes : List ℕ) → Step Symbol Refusal
draws39_full bytes = do
  drawn ← answered (linear_fault CODE39_MOST_BYTES) (code39_full_of bytes)
  only (Ok (symbol.Linear symbology.ExtendedCode39 drawn))
