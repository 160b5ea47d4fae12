-- What may be answered to the content of a message, step by step in the order of the refusals.
use Rattle.std.specs.Prelude.{ℕ, List}
use Rattle.bar_base.specs.Steps.{Step, ◌>>=◌, only}
use Rattle.zint_settings.specs.Settings.{DrawingRequest}
use Rattle.zint_draw.specs.Data.{data_of, not_empty}
use Rattle.zint_draw.specs.Segments.{within_bytes}
use Rattle.zint_draw.specs.declared.symbologies.Symbol.{Symbol}
use Rattle.zint_draw.specs.symbologies.{draws_as}
use Rattle.zint_answers.specs.declared.refusal.Refusal.{Refusal}

-- the symbol of a content, with the segments behind it
unfoldable pub draws : DrawingRequest → (raw : List ℕ) → Step Symbol Refusal
draws request raw = do
  whole ← only (within_bytes request.segments raw)
  bytes ← data_of request.options.escapes whole
  some ← only (not_empty bytes)
  draws_as request some
