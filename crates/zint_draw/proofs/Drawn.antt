-- The steps of a drawing, one after the other.
use Rattle.std.proofs.Common.{ℕ, List, Result, Ok, Err}
use Rattle.bar_base.specs.Steps.{Step, Then, only}
use Rattle.zint_answers.specs.Steps.{MayAnswer}
use Rattle.zint_answers.specs.declared.fault.Fault.{Fault}
use Rattle.zint_answers.proofs.Steps.{refused_later}
use Rattle.zint_settings.specs.Settings.{DrawingRequest}
use Rattle.zint_draw.specs.Data.{data_of, not_empty}
use Rattle.zint_draw.specs.Drawing.{draws}
use Rattle.zint_draw.specs.Segments.{within_bytes}
use Rattle.zint_draw.specs.declared.symbologies.Symbol.{Symbol}
use Rattle.zint_draw.specs.symbologies.{draws_as}
use Rattle.zint_answers.specs.declared.refusal.Refusal.{Refusal}

-- what is behind each step
abbrev pub FromData : DrawingRequest → (data_bytes : List ℕ) → Step Symbol Refusal
FromData request data_bytes = Then (only (not_empty data_bytes)) (λ some. draws_as request some)

abbrev pub FromContent : DrawingRequest → (whole : List ℕ) → Step Symbol Refusal
FromContent request whole = Then (data_of request.options.escapes whole) (λ data_bytes. FromData request data_bytes)

-- what is answered to data that is not empty is answered to its content
pub drawn_of_content : (request : DrawingRequest) (raw whole data_bytes some : List ℕ) (result : Result Symbol Fault)
    → only (within_bytes request.segments raw) (Ok whole) → data_of request.options.escapes whole (Ok data_bytes)
    → only (not_empty data_bytes) (Ok some) → MayAnswer (λ symbol. symbol) result (draws_as request some)
    → MayAnswer (λ symbol. symbol) result (draws request raw)
unfolding draws
drawn_of_content request raw whole data_bytes some (Ok symbol) within is_data is_some drawn =
    (whole, within, (data_bytes, is_data, (some, is_some, drawn)))
drawn_of_content request raw whole data_bytes some (Err fault) within is_data is_some refused =
    refused_later (only (within_bytes request.segments raw)) (FromContent request) whole fault within
    (refused_later (data_of request.options.escapes whole) (FromData request) data_bytes fault is_data
    (refused_later (only (not_empty data_bytes)) (draws_as request) some fault is_some refused))
