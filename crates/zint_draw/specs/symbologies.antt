-- The symbologies, a file each, and the three definitions that choose among them.
pub mod Aztec
pub mod Code128
pub mod Code39
pub mod Code93
pub mod FourState
pub mod Itf14
pub mod Linear
pub mod Rune
use Rattle.std.specs.Prelude.{ℕ, List}
use Rattle.bar_base.specs.Picture.{Picture}
use Rattle.bar_base.specs.Steps.{Step}
use Rattle.zint_settings.specs.Settings.{DrawingRequest}
use Rattle.zint_settings.specs.declared.symbology.Symbology.{Symbology}
use Rattle.zint_settings.specs.declared.symbology.Symbology.TheVariants as symbology
use Rattle.zint_draw.specs.declared.symbologies.Symbol.{Symbol}
use Rattle.zint_draw.specs.declared.symbologies.Symbol.TheVariants as symbol
use Rattle.zint_draw.specs.symbologies.Aztec as aztec
use Rattle.zint_draw.specs.symbologies.Code128 as code128
use Rattle.zint_draw.specs.symbologies.Code39 as code39
use Rattle.zint_draw.specs.symbologies.Code93 as code93
use Rattle.zint_draw.specs.symbologies.FourState as four_state
use Rattle.zint_draw.specs.symbologies.Itf14 as itf14
use Rattle.zint_draw.specs.symbologies.Linear.{linear_head, row_of_height}
use Rattle.zint_draw.specs.symbologies.Rune as rune
use Rattle.zint_answers.specs.declared.refusal.Refusal.{Refusal}

-- the symbol of data, in a symbology; only Aztec takes a structured append set and segments
abbrev pub draws_in : Symbology → DrawingRequest → (bytes : List ℕ) → Step Symbol Refusal
draws_in symbology.Aztec request bytes answer = aztec.draws_aztec request bytes answer
draws_in symbology.AztecRune request bytes answer = rune.draws_rune bytes answer
draws_in symbology.Code39 request bytes answer = code39.draws39 request.options bytes answer
draws_in symbology.ExtendedCode39 request bytes answer = code39.draws39_full bytes answer
draws_in symbology.Code93 request bytes answer = code93.draws93 bytes answer
draws_in symbology.Itf14 request bytes answer = itf14.draws14 bytes answer
draws_in symbology.Rm4scc request bytes answer = four_state.draws_four_state bytes answer
draws_in symbology.Code128 request bytes answer = code128.draws128 request.options bytes answer
draws_in symbology.Gs1Code128 request bytes answer = code128.draws128 request.options bytes answer

-- the symbol of data, in the symbology that is asked for
unfoldable pub draws_as : DrawingRequest → (bytes : List ℕ) → Step Symbol Refusal
draws_as request bytes = draws_in request.options.symbology request bytes

-- the modules; the row of a linear symbol has the height that is asked for, every other row its own
abbrev pub grid_of : (height : ℕ) → Symbol → Picture
grid_of height (symbol.Aztec s) = s.grid
grid_of height (symbol.Rune s) = s.grid
grid_of height (symbol.Code128 s) = row_of_height height s.grid
grid_of height (symbol.Linear symbology s) = row_of_height height s.grid
grid_of height (symbol.FourState s) = s.grid

-- the lines of the report before the grid
abbrev pub head_of : Symbol → List ℕ
head_of (symbol.Aztec s) = aztec.aztec_head s
head_of (symbol.Rune s) = rune.rune_head s
head_of (symbol.Code128 s) = code128.head128 s
head_of (symbol.Linear symbology s) = linear_head symbology s
head_of (symbol.FourState s) = four_state.head_four_state s
