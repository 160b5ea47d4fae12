-- The four-state symbol of the Royal Mail (RM4SCC).
use Rattle.std.specs.Prelude.{ℕ, List, Ok}
use Rattle.bar_base.specs.declared.linear.Linear.{Linear}
use Rattle.four_state.specs.FourState.{rm4scc_of}
use Rattle.four_state.specs.declared.symbol.TheConstants.{RM4SCC_MOST_BYTES}
use Rattle.bar_base.specs.Steps.{Step, ◌>>=◌, only}
use Rattle.zint_answers.specs.Steps.{answered}
use Rattle.zint_settings.specs.declared.symbology.Symbology.TheVariants as symbology
use Rattle.zint_draw.specs.declared.symbologies.Symbol.{Symbol}
use Rattle.zint_draw.specs.declared.symbologies.Symbol.TheVariants as symbol
use Rattle.zint_draw.specs.symbologies.Linear.{linear_fault, linear_head}
use Rattle.zint_answers.specs.declared.refusal.Refusal.{Refusal}

-- the symbol of data
unfoldable pub draws_four_state : (bytes : List ℕ) → Step Symbol Refusal
draws_four_state bytes = do
  drawn ← answered (linear_fault RM4SCC_MOST_BYTES) (rm4scc_of bytes)
  only (Ok (symbol.FourState drawn))

-- the lines of the report before the grid
abbrev pub head_four_state : Linear → List ℕ
head_four_state drawn = linear_head symbology.Rm4scc drawn
