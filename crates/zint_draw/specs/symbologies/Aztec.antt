-- Aztec Code (ISO/IEC 24778).
use Rattle.std.specs.Prelude.{◌-◌, ℕ, List, ◌++◌, map, length, codes, decimal, is_some, nat_lt, Result, Ok, Err, if◌then◌else◌}
use Rattle.bar_base.specs.GridText.{module_text}
use Rattle.bar_base.specs.declared.element.Element.{Element}
use Rattle.aztec_best.specs.declared.limit.TheConstants.{MOST_ELEMENTS}
use Rattle.aztec_modes.specs.Message.{message_elements}
use Rattle.aztec_layout.specs.Allowed.{allowed_of}
use Rattle.aztec_layout.specs.Sizes.{codewords_of, side_of}
use Rattle.aztec_draw.specs.Symbol.{IsAztecSymbol, HasNoSymbol}
use Rattle.aztec_draw.specs.declared.symbol.AztecSymbol.{AztecSymbol}
use Rattle.zint_answers.specs.Report.{size_text}
use Rattle.bar_base.specs.Steps.{Step, ◌>>=◌, only}
use Rattle.zint_answers.specs.declared.detail.Unit.TheVariants.{Elements}
use Rattle.zint_answers.specs.declared.refusal.Refusal.{Refusal}
use Rattle.zint_answers.specs.declared.refusal.Refusal.TheVariants.{TooLong, NoFit}
use Rattle.zint_settings.specs.Settings.{DrawingRequest}
use Rattle.zint_draw.specs.Segments.{message_of}
use Rattle.zint_draw.specs.declared.symbologies.Symbol.{Symbol}
use Rattle.zint_draw.specs.declared.symbologies.Symbol.TheVariants.{Aztec}

-- elements of which there are not too many
abbrev pub within_limit : (elements : List Element) → Result (List Element) Refusal
within_limit elements =
    if nat_lt MOST_ELEMENTS (length elements) then Err (TooLong MOST_ELEMENTS Elements) else Ok elements

-- the elements of data and of the segments behind it: those of their message
unfoldable pub elements_for : DrawingRequest → (bytes : List ℕ) → Step (List Element) Refusal
elements_for request bytes = do
  message ← message_of request bytes
  only (within_limit (message_elements message))

-- The symbol of elements, which has the mark of a structured append set where it is one of a set: of all their spellings with fewest bits
-- the first in dictionary order, in the smallest allowed size that holds it at the share; or that no allowed size holds them.
abbrev pub draws_elements : DrawingRequest → (elements : List Element) → Step Symbol Refusal
draws_elements request elements (Ok (Aztec symbol)) =
    IsAztecSymbol (is_some request.append) elements (allowed_of request.options.share request.options.version) symbol
draws_elements request elements (Ok _) = ⊥
draws_elements request elements (Err (NoFit misfit)) =
    HasNoSymbol (is_some request.append) elements (allowed_of request.options.share request.options.version) misfit
draws_elements request elements (Err _) = ⊥

-- the symbol of data, and of the segments behind it
unfoldable pub draws_aztec : DrawingRequest → (bytes : List ℕ) → Step Symbol Refusal
draws_aztec request bytes = do
  elements ← elements_for request bytes
  draws_elements request elements

-- the lines of the report before the grid
abbrev pub aztec_head : AztecSymbol → List ℕ
aztec_head symbol =
    codes "symbol=92\nbits=" ++ decimal (length symbol.spelling)
    ++ codes "\nspelling=" ++ map module_text symbol.spelling
    ++ codes "\nsize=" ++ size_text symbol.size
    ++ codes "\nside=" ++ decimal (side_of symbol.size)
    ++ codes "\ncodewords=" ++ decimal symbol.held ++ codes "+" ++ decimal (codewords_of symbol.size - symbol.held)
    ++ codes "\ngrid:\n"
