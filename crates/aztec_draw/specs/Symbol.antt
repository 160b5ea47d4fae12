-- The symbol of elements: their drawn spelling in the smallest size that holds it.
use Rattle.std.specs.Prelude.{◌≡◌, ℕ, Bool, List, length}
use Rattle.bar_base.specs.Picture.{Picture}
use Rattle.bar_base.specs.declared.element.Element.{Element}
use Rattle.aztec_best.specs.Shortest.{IsDrawn}
use Rattle.aztec_layout.specs.declared.allowed.Allowed.{Allowed}
use Rattle.aztec_layout.specs.declared.choice.NoFit.{NoFit as Misfit}
use Rattle.aztec_layout.specs.declared.sizes.Size.{Size}
use Rattle.aztec_layout.specs.Sizes.{codeword_width}
use Rattle.aztec_layout.specs.Smallest.{HasNoFit, IsSmallest}
use Rattle.aztec_layout.specs.Stuffing.{IsStuffed}
use Rattle.aztec_layout.specs.SymbolGrid.{IsSymbolGrid}
use Rattle.aztec_draw.specs.Codewords.{IsCodewords}
use Rattle.aztec_draw.specs.declared.fault.DrawFault.{DrawFault}
use Rattle.aztec_draw.specs.declared.fault.DrawFault.TheVariants.{NoMemory, NoFit}
use Rattle.aztec_draw.specs.declared.symbol.AztecSymbol.{AztecSymbol}

-- The symbol of bits: their stuffed codewords in the smallest size that holds them, with the check codewords behind them.
pub record IsSymbolOf (bits : List Bool) (allowed : Allowed) (size : Size) (held : ℕ) (picture : Picture) : Type 0 where
  pub smallest : IsSmallest bits allowed size
  pub words : List ℕ
  pub stuffed : IsStuffed (codeword_width size) bits words
  pub held_is : held ≡ length words
  pub codewords : List ℕ
  pub coded : IsCodewords size words codewords
  pub grid : IsSymbolGrid size held codewords picture

-- The symbol of elements: that of their drawn spelling, behind the mark of a structured append set where they begin with a header.
pub record IsAztecSymbol (append : Bool) (elements : List Element) (allowed : Allowed) (symbol : AztecSymbol) : Type 0 where
  pub drawn : IsDrawn append elements symbol.spelling
  pub symbol_of : IsSymbolOf symbol.spelling allowed symbol.size symbol.held symbol.grid

-- No allowed size holds the drawn spelling of the elements.
pub record HasNoSymbol (append : Bool) (elements : List Element) (allowed : Allowed) (misfit : Misfit) : Type 0 where
  pub spelling : List Bool
  pub drawn : IsDrawn append elements spelling
  pub no_fit : HasNoFit spelling allowed misfit

-- What a refusal to draw bits, or elements, says. That memory is wanting says no more.
abbrev pub IsBitsFault : (bits : List Bool) → Allowed → DrawFault → Type 0
IsBitsFault bits allowed NoMemory = Unit {0}
IsBitsFault bits allowed (NoFit misfit) = HasNoFit bits allowed misfit

-- What a refusal to draw elements says: no allowed size holds their drawn spelling. That memory is wanting says no more.
abbrev pub IsDrawFault : (append : Bool) → (elements : List Element) → Allowed → DrawFault → Type 0
IsDrawFault append elements allowed NoMemory = Unit {0}
IsDrawFault append elements allowed (NoFit misfit) = HasNoSymbol append elements allowed misfit
