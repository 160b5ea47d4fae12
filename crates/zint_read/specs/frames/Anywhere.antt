-- A symbol that stands anywhere in a BMP, as large and as turned as may be.
use Rattle.std.specs.Prelude.{◌≡◌, ◌⊎◌, ◌<◌, ℕ, List, Ok, Err}
use Rattle.bar_base.specs.Picture.{Picture, row_count}
use Rattle.aztec_layout.specs.Sizes.{IsSize}
use Rattle.aztec_layout.specs.declared.sizes.Size.{Size}
use Rattle.image_locate.specs.Finding.{HasNoStand, IsFirstStand}
use Rattle.image_locate.specs.Stands.{IsCut}
use Rattle.image_locate.specs.declared.stand.Stand.{Stand}
use Rattle.symbol_reader.specs.Reading.{HasBadMode}
use Rattle.symbol_reader.specs.Sight.{Sight, known}
use Rattle.bar_base.specs.Steps.{Step, ◌>>=◌, only}
use Rattle.zint_answers.specs.declared.image_fault.ImageFault.TheVariants.{Size as PixelSize}
use Rattle.zint_answers.specs.declared.refusal.Refusal.TheVariants.{BadImage, BadSymbol}
use Rattle.zint_answers.specs.declared.symbol_fault.SymbolFault.TheVariants.{NoFinder, BadMode}
use Rattle.zint_read.specs.Images.{bmp_pixels}
use Rattle.zint_answers.specs.declared.refusal.Refusal.{Refusal}

-- The first stand that shows a finder; that there is none is told as if the first module differed.
unfoldable pub locates : Picture → Step Stand Refusal
locates pixels (Ok stand) = IsFirstStand pixels stand
locates pixels (Err refusal) = HasNoStand pixels × (refusal ≡ BadSymbol (NoFinder 0 0))

-- The mode message of a cut is not bad.
abbrev pub HasGoodMode : Picture → Type 0
HasGoodMode cut = (words : List ℕ) → HasBadMode (known cut) words → ⊥

-- The cut that is read: that of the first size, by layers, whose mode message is not bad.
pub record IsFirstCut (pixels : Picture) (stand : Stand) (cut : Picture) : Type 0 where
  pub size : Size
  pub sized : IsSize size
  pub is_cut : IsCut pixels stand size cut
  pub good : HasGoodMode cut
  pub first : (other : Size) (grid : Picture) → IsSize other → other.layers < size.layers → IsCut pixels stand other grid
      → (words : List ℕ) × HasBadMode (known grid) words

-- No size has a cut.
abbrev pub HasNoCut : Picture → Stand → Type 0
HasNoCut pixels stand = (size : Size) (cut : Picture) → IsSize size → IsCut pixels stand size cut → ⊥

-- There are cuts, and the mode message of each is bad, with these words.
pub record HasBadCuts (pixels : Picture) (stand : Stand) (words : List ℕ) : Type 0 where
  pub size : Size
  pub sized : IsSize size
  pub cut : Picture
  pub is_cut : IsCut pixels stand size cut
  pub each : (other : Size) (grid : Picture) → IsSize other → IsCut pixels stand other grid → HasBadMode (known grid) words

-- The cut of a stand that is read.
unfoldable pub cuts : Picture → Stand → Step Picture Refusal
cuts pixels stand (Ok cut) = IsFirstCut pixels stand cut
cuts pixels stand (Err refusal) =
    (HasNoCut pixels stand × (refusal ≡ BadImage (PixelSize pixels.width (row_count pixels))))
    ⊎ ((words : List ℕ) × HasBadCuts pixels stand words × (refusal ≡ BadSymbol (BadMode words)))

-- What is seen in such an image: the cut of the first stand that is read, all of whose modules are known.
unfoldable pub sees_anywhere : (bytes : List ℕ) → Step Sight Refusal
sees_anywhere bytes = do
  pixels ← bmp_pixels bytes
  stand ← locates pixels
  cut ← cuts pixels stand
  only (Ok (known cut))

-- What such an image has to show of a symbol of a size: the cut of this size at the first stand that shows a finder.
pub record IsFoundIn (bytes : List ℕ) (size : Size) (sight : Sight) : Type 0 where
  pub pixels : Picture
  pub shown : bmp_pixels bytes (Ok pixels)
  pub stand : Stand
  pub first : IsFirstStand pixels stand
  pub cut : Picture
  pub is_cut : IsCut pixels stand size cut
  pub sight_is : sight ≡ known cut
