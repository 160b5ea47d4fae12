-- Frames, a file each, and the definitions that choose among them.
pub mod Anywhere
pub mod Unknown
pub mod Whole
use Rattle.std.specs.Prelude.{ℕ, Bool, true, false, List, Ok}
use Rattle.bar_base.specs.Picture.{Picture}
use Rattle.aztec_layout.specs.declared.sizes.Size.{Size}
use Rattle.symbol_reader.specs.Sight.{Sight, known}
use Rattle.zint_settings.specs.declared.look.Frame.{Frame}
use Rattle.zint_settings.specs.declared.look.Frame.TheVariants as frame
use Rattle.bar_base.specs.Steps.{Step}
use Rattle.zint_read.specs.Images.{IsWithin, IsWrittenAt}
use Rattle.zint_read.specs.frames.Anywhere as anywhere
use Rattle.zint_read.specs.frames.Unknown as unknown
use Rattle.zint_read.specs.frames.Whole as whole
use Rattle.zint_answers.specs.declared.refusal.Refusal.{Refusal}

-- what is seen of a symbol in an image: a picture, of which some modules may be unknown
abbrev pub sees : Frame → (bytes : List ℕ) → Step Sight Refusal
sees (frame.Whole paint) bytes answer = whole.sees_whole paint bytes answer
sees (frame.Unknown paint) bytes answer = unknown.sees_unknown paint bytes answer
sees frame.Anywhere bytes answer = anywhere.sees_anywhere bytes answer

-- whether a report tells how many codewords were lost
abbrev pub tells_lost : Frame → Bool
tells_lost (frame.Unknown paint) = true
tells_lost _ = false

-- An image has this to show of a symbol of a size.
abbrev pub ShowsSymbol : Frame → (bytes : List ℕ) → Size → Sight → Type 0
ShowsSymbol (frame.Whole paint) bytes size sight = whole.sees_whole paint bytes (Ok sight)
ShowsSymbol (frame.Unknown paint) bytes size sight = unknown.sees_unknown paint bytes (Ok sight)
ShowsSymbol frame.Anywhere bytes size sight = anywhere.IsFoundIn bytes size sight

-- An image is the grid of a symbol of a size as it is written: its text, or its BMP; or, with more around it, one of which the grid is cut.
abbrev pub IsWritten : Frame → (bytes : List ℕ) → Size → (grid : Picture) → Type 0
IsWritten (frame.Whole paint) bytes size grid = IsWrittenAt paint bytes grid
IsWritten (frame.Unknown paint) bytes size grid = IsWrittenAt paint bytes grid
IsWritten frame.Anywhere bytes size grid = IsWithin bytes × anywhere.IsFoundIn bytes size (known grid)
