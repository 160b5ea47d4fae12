-- The laws of frames, a file each, and the lemmas that choose among them.
pub mod Anywhere
pub mod Unknown
pub mod Whole
use Rattle.std.proofs.Common.{ℕ, List, refl}
use Rattle.bar_base.specs.Picture.{IsMatrixSymbol, Picture}
use Rattle.aztec_layout.specs.declared.sizes.Size.{Size}
use Rattle.symbol_reader.specs.Sight.{known}
use Rattle.zint_settings.specs.Looks.{IsFrame}
use Rattle.zint_settings.specs.declared.look.Frame.{Frame}
use Rattle.zint_settings.specs.declared.look.Frame.TheVariants as frame
use Rattle.zint_read.specs.Images.{IsWithin}
use Rattle.zint_read.specs.frames.{IsWritten, ShowsSymbol, sees}
use Rattle.zint_read.specs.frames.Unknown.{sees_unknown}
use Rattle.zint_read.specs.frames.Whole.{sees_whole}
use Rattle.zint_read.proofs.FrameLaws.Anywhere.{anywhere_laws}
use Rattle.zint_read.proofs.FrameLaws.Unknown.{sees_unknown_one, written_unknown}
use Rattle.zint_read.proofs.FrameLaws.Whole.{sees_whole_one, written_whole}
use Rattle.zint_read.proofs.Seeing.{FrameLaws, laws_of_one}
use Rattle.zint_read.proofs.Written.{written_within}

-- They hold of each.
pub frame_laws : (frame : Frame) (bytes : List ℕ) → FrameLaws (sees frame bytes) (ShowsSymbol frame bytes)
frame_laws (frame.Whole paint) bytes = laws_of_one (sees_whole paint bytes) (sees_whole_one paint bytes)
frame_laws (frame.Unknown paint) bytes = laws_of_one (sees_unknown paint bytes) (sees_unknown_one paint bytes)
frame_laws frame.Anywhere bytes = anywhere_laws bytes

-- A grid of a symbol that is written is what the image has to show, and its bytes are within the limit.
pub written_shown : (frame : Frame) (bytes : List ℕ) (size : Size) (grid : Picture) → IsFrame frame → IsMatrixSymbol grid → IsWritten frame bytes size grid
    → IsWithin bytes × ShowsSymbol frame bytes size (known grid)
written_shown (frame.Whole paint) bytes size grid valid matrix written =
    (written_within paint bytes grid (valid paint refl) matrix written, written_whole paint bytes grid (valid paint refl) matrix written)
written_shown (frame.Unknown paint) bytes size grid valid matrix written =
    (written_within paint bytes grid (valid paint refl) matrix written, written_unknown paint bytes grid (valid paint refl) matrix written)
written_shown frame.Anywhere bytes size grid valid matrix written = written
