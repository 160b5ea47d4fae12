-- What is seen of a symbol that is the whole image is one, and a symbol that is written is seen.
use Rattle.std.proofs.Common.{ℕ, List, Ok, refl}
use Rattle.bar_base.specs.Paint.{IsPaint}
use Rattle.bar_base.specs.Picture.{IsMatrixSymbol, Picture}
use Rattle.bar_base.specs.declared.paint.Paint.{Paint}
use Rattle.bmp_io.specs.ReadBmp.{picture_of}
use Rattle.symbol_reader.specs.Sight.{known}
use Rattle.symbol_reader.proofs.PictureTexts.{text_shows}
use Rattle.bar_base.proofs.OneStep.{IsOne, either_one, only_one, then_one}
use Rattle.zint_answers.proofs.OneStep.{answered_one}
use Rattle.zint_read.specs.Images.{IsWrittenAt, bmp_fault, bmp_picture, is_bmp, text_picture}
use Rattle.zint_read.specs.frames.Whole.{image_picture, sees_whole}
use Rattle.zint_read.proofs.ImagesOnce.{text_picture_one}
use Rattle.zint_read.proofs.Written.{either_written}

image_picture_one : (paint : Paint) (bytes : List ℕ) → IsOne (image_picture paint bytes)
unfolding image_picture
image_picture_one paint bytes =
    either_one (is_bmp bytes) (bmp_picture paint bytes) (text_picture bytes) (answered_one bmp_fault (picture_of paint bytes)) (text_picture_one bytes)

pub sees_whole_one : (paint : Paint) (bytes : List ℕ) → IsOne (sees_whole paint bytes)
unfolding sees_whole
sees_whole_one paint bytes = then_one (image_picture paint bytes) _ (image_picture_one paint bytes) (λ picture. only_one (Ok (known picture)))

pub written_whole : (paint : Paint) (bytes : List ℕ) (grid : Picture) → IsPaint paint → IsMatrixSymbol grid → IsWrittenAt paint bytes grid
    → sees_whole paint bytes (Ok (known grid))
unfolding sees_whole image_picture
written_whole paint bytes grid valid matrix written = (
  grid,
  either_written paint bytes grid (λ b. bmp_picture paint b (Ok grid)) (λ b. text_picture b (Ok grid)) valid matrix (λ b shown. shown) (text_shows grid matrix) written,
  refl,
)
