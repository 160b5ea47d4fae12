-- What is seen of a symbol with unknown modules is one, and a symbol that is written is seen.
use Rattle.std.proofs.Common.{ℕ, List, Ok, refl}
use Rattle.bar_base.specs.Paint.{IsPaint}
use Rattle.bar_base.specs.Picture.{IsMatrixSymbol, Picture}
use Rattle.bar_base.specs.declared.paint.Paint.{Paint}
use Rattle.bmp_io.specs.ReadBmp.{picture_of}
use Rattle.symbol_reader.specs.Sight.{known}
use Rattle.bar_base.proofs.OneStep.{IsOne, either_one, only_one, then_one}
use Rattle.zint_answers.proofs.OneStep.{answered_one}
use Rattle.zint_read.specs.Images.{IsWrittenAt, bmp_fault, bmp_picture, is_bmp, text_sight}
use Rattle.zint_read.specs.frames.Unknown.{sees_bmp, sees_unknown}
use Rattle.zint_read.proofs.ImagesOnce.{text_sight_one}
use Rattle.zint_read.proofs.Unknowns.{text_known}
use Rattle.zint_read.proofs.Written.{either_written}

pub sees_unknown_one : (paint : Paint) (bytes : List ℕ) → IsOne (sees_unknown paint bytes)
unfolding sees_unknown sees_bmp
sees_unknown_one paint bytes =
    either_one (is_bmp bytes) (sees_bmp paint bytes) (text_sight bytes)
    (then_one (bmp_picture paint bytes) _ (answered_one bmp_fault (picture_of paint bytes)) (λ picture. only_one (Ok (known picture))))
    (text_sight_one bytes)

pub written_unknown : (paint : Paint) (bytes : List ℕ) (grid : Picture) → IsPaint paint → IsMatrixSymbol grid → IsWrittenAt paint bytes grid
    → sees_unknown paint bytes (Ok (known grid))
unfolding sees_unknown sees_bmp
written_unknown paint bytes grid valid matrix written =
    either_written paint bytes grid (λ b. sees_bmp paint b (Ok (known grid))) (λ b. text_sight b (Ok (known grid))) valid matrix
    (λ b shown. (grid, shown, refl)) (text_known grid matrix) written
