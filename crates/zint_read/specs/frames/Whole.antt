-- A symbol that is the whole image: the text of a grid, or a BMP at a scale with white space.
use Rattle.std.specs.Prelude.{ℕ, List, MatchBool, Ok}
use Rattle.bar_base.specs.Picture.{Picture}
use Rattle.bar_base.specs.declared.paint.Paint.{Paint}
use Rattle.symbol_reader.specs.Sight.{Sight, known}
use Rattle.bar_base.specs.Steps.{Step, ◌>>=◌, only}
use Rattle.zint_read.specs.Images.{bmp_picture, is_bmp, text_picture}
use Rattle.zint_answers.specs.declared.refusal.Refusal.{Refusal}

-- the picture that bytes show: that of a BMP where they begin with `BM`, else that of the text of a grid
unfoldable pub image_picture : Paint → (bytes : List ℕ) → Step Picture Refusal
image_picture paint bytes answer = MatchBool (is_bmp bytes) (bmp_picture paint bytes answer) (text_picture bytes answer)

-- what is seen in such an image: its picture, all of whose modules are known
unfoldable pub sees_whole : Paint → (bytes : List ℕ) → Step Sight Refusal
sees_whole paint bytes = do
  picture ← image_picture paint bytes
  only (Ok (known picture))
