-- A symbol that is the whole image, of which some modules may be unknown where it is a text.
use Rattle.std.specs.Prelude.{ℕ, List, MatchBool, Ok}
use Rattle.bar_base.specs.declared.paint.Paint.{Paint}
use Rattle.symbol_reader.specs.Sight.{Sight, known}
use Rattle.bar_base.specs.Steps.{Step, ◌>>=◌, only}
use Rattle.zint_read.specs.Images.{bmp_picture, is_bmp, text_sight}
use Rattle.zint_answers.specs.declared.refusal.Refusal.{Refusal}

-- what is seen in a BMP: its picture, all of whose modules are known
unfoldable pub sees_bmp : Paint → (bytes : List ℕ) → Step Sight Refusal
sees_bmp paint bytes = do
  picture ← bmp_picture paint bytes
  only (Ok (known picture))

-- what is seen in such an image: in a BMP where it begins with `BM`, else in the text of a grid with unknown modules
unfoldable pub sees_unknown : Paint → (bytes : List ℕ) → Step Sight Refusal
sees_unknown paint bytes answer = MatchBool (is_bmp bytes) (sees_bmp paint bytes answer) (text_sight bytes answer)
