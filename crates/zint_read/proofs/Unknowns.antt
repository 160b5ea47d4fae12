-- Texts with unknown modules: what they show is one, and the text of a grid shows it with none.
use Rattle.std.proofs.Common.{◌≡◌, List, ℕ, sym, ap, ◌∙◌}
use Rattle.bar_base.specs.GridText.{grid_text}
use Rattle.bar_base.specs.Picture.{IsMatrixSymbol, Picture}
use Rattle.symbol_reader.specs.Sight.{Sight, darkened, known, sight_of}
use Rattle.symbol_reader.specs.UnknownLines.{IsUnknownOf, light_text, lost_modules}
use Rattle.symbol_reader.specs.declared.unknown.Unknown.{Unknown}
use Rattle.symbol_reader.proofs.KnownTexts.{shown_known}
use Rattle.symbol_reader.proofs.PictureTexts.{picture_once}
use Rattle.zint_read.specs.Images.{IsSightOf}

-- What is parsed is what is shown.
pub sight_shown : (bytes : List ℕ) (unknown : Unknown) → IsUnknownOf bytes unknown → IsSightOf bytes (sight_of unknown)
sight_shown bytes unknown is = record { picture = is.picture; dark = ap (darkened unknown.grid) is.lost }

abbrev pub sight_with : Picture → Picture → Sight
sight_with picture dark = record { picture = picture; dark = dark }

-- Bytes show one such picture.
pub sight_once : (bytes : List ℕ) (one other : Sight) → IsSightOf bytes one → IsSightOf bytes other → one ≡ other
sight_once bytes one other p q =
    let same : one.picture ≡ other.picture = picture_once (light_text bytes) one.picture other.picture p.picture q.picture in
    let darks : one.dark ≡ other.dark =
    p.dark ∙ ap (λ (picture : Picture). darkened picture (record picture { modules = lost_modules bytes })) same ∙ sym q.dark in
    ap (λ (picture : Picture). sight_with picture one.dark) same ∙ ap (sight_with other.picture) darks

-- The text of a grid shows it, with no unknown module.
pub text_known : (grid : Picture) → IsMatrixSymbol grid → IsSightOf (grid_text grid) (known grid)
text_known grid matrix = (let shown = shown_known grid matrix in record { picture = shown.0; dark = shown.1 })
