-- From the bytes of an image to the picture that they show: a text of a grid, or a BMP.
use Rattle.std.specs.Prelude.{◌≡◌, ◌⊎◌, ◌≤◌, ℕ, Bool, List, length, nat_eq, codes}
use Rattle.std.specs.List.{starts_with}
use Rattle.bar_base.specs.GridText.{grid_text}
use Rattle.bar_base.specs.Input.{limit_for}
use Rattle.bar_base.specs.Limits.{most_bmp_bytes, most_bytes}
use Rattle.bar_base.specs.Picture.{Picture}
use Rattle.bar_base.specs.declared.paint.Paint.{Paint}
use Rattle.bmp_io.specs.Bmp.{bmp_bytes}
use Rattle.bmp_io.specs.ReadBmp.{picture_of, pixels_of}
use Rattle.bmp_io.specs.declared.fault.BmpFault.{BmpFault}
use Rattle.bmp_io.specs.declared.fault.BmpFault.TheVariants as bmp
use Rattle.symbol_reader.specs.GridLines.{IsPictureOf, IsTextFault}
use Rattle.symbol_reader.specs.Sight.{Sight, darkened}
use Rattle.symbol_reader.specs.UnknownLines.{light_text, lost_modules}
use Rattle.symbol_reader.specs.declared.text_fault.TextFault.{TextFault}
use Rattle.symbol_reader.specs.declared.text_fault.TextFault.TheVariants as text
use Rattle.bar_base.specs.Steps.{Step}
use Rattle.zint_answers.specs.Steps.{answered, related}
use Rattle.zint_answers.specs.declared.fault.Fault.{Fault}
use Rattle.zint_answers.specs.declared.fault.Fault.TheVariants.{NoMemory, Refused}
use Rattle.zint_answers.specs.declared.image_fault.ImageFault.TheVariants.{Grid, Side, Truncated, Field, Size as PixelSize}
use Rattle.zint_answers.specs.declared.refusal.Refusal.TheVariants.{BadImage}
use Rattle.zint_answers.specs.declared.refusal.Refusal.{Refusal}

-- what a fault of the text of a grid is here
abbrev pub parse_fault : TextFault → Fault
parse_fault text.NoMemory = NoMemory
parse_fault (text.BadText place) = Refused (BadImage (Grid place))
parse_fault (text.BadSide width rows) = Refused (BadImage (Side width rows))

-- what a fault of a BMP is here; bytes that are no BMP are no text of a grid from their first byte on
abbrev pub bmp_fault : BmpFault → Fault
bmp_fault bmp.NoMemory = NoMemory
bmp_fault bmp.NotBmp = Refused (BadImage (Grid 0))
bmp_fault (bmp.Unsupported field) = Refused (BadImage (Field field))
bmp_fault (bmp.Truncated count) = Refused (BadImage (Truncated count))
bmp_fault (bmp.BadSize width height) = Refused (BadImage (PixelSize width height))

-- whether bytes are read as a BMP: they begin with `BM`
abbrev pub is_bmp : List ℕ → Bool
is_bmp bytes = starts_with nat_eq bytes (codes "BM")

-- Bytes are within the limit that counts for them: 65,536, or that of pictures where they begin with `BM`.
abbrev pub IsWithin : List ℕ → Type 0
IsWithin bytes = length bytes ≤ limit_for most_bytes most_bmp_bytes bytes

-- the picture that the text of a grid shows
abbrev pub text_picture : List ℕ → Step Picture Refusal
text_picture bytes = related parse_fault (IsPictureOf bytes) (IsTextFault bytes)

-- What the text of a grid shows in which `?` stands for an unknown module: the picture with these light, and with them dark.
pub record IsSightOf (bytes : List ℕ) (sight : Sight) : Type 0 where
  pub picture : IsPictureOf (light_text bytes) sight.picture
  pub dark : sight.dark ≡ darkened sight.picture (record sight.picture { modules = lost_modules bytes })

-- what such a text shows; its faults are those of the text with its unknown modules light
abbrev pub text_sight : List ℕ → Step Sight Refusal
text_sight bytes = related parse_fault (IsSightOf bytes) (IsTextFault (light_text bytes))

-- the picture that a BMP shows which was painted so
abbrev pub bmp_picture : Paint → List ℕ → Step Picture Refusal
bmp_picture paint bytes = answered bmp_fault (picture_of paint bytes)

-- the picture of all pixels of a BMP
abbrev pub bmp_pixels : List ℕ → Step Picture Refusal
bmp_pixels bytes = answered bmp_fault (pixels_of bytes)

-- Bytes are a grid as it is written: its text, or its BMP at a paint.
abbrev pub IsWrittenAt : Paint → (bytes : List ℕ) → (grid : Picture) → Type 0
IsWrittenAt paint bytes grid = (bytes ≡ grid_text grid) ⊎ (bytes ≡ bmp_bytes paint grid)
