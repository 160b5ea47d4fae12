-- What is wrong with a picture: its exit status and its detail.
use Rattle.std.specs.Prelude.{ℕ, List, ◌++◌, codes, decimal}
use Rattle.bmp_io.specs.declared.fault.BmpField.{BmpField}
use Rattle.bmp_io.specs.declared.fault.BmpField.TheVariants as bmp
use Rattle.zint_answers.specs.declared.image_fault.ImageFault.{ImageFault}
use Rattle.zint_answers.specs.declared.image_fault.ImageFault.TheVariants.{Grid, Side, Truncated, Field, Size}

-- the name of a field of a BMP's header
abbrev pub field_text : BmpField → List ℕ
field_text bmp.Header = codes "header"
field_text bmp.Planes = codes "planes"
field_text bmp.Bits = codes "bits"
field_text bmp.Compression = codes "compression"
field_text bmp.Width = codes "width"
field_text bmp.Height = codes "height"
field_text bmp.Palette = codes "palette"

-- a width and a height
abbrev pub sides_text : (width height : ℕ) → List ℕ
sides_text width height = decimal width ++ codes "x" ++ decimal height

-- the exit status
abbrev pub image_status : ImageFault → ℕ
image_status fault = 13

-- what it is about
abbrev pub image_detail_of : ImageFault → List ℕ
image_detail_of (Grid place) = codes "grid at " ++ decimal place
image_detail_of (Side width rows) = codes "side " ++ sides_text width rows
image_detail_of (Truncated count) = codes "truncated at " ++ decimal count
image_detail_of (Field field) = codes "field " ++ field_text field
image_detail_of (Size width height) = codes "size " ++ sides_text width height
