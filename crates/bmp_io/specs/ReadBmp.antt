-- Reading a BMP as a picture: the tests in their order, and the modules.
use Rattle.std.specs.Prelude.{ℕ, Bool, List, ◌+◌, ◌-◌, ◌*◌, ◌/◌, ◌%◌, Option, Some, None, Result, Ok, Err, map, false, replicate, unwrap_or, is_some}
use Rattle.std.specs.List.{list_all, range_with_len}
use Rattle.bar_base.specs.Picture.{Picture}
use Rattle.bar_base.specs.Results.{◌>>=◌}
use Rattle.bar_base.specs.declared.paint.Paint.{Paint}
use Rattle.bmp_io.specs.BmpHeader.{pixels_high}
use Rattle.bmp_io.specs.PixelsRead.{pixel_at}
use Rattle.bmp_io.specs.Refusals.{verdict, header_read}
use Rattle.bmp_io.specs.Samplings.{each_pixel, sampling_of}
use Rattle.bmp_io.specs.declared.bmp_header.BmpHeader.{BmpHeader}
use Rattle.bmp_io.specs.declared.fault.BmpFault.{BmpFault}
use Rattle.bmp_io.specs.declared.fault.BmpFault.TheVariants.{Unsupported}
use Rattle.bmp_io.specs.declared.fault.BmpField.TheVariants.{Palette}
use Rattle.bmp_io.specs.declared.sampling.Sampling.{Sampling}

-- the modules between the white space
abbrev pub modules_between : (unit white pixels : ℕ) → ℕ
modules_between unit white pixels = pixels / unit - 2 * white

-- how many modules a row has
abbrev pub modules_across : Sampling → BmpHeader → ℕ
modules_across sampling header = modules_between sampling.unit sampling.white header.width

-- how many rows of modules there are
abbrev pub modules_down : Sampling → BmpHeader → ℕ
modules_down sampling header = modules_between sampling.unit sampling.vwhite (pixels_high header)

-- the module in column x and row y: the one of its pixels that is looked at
unfoldable pub module_seen : Sampling → BmpHeader → List ℕ → (x y : ℕ) → Option Bool
module_seen sampling header bytes x y =
    pixel_at header bytes
    (sampling.unit * (sampling.white + x) + sampling.inset) (sampling.unit * (sampling.vwhite + y) + sampling.inset)

-- the first modules, row by row
unfoldable pub modules_seen : Sampling → BmpHeader → List ℕ → (count : ℕ) → List (Option Bool)
modules_seen sampling header bytes count =
    map (λ n. module_seen sampling header bytes (n % modules_across sampling header) (n / modules_across sampling header))
    (range_with_len 0 count)

-- the modules that were seen as a picture
unfoldable pub picture_seen : Sampling → BmpHeader → List (Option Bool) → Picture
picture_seen sampling header seen = record {
  width = modules_across sampling header;
  heights = replicate (modules_down sampling header) 1;
  modules = map (λ dark. unwrap_or dark false) seen;
}

-- a module that was seen, or the refusal of its colour
abbrev pub seen_or_refused : Option Bool → Result Bool BmpFault
seen_or_refused None = Err (Unsupported Palette)
seen_or_refused (Some dark) = Ok dark

-- the modules as a picture; each pixel that is looked at has a colour
unfoldable pub picture_or_refused : Sampling → BmpHeader → List (Option Bool) → Result Picture BmpFault
picture_or_refused sampling header seen = do
  coloured ← verdict (list_all is_some seen) (Unsupported Palette)
  Ok (picture_seen sampling header seen)

-- the picture of all modules
abbrev pub picture_at : Sampling → BmpHeader → List ℕ → Result Picture BmpFault
picture_at sampling header bytes =
    picture_or_refused sampling header
    (modules_seen sampling header bytes (modules_down sampling header * modules_across sampling header))

-- the picture of the pixels of a BMP that are looked at, or the first test that refuses it
unfoldable pub picture_by : Sampling → List ℕ → Result Picture BmpFault
picture_by sampling bytes = do
  header ← header_read sampling bytes
  picture_at sampling header bytes

-- the picture that a BMP of a painted symbol shows, or the first test that refuses it
abbrev pub picture_of : Paint → List ℕ → Result Picture BmpFault
picture_of paint bytes = picture_by (sampling_of paint) bytes

-- the pixels of a BMP as a picture, one module for each, or the first test that refuses it
abbrev pub pixels_of : List ℕ → Result Picture BmpFault
pixels_of bytes = picture_by each_pixel bytes
