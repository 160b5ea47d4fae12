-- What a reading looks for: what its numbers may be.
use Rattle.std.specs.Prelude.{ℕ, ◌==◌, find, Option, Some, None}
use Rattle.std.specs.Option.{ForSome}
use Rattle.bar_base.specs.Paint.{IsPaint}
use Rattle.bar_base.specs.declared.paint.Paint.{Paint}
use Rattle.zint_settings.specs.declared.look.Frame.{Frame}
use Rattle.zint_settings.specs.declared.look.Frame.TheVariants.{Whole, Unknown}
use Rattle.zint_settings.specs.declared.look.Look.{Look}
use Rattle.zint_settings.specs.declared.look.Look.TheVariants.{Aztec}
use Rattle.zint_settings.specs.declared.look.RowSymbology.{RowSymbology}
use Rattle.zint_settings.specs.declared.look.RowSymbology.TheVariants as row
use Rattle.zint_settings.specs.declared.look.TheConstants.{ROW_SYMBOLOGIES}

-- the number that `--scan` takes
abbrev pub row_number : RowSymbology → ℕ
row_number row.Code39 = 8
row_number row.ExtendedCode39 = 9
row_number row.Code128 = 20
row_number row.Code93 = 25
row_number row.Itf14 = 89

-- the symbology with the number
unfoldable pub row_symbology_numbered : ℕ → Option RowSymbology
row_symbology_numbered n = find (λ s. row_number s == n) ROW_SYMBOLOGIES.now

-- how a bitmap file was painted, where that is known
abbrev pub frame_paint : Frame → Option Paint
frame_paint (Whole paint) = Some paint
frame_paint (Unknown paint) = Some paint
frame_paint _ = None

-- the same of whatever is looked for
abbrev pub look_paint : Look → Option Paint
look_paint (Aztec frame) = frame_paint frame
look_paint _ = None

-- a paint that is known is one that a picture may have
abbrev pub IsFrame : Frame → Type 0
IsFrame frame = ForSome (frame_paint frame) IsPaint

-- so in whatever is looked for
abbrev pub IsLook : Look → Type 0
IsLook look = ForSome (look_paint look) IsPaint
