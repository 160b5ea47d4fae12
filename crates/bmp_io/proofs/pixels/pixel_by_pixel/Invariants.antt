use Rattle.std.proofs.Common.{◌≡◌, ◌<◌, ◌^◌, map}
use Rattle.std.specs.List.{range_with_len}
use Rattle.bar_base.specs.Bits.{number_after}
use Rattle.bar_base.specs.Picture.{row_of}
use Rattle.bmp_io.specs.Pixels.{pixel}
use Rattle.bmp_io.proofs.pixels.pixel_by_pixel.Given as goal

-- the byte so far has the pixels on the left as its bits
abbrev pub invariant-loop-i : goal.invariant-loop-i
invariant-loop-i l = (l.byte ≡ number_after 0 (map (pixel l.paint (row_of l.grid l.y)) (range_with_len l.p l.i))) × (l.byte < 2 ^ l.i)
