-- Sequences of latches between modes (ISO/IEC 24778, Character encodation).
use Rattle.std.specs.Prelude.{ℕ}
use Rattle.aztec_modes.specs.declared.mode.Mode.{Mode}
use Rattle.aztec_modes.specs.declared.mode.Mode.TheVariants.{Upper, Lower, Mixed, Punct, Digit}

-- The fewest bits of latches that lead from a mode to another.
unfoldable pub latch_bits : (mode to : Mode) → ℕ
latch_bits Upper Upper = 0
latch_bits Upper Lower = 5
latch_bits Upper Mixed = 5
latch_bits Upper Punct = 10
latch_bits Upper Digit = 5
latch_bits Lower Upper = 9
latch_bits Lower Lower = 0
latch_bits Lower Mixed = 5
latch_bits Lower Punct = 10
latch_bits Lower Digit = 5
latch_bits Mixed Upper = 5
latch_bits Mixed Lower = 5
latch_bits Mixed Mixed = 0
latch_bits Mixed Punct = 5
latch_bits Mixed Digit = 10
latch_bits Punct Upper = 5
latch_bits Punct Lower = 10
latch_bits Punct Mixed = 10
latch_bits Punct Punct = 0
latch_bits Punct Digit = 10
latch_bits Digit Upper = 4
latch_bits Digit Lower = 9
latch_bits Digit Mixed = 9
latch_bits Digit Punct = 14
latch_bits Digit Digit = 0
