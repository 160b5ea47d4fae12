use Rattle.std.proofs.Common.{length, ◌-◌}
use Rattle.std.specs.String.{string_bytes}
use Rattle.eci_sets.specs.declared.character_set.CharacterSet.TheVariants.{Utf16Be}
use Rattle.eci_sets.proofs.Decoded.{Decoded}
use Rattle.eci_sets.proofs.decoding.decode_utf16.Given as goal

abbrev pub invariant-loop-place : goal.invariant-loop-place
invariant-loop-place l = Decoded Utf16Be l.bytes l.place (string_bytes l.text)

abbrev pub decreases-loop-place : goal.decreases-loop-place
decreases-loop-place l = length l.bytes - l.place
