use Rattle.std.proofs.Common.{◌≡◌, None, drop}
use Rattle.linear_reader.specs.Data.{bytes_from, with_more}
use Rattle.linear_reader.proofs.full_ascii_data.bytes_of.Given as goal

abbrev pub invariant-loop-place : goal.invariant-loop-place
invariant-loop-place l = with_more l.elements (bytes_from l.symbology l.place l.sign (drop l.place l.values)) ≡ bytes_from l.symbology 0 None l.values
