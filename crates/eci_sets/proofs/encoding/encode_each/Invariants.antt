use Rattle.std.proofs.Common.{length}
use Rattle.std.specs.Str.{chars}
use Rattle.eci_sets.proofs.Encoded.{Encoding}
use Rattle.eci_sets.proofs.encoding.encode_each.Given as goal

abbrev pub invariant-loop-character : goal.invariant-loop-character
invariant-loop-character l = Encoding l.set (chars l.text) (length l.yielded) l.place l.bytes.items
