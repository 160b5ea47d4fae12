use Rattle.std.specs.String.{string_bytes}
use Rattle.eci_sets.specs.declared.character_set.CharacterSet.TheVariants.{SingleByte}
use Rattle.eci_sets.proofs.Decoded.{Decoded}
use Rattle.eci_sets.proofs.decoding.decode_page.Given as goal

abbrev pub invariant-loop-place : goal.invariant-loop-place
invariant-loop-place l = Decoded (SingleByte l.page) l.bytes l.place (string_bytes l.text)
