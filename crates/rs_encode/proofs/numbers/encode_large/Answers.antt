use Rattle.std.proofs.Common.{arith}
use Rattle.galois.specs.FieldLaws.{size_of}
use Rattle.galois.proofs.TableLaws.{order_few}
use Rattle.rs_encode.proofs.numbers.encode_large.Goals as goal

pub encode_in-requires-clause-room : goal.encode_in-requires-clause-room
encode_in-requires-clause-room g c = omega (arith, order_few (size_of g.P.Poly.primitive))
