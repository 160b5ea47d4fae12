use Rattle.std.proofs.Common.{arith}
use Rattle.galois.proofs.TableLaws.{order_few}
use Rattle.rs_decode.proofs.room.decode_with_lost.Goals as goal

pub new-tables-requires-clause-powers : goal.new-tables-requires-clause-powers
new-tables-requires-clause-powers g c = omega (arith, order_few g.met.F.Field.size)

pub new-tables-requires-clause-exponents : goal.new-tables-requires-clause-exponents
new-tables-requires-clause-exponents g c = order_few g.met.F.Field.size
