use Rattle.std.proofs.Common.{arith}
use Rattle.galois.proofs.TableLaws.{order_few}
use Rattle.rs_decode.proofs.room.Room.new.Goals as goal

pub new-requires : goal.new-requires
new-requires g c = omega (arith, c.requires.few, c.requires.fits, order_few g.met.F.Field.size)
