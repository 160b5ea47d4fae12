use Rattle.std.proofs.Common.{refl}
use Rattle.rs_encode.proofs.DivisionLemmas.{none_fed}
use Rattle.rs_encode.proofs.division.divide.Goals as goal

pub loop-element-init : goal.loop-element-init
loop-element-init g c = record { room = refl; held = none_fed g.met.F.Field.laws c.args.registers.now _ c.requires.zeros }
