use Rattle.std.proofs.Common.{arith}
use Rattle.galois.proofs.CheckWords.{only_check}
use Rattle.rs_encode.specs.Division.{Completes}
use Rattle.rs_encode.proofs.DivisionLemmas.{none_asked, nothing_to_write}
use Rattle.rs_encode.proofs.encoder.encode.Goals as goal
use Rattle.rs_encode.proofs.encoder.encode.Goals.{then-is_empty-via-then-is_empty, then-is_empty-via-else-is_empty+then-is_empty-2}

pub returns-then-is_empty : goal.returns-then-is_empty
returns-then-is_empty g c =
    let done : Completes g.F.Field.nought g.F.Field.plus g.F.Field.times g.F.Field.power c.args.front.now c.clear.new.registers =
    elim c.then-is_empty.branch [
      | then-is_empty-via-then-is_empty w ↦ nothing_to_write g.met.F.Field.laws c.args.front.now c.clear.new.registers _ c.clear.ensures (grind (arith, w.if-is_empty.true, c.is_empty.ensures))
      | then-is_empty-via-else-is_empty+then-is_empty-2 w ↦ none_asked g.met.F.Field.laws c.args.front.now c.clear.new.registers (grind (arith, w.if-is_empty-2.true, w.is_empty-else-is_empty.ensures))
    ] in
    record {
      word = done;
      only = λ other same is. only_check g.met.F.Field.laws g.F.PartialEq.eq g.met.F.Field.equal c.args.front.now other c.clear.new.registers same (omega arith) is done;
    }

pub returns : goal.returns
returns g c = record {
  word = c.write_check.ensures;
  only = λ other same is. only_check g.met.F.Field.laws g.F.PartialEq.eq g.met.F.Field.equal c.args.front.now other c.write_check.new.check same (omega arith) is c.write_check.ensures;
}
