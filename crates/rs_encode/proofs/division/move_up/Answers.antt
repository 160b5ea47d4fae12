use Rattle.std.proofs.Common.{◌∙◌, drop, ap, sym}
use Rattle.rs_encode.specs.Division.{moved}
use Rattle.rs_encode.proofs.division.move_up.Goals as goal

pub returns-then-eq : goal.returns-then-eq
returns-then-eq g c =
    c.move_zeros.ensures ∙ ap (λ x. moved g.F.Field.plus g.F.Field.times g.F.Field.power x (drop 1 c.args.registers.now) c.args.exponents.now)
    (sym ((g.met.F.Field.equal c.args.factor c.zero.result).0 (sym c.if-eq.ensures) ∙ c.zero.ensures))
