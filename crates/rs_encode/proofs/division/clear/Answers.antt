use Rattle.std.proofs.Common.{◌≡◌, ◌∙◌, ap, sym, arith, length, replicate}
use Rattle.std.proofs.lemmas.List.{take_all}
use Rattle.rs_encode.proofs.division.clear.Goals as goal

pub returns : goal.returns
returns g c =
    sym (take_all c.loop-register.register-index c.loop-register.registers (omega arith)) ∙ c.loop-register.invariant
    ∙ ap (λ n. replicate n g.F.Field.nought) (let e : c.loop-register.register-index ≡ length c.args.registers.now = omega arith in e)
