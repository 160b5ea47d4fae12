use Rattle.std.proofs.Common.{Bool, if◌then◌else◌}
use Rattle.std.proofs.lemmas.Bool.{OnTrue_at, OnTrue_from}
use Rattle.code128_best.specs.declared.state.CodeSet.TheVariants.{A, B}
use Rattle.code128_best.specs.Costs.{IsStable}
use Rattle.code128_best.proofs.OwnLaws.{by_four}
use Rattle.code128_best.proofs.look.is_stable_text.Goals as goal

pub returns-then-is_stable_shifted : goal.returns-then-is_stable_shifted
returns-then-is_stable_shifted c =
    OnTrue_from c.is_stable_shifted-then-is_stable_shifted.result _
    (λ h. by_four
    (λ (fnc4 shift : Bool). IsStable c.args.costs.now c.args.elements.now (record { place = c.args.place; state = record { set = if c.args.is_b then B else A; latch = c.args.latch; fnc4 = fnc4; shift = shift } }))
    c.if-is_stable_free.ensures c.if-is_stable_fnc4.ensures c.if-is_stable_shifted.ensures (OnTrue_at h c.is_stable_shifted-then-is_stable_shifted.ensures))
