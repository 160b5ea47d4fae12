use Rattle.std.proofs.Common.{Bool}
use Rattle.std.proofs.lemmas.Bool.{OnTrue_at, OnTrue_from}
use Rattle.code128_best.specs.declared.state.CodeSet.TheVariants.{C}
use Rattle.code128_best.specs.Costs.{IsStable}
use Rattle.code128_best.proofs.OwnLaws.{by_four}
use Rattle.code128_best.proofs.look.is_stable_in_c.Goals as goal

pub returns-then-is_stable_pairs-3 : goal.returns-then-is_stable_pairs-3
returns-then-is_stable_pairs-3 c =
    OnTrue_from c.is_stable_pairs-then-is_stable_pairs-3.result _
    (λ h. by_four
    (λ (fnc4 shift : Bool). IsStable c.args.costs.now c.args.elements.now (record { place = c.args.place; state = record { set = C; latch = c.args.latch; fnc4 = fnc4; shift = shift } }))
    c.if-is_stable_pairs.ensures c.if-is_stable_pairs-3.ensures c.if-is_stable_pairs-2.ensures (OnTrue_at h c.is_stable_pairs-then-is_stable_pairs-3.ensures))
