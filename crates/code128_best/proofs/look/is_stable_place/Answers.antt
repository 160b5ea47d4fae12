use Rattle.std.proofs.Common.{Bool}
use Rattle.std.proofs.lemmas.Bool.{OnTrue_at, OnTrue_from}
use Rattle.code128_best.specs.declared.state.CodeSet.TheVariants.{A, B, C}
use Rattle.code128_best.specs.Costs.{IsStable}
use Rattle.code128_best.proofs.OwnLaws.{by_both, stable_places}
use Rattle.code128_best.proofs.look.is_stable_place.Goals as goal

pub returns-then-is_stable_in_c : goal.returns-then-is_stable_in_c
returns-then-is_stable_in_c c =
    OnTrue_from c.is_stable_in_c-then-is_stable_in_c.result _
    (λ h. stable_places c.args.costs.now c.args.elements.now c.args.place
    (by_both (λ (latch : Bool). (fnc4 shift : Bool) → IsStable c.args.costs.now c.args.elements.now (record { place = c.args.place; state = record { set = A; latch = latch; fnc4 = fnc4; shift = shift } }))
    c.if-is_stable_text.ensures c.if-is_stable_text-2.ensures)
    (by_both (λ (latch : Bool). (fnc4 shift : Bool) → IsStable c.args.costs.now c.args.elements.now (record { place = c.args.place; state = record { set = B; latch = latch; fnc4 = fnc4; shift = shift } }))
    c.if-is_stable_text-3.ensures c.if-is_stable_text-4.ensures)
    (by_both (λ (latch : Bool). (fnc4 shift : Bool) → IsStable c.args.costs.now c.args.elements.now (record { place = c.args.place; state = record { set = C; latch = latch; fnc4 = fnc4; shift = shift } }))
    c.if-is_stable_in_c.ensures (OnTrue_at h c.is_stable_in_c-then-is_stable_in_c.ensures)))
