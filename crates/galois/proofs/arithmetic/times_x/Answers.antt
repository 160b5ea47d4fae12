use Rattle.std.proofs.Common.{◌≡◌, ◌*◌, ◌%◌, ◌^◌, ◌<◌, ◌≤◌, arith}
use Rattle.std.proofs.Math.Nat.{mod-eq_of_lt}
use Rattle.std.proofs.Math.Pow.{pow_mono}
use Rattle.galois.specs.FieldLaws.{below_of, within_of}
use Rattle.galois.specs.MultipleLaws.{turn_below}
use Rattle.galois.proofs.StepLemmas.{turn-is}
use Rattle.galois.proofs.arithmetic.times_x.Goals as goal

pub returns-clause-value : goal.returns-clause-value
returns-clause-value g c =
    let h = g.P.Poly.primitive in
    let small : 2 ^ g.P.Poly.BITS ≤ 2 ^ 12 = pow_mono h.twelve_or_less in
    let below : c.args.number < 2 ^ g.P.Poly.BITS = below_of h c.args.number c.requires in
    let fits : c.args.number * 2 % 4294967296 ≡ c.args.number * 2 = mod-eq_of_lt (omega (arith, small, below)) in
    turn-is g.P.Poly.BITS g.P.Poly.POLY c.args.number _ c.coefficient.result c.masked.result fits
    (rw c.BITS.ensures at c.coefficient.ensures.value) (rw c.POLY.ensures at c.masked.ensures)

pub returns-clause-within : goal.returns-clause-within
returns-clause-within g c =
    let h = g.P.Poly.primitive in
    rw (returns-clause-value g c) (within_of h _ (turn_below h c.args.number (below_of h c.args.number c.requires)))
