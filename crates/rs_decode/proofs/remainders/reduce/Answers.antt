use Rattle.std.proofs.Common.{◌≡◌, ◌∙◌, ◌-◌, ap, arith, length, take, get_or}
use Rattle.galois.proofs.Sums.{add_self}
use Rattle.galois.specs.Coefficients.{added_behind}
use Rattle.rs_decode.proofs.Euclid.{reduced}
use Rattle.rs_decode.proofs.EuclidInPlace.{behind_cut}
use Rattle.rs_decode.proofs.remainders.reduce.Goals as goal

pub returns : goal.returns
returns g c = λ series few is.
    let laws : _ = g.met.F.Field.laws in
    let d : _ = length c.args.high.now - length c.args.low.now in
    let same : length c.args.high_factor.now - length c.args.low_factor.now ≡ length c.args.high.now - length c.args.low.now = omega (arith, c.requires.wide, c.requires.lower) in
    let factor : g.row.F.Denot = c.over-factor.result in
    let low_last : g.row.F.Denot = c.index-low-low.result in
    let high_last : g.row.F.Denot = c.index-high-high.result in
    let cancels : g.F.Field.plus (get_or c.args.high.now (length c.args.high.now - 1) high_last) (g.F.Field.times factor (get_or c.args.low.now (length c.args.low.now - 1) low_last)) ≡ g.F.Field.nought =
    rw (← c.index-high-high.is, ← c.index-low-low.is)
    (ap (g.F.Field.plus high_last) c.over-factor.ensures ∙ add_self laws high_last) in
    rw (c.add_behind.ensures, c.add_behind-2.ensures, same)
    (reduced laws series few factor d c.args.high.now c.args.high_factor.now c.args.low.now c.args.low_factor.now
    (take (length c.args.high.now - 1) (added_behind g.F.Field.plus g.F.Field.times factor d c.args.high.now c.args.low.now)) is (omega (arith, c.requires.lower))
    (behind_cut laws factor d c.args.high.now c.args.low.now (length c.args.high.now - 1) (length c.args.low.now - 1) high_last low_last (omega (arith, c.requires.lower)) (omega (arith, c.requires)) (omega (arith, c.requires)) cancels))
