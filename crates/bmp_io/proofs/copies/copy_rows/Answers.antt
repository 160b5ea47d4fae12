use Rattle.std.proofs.Common.{◌+◌, ◌*◌, ◌≤◌, take, arith}
use Rattle.std.proofs.lemmas.List.{length-take-le}
use Rattle.std.proofs.Math.Nat.{mul-le-mul_right}
use Rattle.bmp_io.proofs.Lists.{copies-more}
use Rattle.bmp_io.proofs.copies.copy_rows.Goals as goal

pub loop-i-preserved : goal.loop-i-preserved
loop-i-preserved c =
    let first = take c.args.stride c.args.rows.now in
    let room : (c.loop-i.i + 1) * c.args.stride ≤ c.args.count * c.args.stride = mul-le-mul_right c.args.stride (omega (arith, c.loop-i-test.true)) in
    let one : 1 * c.args.stride ≤ c.args.count * c.args.stride = mul-le-mul_right c.args.stride (omega (arith, c.requires.one)) in
    let sized = length-take-le c.args.stride c.args.rows.now (omega (arith, one, c.requires.fits)) in
    rw c.copy_within.ensures.after (copies-more c.loop-i.rows first c.args.stride c.loop-i.i sized (omega (arith, c.loop-i.auto.i)) (omega (arith, room, c.requires.fits, c.loop-i.auto.rows)) c.loop-i.invariant)
