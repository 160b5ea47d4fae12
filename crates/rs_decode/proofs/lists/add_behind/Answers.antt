use Rattle.std.proofs.Common.{◌∙◌, ◌-◌, ap, arith, length, take, ◌++◌}
use Rattle.galois.specs.Coefficients.{added, added_behind}
use Rattle.rs_decode.proofs.Slices.{put_rest, rest_of}
use Rattle.rs_decode.proofs.lists.add_behind.Goals as goal

pub returns : goal.returns
unfolding added_behind
returns g c =
    let shift : _ = length c.args.target.now - length c.args.source.now in
    put_rest shift (length c.args.target.now - shift) c.args.target.now c.add_multiple.new.target (omega arith) ∙
    ap (λ l. take shift c.args.target.now ++ l) (c.add_multiple.ensures ∙
    ap (λ l. added g.F.Field.plus g.F.Field.times c.args.factor l c.args.source.now) (rest_of shift (length c.args.target.now - shift) c.args.target.now (omega arith)))
