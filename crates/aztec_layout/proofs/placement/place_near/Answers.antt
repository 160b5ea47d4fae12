use Rattle.aztec_layout.proofs.Spots.{SamePlace, at_bit, place_only}
use Rattle.aztec_layout.proofs.placement.place_near.Goals as goal

pub returns-clause-only : goal.returns-clause-only
returns-clause-only c = λ x y p.
    let e : SamePlace x c.place_in.result.0 y c.place_in.result.1 =
    place_only c.args.size c.args.bit x y c.place_in.result.0 c.place_in.result.1 p
    (at_bit c.args.size c.args.layer c.first_bit-before.result c.args.bit c.place_in.result.0 c.place_in.result.1
    c.first_bit-before.ensures c.if-bit-before.false c.place_in.ensures.place) in
    (e.column, e.row)
