use Rattle.std.proofs.Common.{◌≡◌, ap, arith}
use Rattle.aztec_layout.specs.Sizes.{layer_bits}
use Rattle.aztec_layout.specs.Places.{bits_before}
use Rattle.aztec_layout.proofs.Layers.{bits_before-all}
use Rattle.aztec_layout.proofs.Spots.{SamePlace, at_bit, place_apart, place_free, place_only}
use Rattle.aztec_layout.proofs.placement.place.Goals as goal

pub returns-then-bit-before-clause-only : goal.returns-then-bit-before-clause-only
returns-then-bit-before-clause-only c = λ x y p.
    let e : SamePlace x c.place_in.result.0 y c.place_in.result.1 =
    place_only c.args.size c.args.bit x y c.place_in.result.0 c.place_in.result.1 p
    (at_bit c.args.size c.loop-layer.layer c.loop-layer.before c.args.bit c.place_in.result.0 c.place_in.result.1
    c.loop-layer.invariant.0 c.loop-layer.invariant.1 c.place_in.ensures.place) in
    (e.column, e.row)

pub returns-then-bit-before-clause-apart : goal.returns-then-bit-before-clause-apart
returns-then-bit-before-clause-apart c = λ q p.
    place_apart c.args.size q c.args.bit c.place_in.result.0 c.place_in.result.1 p
    (at_bit c.args.size c.loop-layer.layer c.loop-layer.before c.args.bit c.place_in.result.0 c.place_in.result.1
    c.loop-layer.invariant.0 c.loop-layer.invariant.1 c.place_in.ensures.place)

pub returns-then-bit-before-clause-free : goal.returns-then-bit-before-clause-free
returns-then-bit-before-clause-free c =
    place_free c.args.size c.args.bit c.place_in.result.0 c.place_in.result.1
    (at_bit c.args.size c.loop-layer.layer c.loop-layer.before c.args.bit c.place_in.result.0 c.place_in.result.1
    c.loop-layer.invariant.0 c.loop-layer.invariant.1 c.place_in.ensures.place)

pub unreachable-requires : goal.unreachable-requires
unreachable-requires c =
    let all : bits_before c.args.size c.args.size.layers ≡ layer_bits c.args.size = bits_before-all c.args.size in
    let same : bits_before c.args.size c.loop-layer.layer ≡ bits_before c.args.size c.args.size.layers =
    ap (bits_before c.args.size) (let e : c.loop-layer.layer ≡ c.args.size.layers = omega arith in e) in
    omega (arith, all, same)

pub returns-then-bit-before-clause-place : goal.returns-then-bit-before-clause-place
returns-then-bit-before-clause-place c =
    at_bit c.args.size c.loop-layer.layer c.loop-layer.before c.args.bit c.place_in.result.0 c.place_in.result.1
    c.loop-layer.invariant.0 c.loop-layer.invariant.1 c.place_in.ensures.place
