use Rattle.std.proofs.Common.{◌≡◌, ◌+◌, ◌*◌, ◌<◌, ℕ, List, Bool, false, length, get_or, true, refl, ap, subst, arith}
use Rattle.std.proofs.lemmas.Option.{slice_get-get_or}
use Rattle.bar_base.specs.Picture.{Picture}
use Rattle.aztec_layout.specs.declared.sizes.Size.{Size}
use Rattle.aztec_layout.specs.Painting.{Paints}
use Rattle.aztec_layout.specs.Places.{IsBitPlace, bits_before, pairs_on_side}
use Rattle.aztec_layout.specs.Sizes.{layer_bits}
use Rattle.aztec_layout.proofs.Dots.{SideDot, data_dot, side_done}
use Rattle.aztec_layout.proofs.PaintingLemmas.{Upto, paints_next}
use Rattle.aztec_layout.proofs.Sides.{side_within}
use Rattle.aztec_layout.proofs.Spots.{number_within}
use Rattle.aztec_layout.proofs.data_painting.draw_side.Goals as goal

-- the place of a bit in the list is below its length
within : (size : Size) (layer side along first count : ℕ) (bits : List Bool) → layer < size.layers → side < 4 → along < 2 * pairs_on_side size layer →
    first ≡ bits_before size layer → count ≡ pairs_on_side size layer → length bits ≡ layer_bits size → first + side * (2 * count) + along < length bits
within size layer side along first count bits inside four below is-first is-count all =
    let e : side * (2 * count) ≡ side * (2 * pairs_on_side size layer) = ap (λ (k : ℕ). side * (2 * k)) is-count in
    omega (arith, e, is-first, all, number_within size layer (side * (2 * pairs_on_side size layer) + along) inside (side_within side along (pairs_on_side size layer) four below))

pub bounds-bits-at : goal.bounds-bits-at
bounds-bits-at c =
    within c.args.size c.args.layer c.args.side (2 * c.loop-pair.pair) c.first_bit.result c.pairs-count.result c.args.bits.now c.requires.layer c.requires.side
    (omega (arith, c.loop-pair-test.true, c.pairs-count.ensures.pairs)) c.first_bit.ensures c.pairs-count.ensures.pairs c.requires.bits

pub bounds-bits-at-in-loop-pair : goal.bounds-bits-at-in-loop-pair
bounds-bits-at-in-loop-pair c =
    let below : c.first_bit.result + c.args.side * (2 * c.pairs-count.result) + (2 * c.loop-pair.pair + 1) < length c.args.bits.now =
    within c.args.size c.args.layer c.args.side (2 * c.loop-pair.pair + 1) c.first_bit.result c.pairs-count.result c.args.bits.now c.requires.layer c.requires.side
    (omega (arith, c.loop-pair-test.true, c.pairs-count.ensures.pairs)) c.first_bit.ensures c.pairs-count.ensures.pairs c.requires.bits in
    omega (arith, below)

-- a bit that is drawn is that of the side
drawn : (size : Size) (layer side along first count at : ℕ) (bits : List Bool) (g h : Picture) → first ≡ bits_before size layer → count ≡ pairs_on_side size layer →
    at ≡ first + side * (2 * count) + along → at < length bits →
    Paints g h (λ a b. (get_or bits at false ≡ true) × IsBitPlace size (bits_before size layer + (side * (2 * pairs_on_side size layer) + along)) a b) →
    Paints g h (SideDot size bits layer side along)
drawn size layer side along first count at bits g h is-first is-count is-at below p =
    let e : side * (2 * count) ≡ side * (2 * pairs_on_side size layer) = ap (λ (k : ℕ). side * (2 * k)) is-count in
    data_dot size bits layer (side * (2 * pairs_on_side size layer) + along) at (get_or bits at false) g h (omega (arith, e, is-first, is-at)) (slice_get-get_or bits at false below) p

pub loop-pair-preserved : goal.loop-pair-preserved
loop-pair-preserved c =
    let A : ℕ → ℕ → ℕ → Type 0 = SideDot c.args.size c.args.bits.now c.args.layer c.args.side in
    let outer : ℕ = 2 * c.loop-pair.pair in
    let at : ℕ = c.first_bit.result + c.args.side * (2 * c.pairs-count.result) + outer in
    let inside : (along : ℕ) → along < 2 * pairs_on_side c.args.size c.args.layer → c.first_bit.result + c.args.side * (2 * c.pairs-count.result) + along < length c.args.bits.now =
    λ along below. within c.args.size c.args.layer c.args.side along c.first_bit.result c.pairs-count.result c.args.bits.now c.requires.layer c.requires.side
    below c.first_bit.ensures c.pairs-count.ensures.pairs c.requires.bits in
    let pair : c.loop-pair.pair < pairs_on_side c.args.size c.args.layer = omega (arith, c.loop-pair-test.true, c.pairs-count.ensures.pairs) in
    subst (λ (n : ℕ). Paints c.args.grid.now c.draw_bit-in-loop-pair.new.grid (Upto A n)) (let e : outer + 1 + 1 ≡ 2 * (c.loop-pair.pair + 1) = omega arith in e)
    (paints_next c.args.grid.now c.draw_bit.new.grid c.draw_bit-in-loop-pair.new.grid A (outer + 1)
    (paints_next c.args.grid.now c.loop-pair.grid c.draw_bit.new.grid A outer c.loop-pair.invariant
    (drawn c.args.size c.args.layer c.args.side outer c.first_bit.result c.pairs-count.result at c.args.bits.now c.loop-pair.grid c.draw_bit.new.grid
    c.first_bit.ensures c.pairs-count.ensures.pairs refl (inside outer (omega (arith, pair))) c.draw_bit.ensures))
    (drawn c.args.size c.args.layer c.args.side (outer + 1) c.first_bit.result c.pairs-count.result (at + 1) c.args.bits.now c.draw_bit.new.grid c.draw_bit-in-loop-pair.new.grid
    c.first_bit.ensures c.pairs-count.ensures.pairs (omega arith) (omega (arith, inside (outer + 1) (omega (arith, pair)))) c.draw_bit-in-loop-pair.ensures))

pub returns : goal.returns
returns c =
    side_done c.args.size c.args.bits.now c.args.layer c.args.side (2 * c.loop-pair.pair) c.args.grid.now c.loop-pair.grid
    (omega (arith, c.loop-pair-test.false, c.loop-pair.auto.pair-end, c.pairs-count.ensures.pairs)) c.loop-pair.invariant
