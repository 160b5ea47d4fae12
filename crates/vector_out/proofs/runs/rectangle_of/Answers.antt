use Rattle.std.proofs.Common.{◌≡◌, ◌+◌, ◌*◌, ℕ, slice_index, refl, sym, arith}
use Rattle.std.proofs.lemmas.Nat.{mul-le}
use Rattle.std.proofs.lemmas.Option.{get_or_from_slice_get}
use Rattle.vector_out.specs.declared.runs.Rectangle.{Rectangle}
use Rattle.vector_out.specs.Runs.{rectangle_of}
use Rattle.vector_out.proofs.runs.rectangle_of.Goals as goal

same_rectangle : (side side' above above' run run' high high' white x vwhite : ℕ) → side ≡ side' → above ≡ above' → run ≡ run' → high ≡ high' →
    (let drawn : Rectangle = record { left = side * (white + x); top = side * (vwhite + above); width = side * run; height = side * high } in drawn)
    ≡ record { left = side' * (white + x); top = side' * (vwhite + above'); width = side' * run'; height = side' * high' }
same_rectangle side side' above above' run run' high high' white x vwhite wide low long tall = rw (wide, low, long, tall) refl

pub overflow_mul-result : goal.overflow_mul-result
overflow_mul-result c =
    omega (arith, mul-le c.unit-side.result (c.args.paint.white + c.args.x) 40 16484 (omega (arith, c.unit-side.ensures, c.requires.paint.scaled)) (omega (arith, c.requires.narrow, c.requires.paint.narrow)))

pub returns : goal.returns
unfolding rectangle_of
returns c =
    same_rectangle _ _ _ _ _ _ _ _ _ _ _ c.unit-side.ensures c.requires.above c.dark_run_length.ensures.length
    (let high : c.height.result ≡ slice_index c.args.grid.now.heights c.args.y = sym (get_or_from_slice_get c.args.grid.now.heights c.args.y c.height.result 0 c.height.ensures.height) in high)
