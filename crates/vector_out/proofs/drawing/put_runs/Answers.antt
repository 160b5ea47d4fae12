use Rattle.std.proofs.Common.{◌≡◌, ◌+◌, ◌-◌, ◌++◌, ◌<◌, List, ℕ, refl, sum, take, get_or, sym, ap, ◌∙◌, arith}
use Rattle.std.specs.List.{flat_map, range_with_len}
use Rattle.std.proofs.lemmas.List.Sums.{sum_by_more}
use Rattle.std.proofs.lemmas.Option.{get_or_from_slice_get}
use Rattle.bar_base.specs.Picture.{row_count}
use Rattle.bar_base.proofs.Appended.{on_refusal}
use Rattle.vector_out.proofs.PutPieceByPiece.{IsPutting-none, IsPutting-more, IsPutting-put, IsPutting-part_piece}
use Rattle.vector_out.specs.Drawing.{row_lines}
use Rattle.vector_out.proofs.RunLines.{range-first, rectangle_lines-rows}
use Rattle.vector_out.proofs.drawing.put_runs.Goals as goal

pub loop-y-init : goal.loop-y-init
loop-y-init g c =
    let picture = c.args.grid.now in
    let all : row_count picture - 0 ≡ row_count picture = omega arith in
    record {
      putting = IsPutting-none _ _ _ _ _ _ (ap (λ (lines : List ℕ). c.args.waiting.now ++ lines)
          (ap (λ rows. flat_map (row_lines c.args.form c.args.paint picture) (range_with_len 0 rows)) all ∙ sym (rectangle_lines-rows c.args.form c.args.paint picture)));
      above = refl;
      low = omega arith;
    }

pub loop-y-preserved : goal.loop-y-preserved
loop-y-preserved g c =
    let picture = c.args.grid.now in
    let lines = row_lines c.args.form c.args.paint picture in
    let rows = row_count picture in
    let y = c.loop-y.y in
    let inside : y < rows = omega (arith, c.rows-y-end.ensures.rows, c.loop-y-test.true) in
    let high : get_or picture.heights y 0 ≡ c.height-above.result = get_or_from_slice_get picture.heights y c.height-above.result 0 c.height-above.ensures.height in
    let more : sum (take (y + 1) picture.heights) ≡ sum (take y picture.heights) + get_or picture.heights y 0 = sum_by_more (λ x. x) picture.heights y 0 inside in
    record {
      putting = IsPutting-more (lines y) (flat_map lines (range_with_len (y + 1) (rows - (y + 1)))) c.loop-y.invariant.putting (ap (flat_map lines) (range-first rows y inside))
          c.in_ok-put_row.ensures.whole c.put_row.ensures.cause.later c.put_row.ensures.rest;
      above = omega (arith, high, more, c.loop-y.invariant.above);
      low = omega (arith, c.loop-y.invariant.low, c.height-above.ensures.bounded.1);
    }

pub returns-in_err-put_row-clause-part : goal.returns-in_err-put_row-clause-part
returns-in_err-put_row-clause-part g c =
    let picture = c.args.grid.now in
    let lines = row_lines c.args.form c.args.paint picture in
    let rows = row_count picture in
    let y = c.loop-y.y in
    let inside : y < rows = omega (arith, c.rows-y-end.ensures.rows, c.loop-y-test.true) in
    on_refusal _ (IsPutting-part_piece (lines y) (flat_map lines (range_with_len (y + 1) (rows - (y + 1)))) c.loop-y.invariant.putting (ap (flat_map lines) (range-first rows y inside)) c.in_err-put_row.ensures.part)

pub returns-clause-whole : goal.returns-clause-whole
returns-clause-whole g c =
    let none : row_count c.args.grid.now - c.loop-y.y ≡ 0 = omega (arith, c.rows-y-end.ensures.rows, c.loop-y-test.false) in
    IsPutting-put c.loop-y.invariant.putting (ap (λ count. flat_map (row_lines c.args.form c.args.paint c.args.grid.now) (range_with_len c.loop-y.y count)) none)
