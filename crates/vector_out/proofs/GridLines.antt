-- The lines of a grid, row by row.
use Rattle.std.proofs.Common.{◌≡◌, ℕ, suc, ◌+◌, ◌-◌, ◌<◌, ◌≤◌, [], ◌++◌, refl, ap, arith}
use Rattle.bar_base.specs.GridText.{lines_from, line_of, grid_text}
use Rattle.bar_base.specs.Picture.{Picture, row_of, row_count}

-- all lines are those from row 0 on
pub lines-all : (picture : Picture) → lines_from picture 0 (row_count picture - 0) ≡ grid_text picture
lines-all picture = ap (lines_from picture 0) (let e : row_count picture - 0 ≡ row_count picture = omega arith in e)

-- the lines from row y on begin with the line of row y
pub lines-more : (picture : Picture) (y : ℕ) → y < row_count picture →
    lines_from picture y (row_count picture - y) ≡ line_of (row_of picture y) ++ lines_from picture (y + 1) (row_count picture - (y + 1))
unfolding lines_from
lines-more picture y inside =
    let count : row_count picture - y ≡ suc (row_count picture - (y + 1)) = omega arith in
    let next : suc y ≡ y + 1 = omega arith in
    rw (count, ← next) refl

-- past the last row there is no line
pub lines-none : (picture : Picture) (y : ℕ) → row_count picture ≤ y → lines_from picture y (row_count picture - y) ≡ []
unfolding lines_from
lines-none picture y past =
    let none : row_count picture - y ≡ 0 = omega arith in
    ap (lines_from picture y) none
