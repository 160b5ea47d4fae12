-- The text of a drawn symbol shows it whole.
use Rattle.std.proofs.Common.{◌≡◌, ◌*◌, ◌≤◌, ℕ, List, All, length, subst, sym, ap, ◌∙◌, arith}
use Rattle.std.specs.Prelude.{replicate}
use Rattle.std.proofs.lemmas.List.{length-replicate}
use Rattle.std.proofs.lemmas.Nat.{mul-le}
use Rattle.std.proofs.lemmas.List.Elements.{All-replicate}
use Rattle.bar_base.specs.Picture.{IsMatrixSymbol, Picture, row_count}
use Rattle.aztec_layout.specs.declared.sizes.Size.{Size}
use Rattle.aztec_layout.specs.Sizes.{IsSize, side_of}
use Rattle.aztec_layout.specs.SymbolGrid.{IsSquare, IsSymbolGrid}
use Rattle.aztec_layout.proofs.SizeLemmas.{side_few, side_some}

-- A square picture of a side of a symbol is a picture of a symbol.
square_matrix : (side : ℕ) (picture : Picture) → 15 ≤ side → side ≤ 151 → IsSquare side picture → IsMatrixSymbol picture
square_matrix side picture some few square =
    let counted : row_count picture ≡ side = ap length square.heights ∙ length-replicate side 1 in
    let whole : side * side ≡ row_count picture * picture.width = ap (λ (n : ℕ). n * side) (sym counted) ∙ ap (λ (n : ℕ). row_count picture * n) (sym square.width) in
    let high : ℕ → Type 0 = λ height. (1 ≤ height) × (height ≤ 200) in
    record {
      shape = record {
        whole = square.whole ∙ whole;
        wide = omega (arith, square.width, some);
        narrow = omega (arith, square.width, few);
        tall = omega (arith, counted, some);
        short = omega (arith, counted, few);
        small = omega (arith, whole, mul-le side side 151 151 few few);
        heights = subst (All high) (sym square.heights) (All-replicate high side 1 (omega arith, omega arith));
      };
      flat = square.heights ∙ ap (λ (n : ℕ). replicate n 1) (sym counted);
      narrow = omega (arith, square.width, few);
      short = omega (arith, counted, few);
    }

-- The picture of a symbol is one that its text shows.
pub drawn_matrix : (size : Size) (held : ℕ) (codewords : List ℕ) (drawn : Picture) → IsSize size → IsSymbolGrid size held codewords drawn
    → IsMatrixSymbol drawn
drawn_matrix size held codewords drawn sized grid = square_matrix (side_of size) drawn (side_some size sized) (side_few size sized) grid.shown.square
