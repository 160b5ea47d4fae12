use Rattle.std.proofs.Common.{◌≡◌, ◌∙◌, ◌/◌, ℕ, List, subst, sym, arith}
use Rattle.bar_base.specs.Picture.{Picture}
use Rattle.aztec_layout.specs.declared.sizes.Size.{Size}
use Rattle.aztec_layout.specs.Sizes.{codewords_of}
use Rattle.zint_demo.specs.Damage.{IsDamaged, IsSpacedFirstBit, IsTurned, ShowsCodewordsNear, damage_of}
use Rattle.zint_demo.proofs.FirstBits.{first_bits_none}
use Rattle.zint_demo.proofs.Nearness.{near_none}
use Rattle.zint_demo.proofs.damage.damaged.Goals as goal
use Rattle.zint_demo.proofs.damage.damaged.Goals.{then-count-gt0, else-count-gt0}

damaged_by : (size : Size) (count held : ℕ) (drawn picture other : Picture) → count ≡ damage_of size held → other ≡ picture
    → IsTurned drawn picture (IsSpacedFirstBit size (codewords_of size / count) count) → IsDamaged size held drawn other
damaged_by size count held drawn picture other count_is same turning =
    subst (λ (p : Picture). IsDamaged size held drawn p) (sym same)
    (subst (λ (n : ℕ). IsTurned drawn picture (IsSpacedFirstBit size (codewords_of size / n) n)) count_is turning)

near_by : (size : Size) (count held : ℕ) (picture other : Picture) (codewords : List ℕ) → count ≡ damage_of size held → other ≡ picture
    → ShowsCodewordsNear size picture codewords count → ShowsCodewordsNear size other codewords (damage_of size held)
near_by size count held picture other codewords count_is same near =
    subst (λ (p : Picture). ShowsCodewordsNear size p codewords (damage_of size held)) (sym same) (subst (λ (n : ℕ). ShowsCodewordsNear size picture codewords n) count_is near)

pub returns-clause-damaged : goal.returns-clause-damaged
returns-clause-damaged c =
    elim c.if-count-gt0.branch [
      | then-count-gt0 w ↦ damaged_by c.args.symbol.size c.damage_of-count.result c.args.symbol.held c.args.symbol.grid w.damage.new.grid c.if-count-gt0.grid
          c.damage_of-count.ensures w.grid-is w.damage.ensures.turned
      | else-count-gt0 w ↦ damaged_by c.args.symbol.size 0 c.args.symbol.held c.args.symbol.grid c.args.symbol.grid c.if-count-gt0.grid
          (let none : 0 ≡ c.damage_of-count.result = omega (arith, w.if-count-gt0.false) in none ∙ c.damage_of-count.ensures) w.grid-is
          (first_bits_none c.args.symbol.size (codewords_of c.args.symbol.size / 0) c.args.symbol.grid)
    ]

pub returns-clause-near : goal.returns-clause-near
returns-clause-near c = λ codewords shown.
    elim c.if-count-gt0.branch [
      | then-count-gt0 w ↦ near_by c.args.symbol.size c.damage_of-count.result c.args.symbol.held w.damage.new.grid c.if-count-gt0.grid codewords
          c.damage_of-count.ensures w.grid-is (w.damage.ensures.near codewords shown)
      | else-count-gt0 w ↦ near_by c.args.symbol.size 0 c.args.symbol.held c.args.symbol.grid c.if-count-gt0.grid codewords
          (let none : 0 ≡ c.damage_of-count.result = omega (arith, w.if-count-gt0.false) in none ∙ c.damage_of-count.ensures) w.grid-is
          (near_none c.args.symbol.size c.args.symbol.grid codewords shown)
    ]
