use Rattle.std.proofs.Common.{◌++◌, ◌∙◌, List, ℕ, ap}
use Rattle.std.specs.Prelude.{None, codes}
use Rattle.aztec_layout.specs.Allowed.{allowed_of}
use Rattle.aztec_draw.specs.Symbol.{IsSymbolOf}
use Rattle.zint_demo.specs.Demonstration.{shows_last_symbol}
use Rattle.zint_demo.proofs.DrawnNear.{drawn_shown, near_drawn}
use Rattle.zint_demo.proofs.demonstration.with_grid.Goals as goal

pub returns-clause-given : goal.returns-clause-given
unfolding shows_last_symbol
returns-clause-given c = (
  c.in_ok-symbol.symbol,
  c.in_ok-symbol.ensures,
  (
    c.in_ok-put_text.ensures
        ∙ ap (λ (t : List ℕ). t ++ codes "grid:\n") c.in_ok-put_line.ensures,
    c.damaged-grid.ensures.damaged,
  ),
)

pub returns-clause-near : goal.returns-clause-near
returns-clause-near c =
    let s = c.in_ok-symbol.symbol in
    let is : IsSymbolOf s.spelling (allowed_of 23 None) s.size s.held s.grid = c.in_ok-symbol.ensures.symbol_of in
    record {
      symbol = s;
      drawn = c.in_ok-symbol.ensures;
      near = near_drawn s.spelling (allowed_of 23 None) s.size s.held s.grid c.damaged-grid.result is s.sized s.room c.damaged-grid.ensures.damaged
          (c.damaged-grid.ensures.near is.codewords
          (drawn_shown s.spelling (allowed_of 23 None) s.size s.held s.grid c.damaged-grid.result is s.sized s.room c.damaged-grid.ensures.damaged));
    }
