use Rattle.std.proofs.Common.{List, ℕ, ap, ◌∙◌}
use Rattle.aztec_layout.specs.ModeMessage.{word_bits}
use Rattle.aztec_layout.specs.SymbolGrid.{IsSymbolGrid, data_bits}
use Rattle.aztec_layout.proofs.DrawnLemmas.{drawn_from}
use Rattle.aztec_layout.proofs.ShownLemmas.{symbol_shows}
use Rattle.aztec_layout.proofs.SymbolLemmas.{symbol_once}
use Rattle.aztec_layout.proofs.symbol.draw.Goals as goal

pub returns : goal.returns
returns c =
    let symbol : IsSymbolGrid c.args.size c.args.held c.args.words.now c.draw_data.new.grid =
    drawn_from c.args.size c.args.held c.mode_words.result c.args.words.now c.as_slice-3.result.now c.as_slice-4.result.now c.side-side.result
    c.in_ok-grid.grid c.draw_fixed.new.grid c.draw_mode.new.grid c.draw_data.new.grid c.mode_words.ensures.message
    (c.as_slice-3.ensures.same ∙ c.in_ok-modes.ensures.bits ∙ ap (λ (ws : List ℕ). word_bits 4 ws) c.as_slice.ensures.bytes)
    (c.as_slice-4.ensures.same ∙ c.in_ok-row.ensures.bits ∙ ap (λ (ws : List ℕ). data_bits c.args.size ws) c.as_slice-2.ensures.same)
    c.side-side.ensures c.in_ok-grid.ensures.light c.draw_fixed.ensures c.draw_mode.ensures c.draw_data.ensures in
    record {
      symbol = symbol;
      only = λ other is.
          symbol_once c.args.size c.args.held c.args.words.now c.mode_words.result other c.draw_data.new.grid c.mode_words.ensures.only is symbol;
      shown = symbol_shows c.args.size c.args.held c.args.words.now c.draw_data.new.grid c.requires.sized.0 c.requires.counted symbol;
    }
