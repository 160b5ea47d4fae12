use Rattle.std.proofs.Common.{List, ℕ, ap, ◌∙◌}
use Rattle.aztec_layout.specs.ModeMessage.{word_bits}
use Rattle.aztec_layout.specs.Rune.{IsRune}
use Rattle.aztec_layout.proofs.DrawnLemmas.{drawn_rune}
use Rattle.aztec_layout.proofs.SymbolLemmas.{rune_picture_once}
use Rattle.aztec_layout.proofs.rune_symbol.rune.Goals as goal

pub returns : goal.returns
returns c =
    let rune : IsRune c.args.value c.draw_mode.new.grid =
    drawn_rune c.args.value c.rune_words.result c.as_slice-2.result.now c.in_ok-grid.grid c.draw_fixed.new.grid c.draw_mode.new.grid c.rune_words.ensures.message
    (c.as_slice-2.ensures.same ∙ c.in_ok-bits.ensures.bits ∙ ap (λ (ws : List ℕ). word_bits 4 ws) (c.as_slice.ensures.bytes ∙ c.masked.ensures))
    c.in_ok-grid.ensures.light c.draw_fixed.ensures c.draw_mode.ensures in
    record {
      rune = rune;
      only = λ other is. rune_picture_once c.args.value c.rune_words.result other c.draw_mode.new.grid c.rune_words.ensures.only is rune;
    }
