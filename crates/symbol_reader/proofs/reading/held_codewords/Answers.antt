use Rattle.std.proofs.Common.{◌∙◌, sym, subst, refl, List, ℕ}
use Rattle.aztec_layout.specs.ModeMessage.{IsModeMessage}
use Rattle.symbol_reader.specs.Sight.{lost_between}
use Rattle.symbol_reader.proofs.reading.held_codewords.Goals as goal

pub returns-in-None-clause-refused : goal.returns-in-None-clause-refused
returns-in-None-clause-refused c = record {
  size = c.args.size;
  found = c.requires;
  lost = lost_between c.shown_mode-words.result c.shown_mode-others.result;
  seen = record { shown = c.shown_mode-words.ensures.words; others = c.shown_mode-others.result; shown_dark = c.shown_mode-others.ensures.words; lost_are = refl };
  none = λ held mode can message. (rw (c.in-None.is, c.as_slice.ensures.bytes, c.as_slice-2.ensures.bytes) at c.in_ok-mode_correction.ensures) mode;
}

pub returns-in-None-held_in-clause-refused : goal.returns-in-None-held_in-clause-refused
returns-in-None-held_in-clause-refused c = record {
  size = c.args.size;
  found = c.requires;
  lost = lost_between c.shown_mode-words.result c.shown_mode-others.result;
  seen = record { shown = c.shown_mode-words.ensures.words; others = c.shown_mode-others.result; shown_dark = c.shown_mode-others.ensures.words; lost_are = refl };
  none = λ held mode can message near.
      let found = rw (c.in-Some.is, c.as_slice.ensures.bytes, c.as_slice-2.ensures.bytes) at c.in_ok-mode_correction.ensures in
      c.in-None-held_in.ensures.none held can
      (subst (λ (ws : List ℕ). IsModeMessage c.args.size held ws) (found.0.only mode near ∙ sym c.as_slice-in-Some.ensures.same) message);
}
