use Rattle.std.proofs.Common.{◌∙◌, ap, sym, subst}
use Rattle.bar_base.specs.Picture.{Picture}
use Rattle.aztec_layout.specs.DataReading.{AreCodewords}
use Rattle.symbol_reader.specs.Sight.{lost_between}
use Rattle.symbol_reader.proofs.lost_words.lost_codewords.Goals as goal

pub returns-then-seen-clause-seen : goal.returns-then-seen-clause-seen
returns-then-seen-clause-seen c = record {
  shown = c.requires.shown;
  others = c.args.words.now;
  shown_dark = subst (λ (dark : Picture). AreCodewords c.args.size dark c.args.words.now) (sym (c.args.seen.now.same c.if-seen.true)) c.requires.shown;
  lost_are = c.in_ok-lost.ensures.lost;
}

pub returns-clause-seen : goal.returns-clause-seen
returns-clause-seen c = record {
  shown = c.requires.shown;
  others = c.in_ok-others.others;
  shown_dark = c.in_ok-others.ensures.words;
  lost_are = c.in_ok-lost-2.ensures.lost ∙ ap (lost_between c.args.words.now) c.as_slice.ensures.same;
}
