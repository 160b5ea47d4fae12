use Rattle.std.proofs.Common.{◌∙◌}
use Rattle.symbol_reader.proofs.ModeFronts.{named_full, named_compact}
use Rattle.symbol_reader.proofs.held.named_by.Goals as goal

pub returns-then-full-clause-named : goal.returns-then-full-clause-named
returns-then-full-clause-named c = λ size held kind sized can message.
    named_full size held c.args.words.now c.word_at.result c.word_at-then-full.result c.word_at-then-full-2.result c.word_at-then-full-3.result (kind ∙ c.if-full.true) sized can message
    c.word_at.ensures.found c.word_at-then-full.ensures.found c.word_at-then-full-2.ensures.found c.word_at-then-full-3.ensures.found

pub returns-clause-named : goal.returns-clause-named
returns-clause-named c = λ size held kind sized can message.
    named_compact size held c.args.words.now c.word_at-2.result c.word_at-3.result (kind ∙ c.if-full.false) sized can message
    c.word_at-2.ensures.found c.word_at-3.ensures.found
