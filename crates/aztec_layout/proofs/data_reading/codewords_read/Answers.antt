use Rattle.std.proofs.Common.{ℕ, ◌+◌, ◌*◌, ap, ◌∙◌, arith}
use Rattle.aztec_layout.specs.Sizes.{lead_bits}
use Rattle.aztec_layout.proofs.ShownCodewords.{codewords_once, words_all, words_more}
use Rattle.aztec_layout.proofs.data_reading.codewords_read.Goals as goal

pub loop-k-preserved : goal.loop-k-preserved
loop-k-preserved c =
    words_more c.args.size c.args.grid.now (c.lead-first.result + c.loop-k.k * c.width.result) c.loop-k.k c.codeword_at.result c.loop-k.words c.push.new.self
    c.loop-k.invariant
    (ap (λ (n : ℕ). n + c.loop-k.k * c.width.result) c.lead-first.ensures.lead ∙ ap (λ (n : ℕ). lead_bits c.args.size + c.loop-k.k * n) c.width.ensures)
    c.codeword_at.ensures c.in_ok-push.ensures.pushed

pub returns-clause-words : goal.returns-clause-words
returns-clause-words c =
    words_all c.args.size c.args.grid.now c.loop-k.k c.loop-k.words (omega (arith, c.loop-k-test.false, c.codewords-k-end.ensures.counted))
    (omega (arith, c.loop-k.auto.k-end, c.codewords-k-end.ensures.counted)) c.loop-k.invariant

pub returns-clause-only : goal.returns-clause-only
returns-clause-only c = λ others shown.
    codewords_once c.args.grid.now c.args.size others c.loop-k.words shown
    (words_all c.args.size c.args.grid.now c.loop-k.k c.loop-k.words (omega (arith, c.loop-k-test.false, c.codewords-k-end.ensures.counted))
    (omega (arith, c.loop-k.auto.k-end, c.codewords-k-end.ensures.counted)) c.loop-k.invariant)
