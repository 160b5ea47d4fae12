use Rattle.std.proofs.Common.{◌≡◌, ◌∙◌, ◌+◌, ap, sym, arith, get_or, ℕ}
use Rattle.std.proofs.lemmas.List.{get_or_read_under}
use Rattle.rs_decode.proofs.Loops.{written_more}
use Rattle.rs_decode.proofs.syndromes.feed.Goals as goal

pub loop-k-preserved : goal.loop-k-preserved
loop-k-preserved g c =
    let held : c.index-syndromes-k.result ≡ get_or c.args.syndromes.now c.loop-k.k g.F.Field.nought =
    get_or_read_under c.loop-k.syndromes c.loop-k.k _ c.index-syndromes-k.result g.F.Field.nought c.index-syndromes-k.is c.loop-k-test.true (sym c.loop-k.auto.syndromes) ∙ c.loop-k.invariant.rest c.loop-k.k (omega arith) in
    let more : _ = written_more (λ (i : ℕ) x. x ≡ g.F.Field.plus c.args.element (g.F.Field.times (get_or c.args.syndromes.now i g.F.Field.nought) (g.F.Field.power (i + 1))))
    c.args.syndromes.now c.loop-k.syndromes g.F.Field.nought c.loop-k.k c.add.result (omega arith) c.loop-k.invariant.done c.loop-k.invariant.rest
    (c.add.ensures ∙ ap (g.F.Field.plus c.args.element) (c.times_power.ensures ∙ ap (λ x. g.F.Field.times x (g.F.Field.power (c.loop-k.k + 1))) held)) in
    record { done = more.0; rest = more.1 }
