use Rattle.std.proofs.Common.{sym, arith, length, take, subst}
use Rattle.std.proofs.lemmas.List.{take_all}
use Rattle.rs_decode.specs.Syndromes.{AreSyndromes}
use Rattle.rs_decode.proofs.FedSyndromes.{syndromes_none, syndromes_more}
use Rattle.rs_decode.proofs.Loops.{take_next}
use Rattle.rs_decode.proofs.syndromes.find_syndromes.Goals as goal

pub loop-element-init : goal.loop-element-init
loop-element-init g c = syndromes_none g.met.F.Field.laws c.clear.new.list (length c.args.syndromes.now) c.clear.ensures

pub loop-element-preserved : goal.loop-element-preserved
loop-element-preserved g c =
    subst (λ l. AreSyndromes g.F.Field.nought g.F.Field.plus g.F.Field.times g.F.Field.power l c.feed.new.syndromes)
    (sym (take_next c.args.word.now c.loop-element.element-index c.element-item.result (omega arith) c.element-item.is))
    (syndromes_more g.met.F.Field.laws (take c.loop-element.element-index c.args.word.now) c.element-item.result c.loop-element.syndromes c.feed.new.syndromes c.loop-element.invariant c.feed.ensures)

pub returns : goal.returns
returns g c =
    subst (λ l. AreSyndromes g.F.Field.nought g.F.Field.plus g.F.Field.times g.F.Field.power l c.loop-element.syndromes)
    (take_all c.loop-element.element-index c.args.word.now (omega arith)) c.loop-element.invariant
