use Rattle.std.proofs.Common.{◌∙◌, ap, sym, arith, not, ◌++◌, ◌∷◌, [], List, Bool, ℕ, get_or, length, take}
use Rattle.std.specs.Prelude.{◌==◌}
use Rattle.std.proofs.lemmas.List.{take_all}
use Rattle.symbol_reader.specs.Sight.{lost_between}
use Rattle.symbol_reader.proofs.Sights.{length-lost_between, lost_next}
use Rattle.symbol_reader.proofs.lost_words.differing.Goals as goal

pub loop-at-preserved : goal.loop-at-preserved
loop-at-preserved c =
    c.in_ok-push.ensures.items ∙ ap (λ (bs : List Bool). bs ++ not (get_or c.args.words.now c.loop-at.at 0 == get_or c.args.others.now c.loop-at.at 0) ∷ []) c.loop-at.invariant
    ∙ sym (lost_next c.args.words.now c.args.others.now c.loop-at.at c.loop-at-test.true (omega (arith, c.loop-at-test.true, c.requires)))

pub returns-clause-counted : goal.returns-clause-counted
returns-clause-counted c =
    ap length (c.loop-at.invariant
    ∙ ap (λ (ws : List ℕ). lost_between ws (take c.loop-at.at c.args.others.now)) (take_all c.loop-at.at c.args.words.now c.loop-at-test.false)
    ∙ ap (lost_between c.args.words.now) (take_all c.loop-at.at c.args.others.now (omega (arith, c.loop-at-test.false, c.requires))))
    ∙ length-lost_between c.args.words.now c.args.others.now c.requires
