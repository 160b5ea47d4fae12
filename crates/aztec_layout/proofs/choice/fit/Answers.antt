use Rattle.aztec_layout.proofs.FittingLemmas.{no_fit_of, smallest_of}
use Rattle.aztec_layout.proofs.choice.fit.Goals as goal

pub returns-in-Some-clause-smallest : goal.returns-in-Some-clause-smallest
returns-in-Some-clause-smallest c = smallest_of _ c.bounded_needs.result _ _ c.bounded_needs.ensures c.in-Some.ensures.first

pub returns-in-None-clause-none : goal.returns-in-None-clause-none
returns-in-None-clause-none c =
    no_fit_of _ c.bounded_needs.result _ _ c.bounded_needs.ensures c.in-None.ensures.none c.no_fit.ensures.last c.no_fit.ensures.takes c.no_fit.ensures.held
