use Rattle.std.proofs.Common.{◌==◌, ◌∙◌, sym}
use Rattle.gs1_check.proofs.Places.{none_first}
use Rattle.gs1_check.proofs.parsing.place_of.Goals as goal

pub returns-in-None-clause-place : goal.returns-in-None-clause-place
returns-in-None-clause-place c = none_first (λ d. d == c.args.mark) c.args.bytes.now (sym c.first_of.ensures.place ∙ c.in-None.is)
