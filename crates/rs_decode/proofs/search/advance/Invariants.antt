use Rattle.std.proofs.Common.{◌≡◌, ◌++◌, take, drop}
use Rattle.rs_decode.specs.Search.{next_terms}
use Rattle.rs_decode.proofs.search.advance.Given as goal

abbrev pub invariant-loop-i : goal.invariant-loop-i
invariant-loop-i g l =
    take l.i l.terms ++ next_terms g.F.Field.times g.F.Field.power (drop l.i l.terms) ≡ next_terms g.F.Field.times g.F.Field.power l.initial.terms
