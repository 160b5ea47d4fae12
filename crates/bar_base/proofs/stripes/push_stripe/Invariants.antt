use Rattle.std.proofs.Common.{◌≡◌, ◌++◌, replicate}
use Rattle.bar_base.proofs.stripes.push_stripe.Given as goal

abbrev pub invariant-loop : goal.invariant-loop
invariant-loop l = l.modules.items ≡ l.initial.modules.items ++ replicate l.counter l.dark
