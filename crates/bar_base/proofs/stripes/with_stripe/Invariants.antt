use Rattle.std.proofs.Common.{◌≡◌, ◌+◌, ◌*◌, ◌^◌, ◌≤◌, replicate}
use Rattle.bar_base.specs.Bits.{number_after}
use Rattle.bar_base.proofs.stripes.with_stripe.Given as goal

abbrev pub invariant-loop : goal.invariant-loop
invariant-loop l = record {
  digits : l.longer ≡ number_after l.number (replicate l.counter l.dark);
  bounded : l.longer + 1 ≤ (l.number + 1) * 2 ^ l.counter;
}
