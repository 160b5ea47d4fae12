use Rattle.std.proofs.Common.{◌≡◌, ◌+◌, ◌^◌, ◌≤◌, drop}
use Rattle.bar_base.specs.Bits.{number_after}
use Rattle.linear_reader.proofs.modules.number_of.Given as goal

abbrev pub invariant-loop-dark : goal.invariant-loop-dark
invariant-loop-dark l = record {
  digits : number_after l.number (drop l.dark-index l.modules) ≡ number_after 0 l.modules;
  bounded : l.number + 1 ≤ 2 ^ l.dark-index;
}
