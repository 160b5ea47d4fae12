use Rattle.std.proofs.Common.{◌+◌, ◌<◌, length}
use Rattle.aztec_best.proofs.LowLaws.{IsRefilled}
use Rattle.aztec_best.proofs.window.refill.Given as goal

abbrev pub invariant-loop-place : goal.invariant-loop-place
invariant-loop-place l = record {
  refilled : IsRefilled l.costs l.stored l.low l.place l.running;
  room : l.top < l.low + length l.stored;
}
