use Rattle.std.proofs.Common.{◌≡◌, length, map, take}
use Rattle.rs_encode.proofs.numbers.write_numbers.Given as goal

abbrev pub invariant-loop-place : goal.invariant-loop-place
invariant-loop-place g l = record {
  room : length l.numbers ≡ length l.initial.numbers;
  done : take l.place l.numbers ≡ map g.F.Field.value (take l.place l.elements);
}
