use Rattle.std.proofs.Common.{◌≡◌, length, map, take}
use Rattle.rs_encode.proofs.numbers.write_elements.Given as goal

abbrev pub invariant-loop-place : goal.invariant-loop-place
invariant-loop-place g l = record {
  room : length l.elements ≡ length l.initial.elements;
  done : map g.F.Field.value (take l.place l.elements) ≡ take l.place l.numbers;
}
