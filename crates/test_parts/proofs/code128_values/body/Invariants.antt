use Rattle.std.proofs.Common.{◌≤◌, length, All}
use Rattle.code128_best.specs.Spelling.{IsCode128Element}
use Rattle.test_parts.proofs.code128_values.body.Given as goal

abbrev pub invariant-loop-byte : goal.invariant-loop-byte
invariant-loop-byte l = record {
  some : l.byte-index ≤ length l.elements;
  spelled : All IsCode128Element l.elements;
}
