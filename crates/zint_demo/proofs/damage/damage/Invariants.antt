use Rattle.std.proofs.Common.{ℕ, List}
use Rattle.aztec_layout.specs.DataReading.{AreCodewords}
use Rattle.zint_demo.specs.Damage.{IsSpacedFirstBit, IsTurned, ShowsCodewordsNear}
use Rattle.zint_demo.proofs.damage.damage.Given as goal

abbrev pub invariant-loop-i : goal.invariant-loop-i
invariant-loop-i l = record {
  turned : IsTurned l.initial.grid l.grid (IsSpacedFirstBit l.size l.step l.i);
  near : (codewords : List ℕ) → AreCodewords l.size l.initial.grid codewords → ShowsCodewordsNear l.size l.grid codewords l.i;
}
