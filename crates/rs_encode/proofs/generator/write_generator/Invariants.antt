use Rattle.std.proofs.Common.{◌≡◌, ◌∷◌, ◌<◌, length, get_or}
use Rattle.rs_encode.proofs.GeneratorLemmas.{AreNext}
use Rattle.rs_encode.proofs.generator.write_generator.Given as goal

abbrev pub invariant-loop-place : goal.invariant-loop-place
invariant-loop-place g l = record {
  room : length l.exponents ≡ length l.initial.exponents;
  small : l.before < g.F.Field.ORDER;
  last : l.before ≡ get_or (0 ∷ l.exponents) l.place 0;
  are : AreNext g.met.F.Field.laws (length l.initial.exponents) l.exponents l.place;
}
