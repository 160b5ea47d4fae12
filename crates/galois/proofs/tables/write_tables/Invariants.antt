use Rattle.std.proofs.Common.{◌≡◌}
use Rattle.galois.specs.Tables.{AreTables}
use Rattle.galois.proofs.tables.write_tables.Given as goal

abbrev pub invariant-loop-exponent : goal.invariant-loop-exponent
invariant-loop-exponent g l = record {
  power_is : l.power ≡ g.F.Field.power l.exponent;
  are : AreTables g.F.Field.value g.F.Field.power g.F.Field.ORDER l.exponent l.powers l.exponents;
}
