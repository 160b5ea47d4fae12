use Rattle.std.proofs.Common.{◌∙◌, sym, ap, arith}
use Rattle.std.proofs.lemmas.List.{length-set}
use Rattle.galois.proofs.TableLaws.{tables_none, tables_more}
use Rattle.galois.proofs.tables.write_tables.Goals as goal

pub loop-exponent-init : goal.loop-exponent-init
loop-exponent-init g c = record {
  power_is = c.one-power.ensures ∙ sym g.met.F.Field.laws.power_zero;
  are = tables_none g.met.F.Field.laws g.F.Field.value g.met.F.Field.numbering _ _ c.requires.powers c.requires.exponents;
}

pub bounds-powers-exponent : goal.bounds-powers-exponent
bounds-powers-exponent g c = omega (arith, c.ORDER-exponent-end.ensures, c.loop-exponent-test.true, c.loop-exponent.invariant.are.powers_long)

pub bounds-powers-ORDER : goal.bounds-powers-ORDER
bounds-powers-ORDER g c =
    omega (
      arith,
      c.ORDER.ensures,
      c.ORDER-exponent-end.ensures,
      c.loop-exponent-test.true,
      c.loop-exponent.invariant.are.powers_long,
      length-set c.loop-exponent.powers c.loop-exponent.exponent c.number-number.result,
    )

pub bounds-exponents-number : goal.bounds-exponents-number
bounds-exponents-number g c =
    omega (arith, c.number-number.ensures, c.loop-exponent.invariant.are.exponents_long, g.met.F.Field.numbering.within c.loop-exponent.power)

pub loop-exponent-preserved : goal.loop-exponent-preserved
loop-exponent-preserved g c = record {
  power_is = let next = g.met.F.Field.laws.power_next c.loop-exponent.exponent in cc (next, c.mul-power.ensures, c.alpha-alpha.ensures, c.loop-exponent.invariant.power_is);
  are = rw c.ORDER.ensures (tables_more g.met.F.Field.laws g.F.Field.value g.met.F.Field.numbering c.loop-exponent.exponent c.number-number.result c.loop-exponent.powers c.loop-exponent.exponents
      (omega (arith, c.loop-exponent-test.true, c.ORDER-exponent-end.ensures))
      (c.number-number.ensures ∙ ap g.F.Field.value c.loop-exponent.invariant.power_is) c.loop-exponent.invariant.are);
}
