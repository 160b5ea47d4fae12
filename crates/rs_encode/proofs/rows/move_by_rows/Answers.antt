use Rattle.std.proofs.Common.{◌∙◌, ◌+◌, ◌/◌, ◌%◌, ℕ, drop, ap, sym, arith}
use Rattle.galois.proofs.TableLaws.{order_few}
use Rattle.rs_encode.specs.Division.{moved}
use Rattle.rs_encode.proofs.RowLemmas.{row_low, row_middle, row_high}
use Rattle.rs_encode.proofs.rows.move_by_rows.Goals as goal

pub add_rows-requires-clause-c : goal.add_rows-requires-clause-c
add_rows-requires-clause-c g c = omega (arith, c.number-number.ensures, order_few g.met.F.Field.size, g.met.F.Field.numbering.within c.args.factor)

pub add_rows-requires-clause-in_a : goal.add_rows-requires-clause-in_a
add_rows-requires-clause-in_a g c = λ i within. (c.requires.rows.each (c.number-number.result % 16) (omega arith)).below i (omega (arith, within, c.requires.alike))

pub add_rows-requires-clause-in_b : goal.add_rows-requires-clause-in_b
add_rows-requires-clause-in_b g c = λ i within. (c.requires.rows.each (16 + c.number-number.result / 16 % 16) (omega arith)).below i (omega (arith, within, c.requires.alike))

pub add_rows-requires-clause-in_c : goal.add_rows-requires-clause-in_c
add_rows-requires-clause-in_c g c = λ i within.
    (c.requires.rows.each (32 + c.number-number.result / 256) (omega (arith, c.number-number.ensures, order_few g.met.F.Field.size, g.met.F.Field.numbering.within c.args.factor))).below i
    (omega (arith, within, c.requires.alike))

pub returns-then-is_split : goal.returns-then-is_split
returns-then-is_split g c =
    let (x, y, z, is_x, is_y, is_z, sum) = c.if-is_split.ensures in
    let n : ℕ = c.number-number.result in
    c.add_rows.ensures x y z c.args.exponents.now c.requires.alike
    ((c.requires.rows.each (n % 16) (omega arith)).products x (is_x ∙ sym (row_low (n % 16) (omega arith))))
    ((c.requires.rows.each (16 + n / 16 % 16) (omega arith)).products y (is_y ∙ sym (row_middle (n / 16 % 16) (omega arith))))
    ((c.requires.rows.each (32 + n / 256) (omega (arith, c.number-number.ensures, order_few g.met.F.Field.size, g.met.F.Field.numbering.within c.args.factor))).products z
    (is_z ∙ sym (row_high (n / 256))))
    ∙ ap (λ f. moved g.F.Field.plus g.F.Field.times g.F.Field.power f (drop 1 c.args.registers.now) c.args.exponents.now) sum
