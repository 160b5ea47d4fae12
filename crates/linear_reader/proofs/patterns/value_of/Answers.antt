use Rattle.std.proofs.Common.{◌==◌, ◌∙◌, sym, arith, eq-eqb, ne_eqb}
use Rattle.linear_reader.specs.Patterns.{value_of, value_pattern, pattern_count}
use Rattle.linear_reader.proofs.Searches.{first_more, first_found, first_none}
use Rattle.linear_reader.proofs.patterns.value_of.Goals as goal

pub returns-then-value_pattern-number-clause-value : goal.returns-then-value_pattern-number-clause-value
unfolding value_of
returns-then-value_pattern-number-clause-value c =
    first_found (λ value. value_pattern c.args.symbology value == c.args.number) (pattern_count c.args.symbology) c.loop-value.value _
    (omega (arith, c.pattern_count-value-end.ensures))
    (eq-eqb (value_pattern c.args.symbology c.loop-value.value) c.args.number (sym c.value_pattern.ensures ∙ c.if-value_pattern-number.true))
    c.loop-value.invariant

pub loop-value-preserved : goal.loop-value-preserved
loop-value-preserved c =
    first_more (λ value. value_pattern c.args.symbology value == c.args.number) (pattern_count c.args.symbology) c.loop-value.value _
    (omega (arith, c.pattern_count-value-end.ensures))
    (ne_eqb (value_pattern c.args.symbology c.loop-value.value) c.args.number (λ same. c.if-value_pattern-number.false (c.value_pattern.ensures ∙ same)))
    c.loop-value.invariant

pub returns-clause-value : goal.returns-clause-value
unfolding value_of
returns-clause-value c =
    first_none (λ value. value_pattern c.args.symbology value == c.args.number) (pattern_count c.args.symbology) c.loop-value.value _
    (omega (arith, c.pattern_count-value-end.ensures)) c.loop-value.invariant
