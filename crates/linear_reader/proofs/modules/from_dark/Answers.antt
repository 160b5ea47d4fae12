use Rattle.std.proofs.Common.{◌∙◌}
use Rattle.linear_reader.proofs.RowLaws.{light_more, dark_found, all_light}
use Rattle.linear_reader.proofs.modules.from_dark.Goals as goal

pub returns-then-dark-clause-modules : goal.returns-then-dark-clause-modules
returns-then-dark-clause-modules c = c.behind.ensures ∙ dark_found c.args.modules.now _ c.loop-place.place c.loop-place-test.true c.if-dark.true c.loop-place.invariant

pub loop-place-preserved : goal.loop-place-preserved
loop-place-preserved c = light_more c.args.modules.now _ c.loop-place.place c.loop-place-test.true c.if-dark.false c.loop-place.invariant

pub returns-clause-modules : goal.returns-clause-modules
returns-clause-modules c = c.behind-2.ensures ∙ all_light c.args.modules.now _ c.loop-place.place c.loop-place-test.false c.loop-place.invariant
