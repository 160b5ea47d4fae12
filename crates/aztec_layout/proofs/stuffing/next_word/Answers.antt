use Rattle.std.proofs.Common.{drop, arith}
use Rattle.aztec_layout.specs.Stuffing.{with_ones}
use Rattle.aztec_layout.proofs.StuffingLemmas.{taken_here}
use Rattle.aztec_layout.proofs.stuffing.next_word.Goals as goal

pub returns-clause-here : goal.returns-clause-here
returns-clause-here c =
    taken_here c.args.width c.number_at-number.result c.spared.result (drop c.args.at (with_ones c.args.width c.args.bits.now))
    (grind (arith, c.requires.wide)) c.number_at-number.ensures.here c.spared.ensures.front c.spared.ensures.kept
