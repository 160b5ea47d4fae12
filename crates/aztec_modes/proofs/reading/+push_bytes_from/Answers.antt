use Rattle.std.proofs.Common.{refl, sym, ap, ◌∙◌, ◌+◌, arith, drop}
use Rattle.aztec_modes.proofs.NumbersAhead.{drop_on, some_left}
use Rattle.aztec_modes.proofs.ReadingSteps.{bytes_put}
use Rattle.aztec_modes.proofs.reading.+push_bytes_from.Goals as goal

pub returns : goal.returns
returns t c =
    bytes_put c.args.elements.now c.push.new.self c.push_bytes_from.new.elements (drop c.args.at c.args.bits.now) (drop (c.args.at + 8) c.args.bits.now) c.args.count c.number_from.result
    (some_left c.args.count c.if-count-eq0.false) c.number_from.ensures.number (drop_on c.args.bits.now c.args.at 8)
    c.in_ok-push.ensures.pushed c.in_ok-push_bytes_from.ensures
