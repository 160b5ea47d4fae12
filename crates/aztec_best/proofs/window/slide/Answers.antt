use Rattle.std.proofs.Common.{arith}
use Rattle.aztec_best.specs.Lows.{lows_at}
use Rattle.aztec_best.proofs.LowLaws.{window_on, window_least}
use Rattle.aztec_best.proofs.window.slide.Goals as goal

pub returns-then-begins_anew-clause-lows : goal.returns-then-begins_anew-clause-lows
unfolding lows_at
returns-then-begins_anew-clause-lows c = c.refill.ensures c.args.top c.requires.keys.some (omega arith)

pub returns-clause-lows : goal.returns-clause-lows
unfolding lows_at
returns-clause-lows c =
    window_least c.args.costs.now c.args.stored.now c.args.low c.args.top _ c.lower_of.result
    (window_on c.args.costs.now c.args.stored.now c.args.low c.args.top c.args.window.now c.keys_at.result c.lower_of-window.result
    (c.requires.goes_on (c.if-begins_anew.ensures.goes_on (cc)))
    c.keys_at.ensures.upper c.keys_at.ensures.lower c.keys_at.ensures.mixed
    c.lower_of-window.ensures.upper c.lower_of-window.ensures.lower c.lower_of-window.ensures.mixed)
    (c.if-begins_anew.ensures.kept (cc)) c.lower_of.ensures.upper c.lower_of.ensures.lower c.lower_of.ensures.mixed

pub returns-clause-window : goal.returns-clause-window
returns-clause-window c =
    window_on c.args.costs.now c.args.stored.now c.args.low c.args.top c.args.window.now c.keys_at.result c.lower_of-window.result
    (c.requires.goes_on (c.if-begins_anew.ensures.goes_on (cc)))
    c.keys_at.ensures.upper c.keys_at.ensures.lower c.keys_at.ensures.mixed
    c.lower_of-window.ensures.upper c.lower_of-window.ensures.lower c.lower_of-window.ensures.mixed
