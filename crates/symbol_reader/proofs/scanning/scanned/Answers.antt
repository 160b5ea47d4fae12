use Rattle.std.proofs.Common.{◌<◌, sym, length, arith}
use Rattle.std.proofs.lemmas.List.{take_more}
use Rattle.symbol_reader.proofs.OpenTexts.{scanned_more, scanned_start}
use Rattle.symbol_reader.proofs.TextEnds.{bad_byte}
use Rattle.symbol_reader.proofs.scanning.scanned.Goals as goal

pub loop-at-init : goal.loop-at-init
loop-at-init c = scanned_start

pub returns-in-None-clause-bad : goal.returns-in-None-clause-bad
returns-in-None-clause-bad c =
    let inside : c.loop-at.at < length c.args.bytes.now = omega (arith, c.loop-at-test.true) in
    bad_byte c.args.bytes.now c.loop-at.at _ c.loop-at.scan c.loop-at.invariant inside (sym c.in-None.ensures.step) (take_more c.args.bytes.now c.loop-at.at 0 inside)

pub loop-at-preserved : goal.loop-at-preserved
loop-at-preserved c =
    let inside : c.loop-at.at < length c.args.bytes.now = omega (arith, c.loop-at-test.true) in
    scanned_more c.loop-at.scan c.in-Some.next _ _ _ c.loop-at.invariant (sym c.in-Some.ensures.step) c.in-Some.ensures.how (take_more c.args.bytes.now c.loop-at.at 0 inside)
