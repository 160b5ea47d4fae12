use Rattle.std.proofs.Common.{◌≡◌, ◌≤◌, rules, true, false, arith}
use Rattle.symbol_reader.specs.Scanning.{can_end_text}
use Rattle.symbol_reader.proofs.TextEnds.{bad_end, ends_between, ends_after_row}
use Rattle.symbol_reader.proofs.scanning.sides.Goals as goal

pub returns-then-not-can_end-clause-bad : goal.returns-then-not-can_end-clause-bad
returns-then-not-can_end-clause-bad c =
    let not_yet : can_end_text c.in-Ok.scan ≡ false = search rules in
    bad_end c.args.bytes.now c.in-Ok.scan c.in-Ok.ensures.scanned not_yet

pub returns-then-scan-eq0-clause-good : goal.returns-then-scan-eq0-clause-good
returns-then-scan-eq0-clause-good c =
    let ends : can_end_text c.in-Ok.scan ≡ true = search rules in
    ends_between c.args.bytes.now c.in-Ok.scan c.in-Ok.ensures.scanned ends c.if-scan-eq0.true

pub returns-clause-good : goal.returns-clause-good
returns-clause-good c =
    let ends : can_end_text c.in-Ok.scan ≡ true = search rules in
    let some : 1 ≤ c.in-Ok.scan.column = omega (arith, c.if-scan-eq0.false) in
    ends_after_row c.args.bytes.now c.in-Ok.scan c.in-Ok.ensures.scanned ends some
