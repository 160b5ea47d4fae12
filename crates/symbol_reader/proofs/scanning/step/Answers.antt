use Rattle.std.proofs.Common.{◌≡◌, ◌∙◌, sym, subst, true, inl, inr, rules}
use Rattle.symbol_reader.specs.declared.scanning.Scan.{Scan}
use Rattle.symbol_reader.specs.Scanning.{TakesByte, takes_feed, takes_module, takes_line_feed, takes_return, is_whole_line}
use Rattle.symbol_reader.proofs.scanning.step.Goals.{then-byte-eq48-via-then-byte-eq48, then-byte-eq48-via-else-byte-eq48+then-byte-eq49}
use Rattle.symbol_reader.proofs.scanning.step.Goals as goal

pub returns-then-byte-eq10-clause-how : goal.returns-then-byte-eq10-clause-how
returns-then-byte-eq10-clause-how c =
    subst (λ (s : Scan). TakesByte c.args.scan c.args.byte s) (sym c.next_line.ensures) (takes_feed c.if-scan.true c.if-byte-eq10.true)

pub returns-then-byte-eq48-clause-how : goal.returns-then-byte-eq48-clause-how
returns-then-byte-eq48-clause-how c =
    takes_module c.if-scan.false
    (elim c.then-byte-eq48.branch [
      | then-byte-eq48-via-then-byte-eq48 w ↦ inl w.if-byte-eq48.true
      | then-byte-eq48-via-else-byte-eq48+then-byte-eq49 w ↦ inr w.if-byte-eq49.true
    ])
    (sym c.is_full.ensures ∙ c.if-is_full.false)

pub returns-then-byte-eq10-2-clause-how : goal.returns-then-byte-eq10-2-clause-how
returns-then-byte-eq10-2-clause-how c =
    let whole : is_whole_line c.args.scan ≡ true = search rules in
    subst (λ (s : Scan). TakesByte c.args.scan c.args.byte s) (sym c.next_line-then-byte-eq10-2.ensures) (takes_line_feed c.if-scan.false whole c.if-byte-eq10-2.true)

pub returns-then-byte-eq13-clause-how : goal.returns-then-byte-eq13-clause-how
returns-then-byte-eq13-clause-how c =
    let whole : is_whole_line c.args.scan ≡ true = search rules in
    takes_return c.if-scan.false whole c.if-byte-eq13.true
