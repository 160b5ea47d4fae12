use Rattle.std.proofs.Common.{◌≡◌, ◌++◌, take}
use Rattle.zint_read.specs.ReadReport.{body_text, escaped_bytes}
use Rattle.zint_read.proofs.message_lines.put_body.Given as goal

-- the elements so far were put, the bytes that wait behind what was
abbrev pub invariant-loop-element : goal.invariant-loop-element
invariant-loop-element l =
    l.report.items ++ escaped_bytes l.bytes.items ≡ l.initial.report.items ++ body_text (take l.element-index l.body)
