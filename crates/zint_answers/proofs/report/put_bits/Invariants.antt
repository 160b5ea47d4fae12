use Rattle.std.proofs.Common.{◌≡◌, ◌++◌, map, take}
use Rattle.bar_base.specs.GridText.{module_text}
use Rattle.zint_answers.proofs.report.put_bits.Given as goal

-- the bits so far were put
abbrev pub invariant-loop-bit : goal.invariant-loop-bit
invariant-loop-bit l = l.text.items ≡ l.initial.text.items ++ map module_text (take l.bit-index l.bits)
