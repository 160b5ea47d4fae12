use Rattle.std.proofs.Common.{◌≡◌, ◌+◌, ◌*◌, ◌≤◌, ◌++◌, take}
use Rattle.arrayvec.specs.ArrayVec.{array_vec_len}
use Rattle.zint_answers.specs.Report.{spaced_text}
use Rattle.zint_answers.proofs.symbol_fault.put_spaced_bytes.Given as goal

-- the numbers so far were put, each in at most 4 bytes
abbrev pub invariant-loop-number : goal.invariant-loop-number
invariant-loop-number l =
    (l.detail.items ≡ l.initial.detail.items ++ spaced_text (take l.number-index l.numbers))
    × (array_vec_len l.detail ≤ array_vec_len l.initial.detail + 4 * l.number-index)
