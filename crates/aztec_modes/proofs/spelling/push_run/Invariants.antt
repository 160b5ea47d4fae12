use Rattle.std.proofs.Common.{◌≡◌, ◌++◌, take}
use Rattle.aztec_modes.specs.Entry.{element_bits}
use Rattle.aztec_modes.proofs.spelling.push_run.Given as goal

abbrev pub invariant-loop-element : goal.invariant-loop-element
invariant-loop-element l = l.bits ≡ l.fn.bits ++ element_bits (take l.element-index l.elements)
