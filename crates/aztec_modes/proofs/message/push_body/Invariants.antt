use Rattle.std.proofs.Common.{◌≡◌, ◌++◌, take}
use Rattle.aztec_modes.proofs.message.push_body.Given as goal

abbrev pub invariant-loop-element : goal.invariant-loop-element
invariant-loop-element l = l.elements ≡ l.fn.elements ++ take l.element-index l.element-items
