use Rattle.std.proofs.Common.{◌≡◌, take}
use Rattle.aztec_modes.proofs.splitting.rest_from.Given as goal

abbrev pub invariant-loop-element : goal.invariant-loop-element
invariant-loop-element l = l.rest ≡ take l.element-index l.element-items
