use Rattle.aztec_best.proofs.Small.{filled_through}
use Rattle.aztec_best.proofs.cheapest.if_cheapest.Goals as goal

pub bits_through-requires-clause-filled : goal.bits_through-requires-clause-filled
bits_through-requires-clause-filled c = filled_through _ _ _ c.requires.filled
