use Rattle.galois.proofs.StepLemmas.{masked-is}
use Rattle.galois.proofs.arithmetic.masked.Goals as goal

pub returns : goal.returns
returns c = masked-is c.args.number c.args.bit c.ranges.number.fits c.requires
