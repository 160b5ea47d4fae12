use Rattle.std.proofs.Common.{arith, refl}
use Rattle.symbol_reader.proofs.held.held_in.Goals as goal

pub returns-then-most_held-held-clause-none : goal.returns-then-most_held-held-clause-none
returns-then-most_held-held-clause-none c = λ held can message.
    omega (arith, c.named_by-held.ensures.named c.args.size held refl c.requires can message, c.most_held.ensures.most held can, c.if-most_held-held.true)
