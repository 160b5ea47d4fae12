use Rattle.std.proofs.Common.{true, ap, ◌∙◌}
use Rattle.std.specs.Prelude.{unwrap_or}
use Rattle.std.proofs.lemmas.Option.{unwrap_or-slice_get}
use Rattle.aztec_layout.proofs.stuffing.bit_or_one.Goals as goal

pub returns-in-None : goal.returns-in-None
returns-in-None c = ap (λ o. unwrap_or o true) c.in-None.ensures.found ∙ unwrap_or-slice_get c.args.bits.now c.args.at true
