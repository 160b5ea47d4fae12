use Rattle.std.proofs.Common.{subst, ap, ◌∙◌}
use Rattle.bar_base.specs.Results.{Gives}
use Rattle.bmp_io.specs.ReadBmp.{picture_by, picture_of}
use Rattle.bmp_io.specs.Refusals.{bmp_refusal}
use Rattle.bmp_io.proofs.ReadBack.{read_back}
use Rattle.bmp_io.proofs.reading.read_bmp.Goals as goal

pub returns-clause-back : goal.returns-clause-back
returns-clause-back c = λ picture symbol same.
    subst (Gives bmp_refusal (λ grid. grid) c.read.result) (ap (picture_of c.args.paint) same ∙ read_back c.args.paint picture c.requires symbol) (subst (λ s. Gives bmp_refusal (λ grid. grid) c.read.result (picture_by s c.args.bytes.now)) c.sampling_of.ensures.sampling c.read.ensures.gives)
