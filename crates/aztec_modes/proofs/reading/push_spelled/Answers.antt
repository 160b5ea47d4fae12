use Rattle.std.proofs.Common.{refl, sym, ap, ◌∙◌, ◌+◌, arith, drop, length, Some}
use Rattle.aztec_modes.specs.Ahead.{code_ahead}
use Rattle.aztec_modes.specs.Entry.{run_head}
use Rattle.aztec_modes.proofs.ReadingSteps.{ahead_run}
use Rattle.std.proofs.lemmas.List.{length-drop}
use Rattle.aztec_modes.proofs.reading.push_spelled.Goals as goal

pub push_bytes_from-requires : goal.push_bytes_from-requires
push_bytes_from-requires c =
    omega (
      arith,
      c.run_head.ensures.is,
      ahead_run c.args.mode c.in-Run.count c.in-Run.long (drop c.args.at c.args.bits.now) (c.requires.stands ∙ ap Some c.in-Run.is),
      length-drop c.args.at c.args.bits.now,
      c.requires.within,
    )
