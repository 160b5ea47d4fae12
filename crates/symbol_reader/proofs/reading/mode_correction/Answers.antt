use Rattle.std.proofs.Common.{◌∙◌, ap, sym, length}
use Rattle.symbol_reader.proofs.reading.mode_correction.Goals as goal

pub correct-requires-clause-alike : goal.correct-requires-clause-alike
correct-requires-clause-alike c =
    ap length c.deref.ensures.value ∙ c.in_ok-lost.ensures.counted ∙ ap length (c.as_slice.ensures.same ∙ sym c.as_slice-3.ensures.same)
