use Rattle.std.proofs.Common.{ℕ, ◌≡◌, arith}
use Rattle.bar_base.specs.Picture.{module_at}
use Rattle.aztec_layout.specs.Core.{mode_place, mode_run}
use Rattle.aztec_layout.specs.CoreReading.{middle_of}
use Rattle.aztec_layout.proofs.ReadLemmas.{mode_words_once, read_all, read_words_more}
use Rattle.aztec_layout.proofs.core_reading.mode_read.Goals as goal

pub loop-place-preserved : goal.loop-place-preserved
loop-place-preserved c =
    read_words_more
    (λ (t : ℕ). module_at c.args.grid.now (mode_place c.args.full (middle_of c.args.grid.now) t).0
    (mode_place c.args.full (middle_of c.args.grid.now) t).1)
    c.loop-place.place c.mode_word.result c.loop-place.words c.push.new.self c.loop-place.invariant c.mode_word.ensures.below
    c.mode_word.ensures.bits c.push.ensures.pushed

pub returns-clause-only : goal.returns-clause-only
returns-clause-only c = λ others shown.
    mode_words_once c.args.full c.args.grid.now others c.loop-place.words shown
    (read_all c.args.full c.args.grid.now c.loop-place.place c.loop-place.words
    (let e : c.loop-place.place ≡ mode_run c.args.full = omega (arith, c.mode_run-place-end.ensures) in e) c.loop-place.invariant)
