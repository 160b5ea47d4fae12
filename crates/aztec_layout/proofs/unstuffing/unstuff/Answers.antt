use Rattle.std.proofs.Common.{ℕ, List, ◌<◌, length, ap, sym, ◌∙◌, rules, arith}
use Rattle.std.specs.List.{slice_get}
use Rattle.std.proofs.lemmas.Option.{slice_get-get_or}
use Rattle.aztec_layout.proofs.StuffingLemmas.{unstuffed_more}
use Rattle.aztec_layout.proofs.unstuffing.unstuff.Goals as goal

pub loop-place-preserved : goal.loop-place-preserved
loop-place-preserved c =
    let below : c.loop-place.place < length c.as_slice-word-items.result.now = omega arith in
    unstuffed_more c.args.width c.args.words.now c.loop-place.place _ c.loop-place.bits c.push_taken.new.bits c.loop-place.invariant
    (ap (λ (ws : List ℕ). slice_get ws c.loop-place.place) (sym c.as_slice-word-items.ensures.same)
    ∙ slice_get-get_or c.as_slice-word-items.result.now c.loop-place.place 0 below)
    (search rules) c.in_ok-push_taken.ensures
