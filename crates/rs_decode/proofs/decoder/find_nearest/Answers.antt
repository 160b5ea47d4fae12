use Rattle.std.proofs.Common.{◌≡◌, ◌≤◌, ◌∙◌, ◌+◌, ◌-◌, ◌/◌, sym, ap, arith, length, drop, take, List, ℕ}
use Rattle.std.proofs.lemmas.List.{length-drop}
use Rattle.galois.specs.CheckWord.{lost_count, word_sum}
use Rattle.galois.specs.Locator.{IsFalling}
use Rattle.rs_decode.specs.Values.{IsErrorAt, power_sums}
use Rattle.rs_decode.proofs.Slices.{rest_of}
use Rattle.rs_decode.proofs.Nearest.{nearest_is}
use Rattle.rs_decode.proofs.decoder.find_nearest.Goals as goal

pub returns-clause-only : goal.returns-clause-only
returns-clause-only g c = λ other near.
    let count : ℕ = c.find_errors-count.result in
    let start : ℕ = length c.find_errors-count.new.places - c.find_errors-count.result in
    let places : List ℕ = drop start c.find_errors-count.new.places in
    let read : take (length c.find_errors-count.new.places - start) places ≡ places = rest_of start (length c.find_errors-count.new.places - start) c.find_errors-count.new.places (omega arith) in
    let taken : ℕ = c.lower_lost-taken.result in
    let left : List g.row.F.Denot = drop taken c.lower_lost-taken.new.syndromes in
    let same : c.copy_from_slice.new.self ≡ c.args.syndromes.now = c.copy_from_slice.ensures.after in
    let full : length c.lower_lost-taken.new.syndromes ≡ length c.args.syndromes.now = c.lower_lost-taken.auto.syndromes ∙ ap length same in
    let counted : length left + lost_count c.args.lost.now ≡ length c.args.syndromes.now =
    omega (arith, length-drop taken c.lower_lost-taken.new.syndromes, full, c.lower_lost-taken.ensures.taken, c.requires.lost) in
    let read_left : take (length c.lower_lost-taken.new.syndromes - taken) left ≡ left =
    rest_of taken (length c.lower_lost-taken.new.syndromes - taken) c.lower_lost-taken.new.syndromes (omega arith) in
    let few : count ≤ lost_count c.args.lost.now + length left / 2 = rw read_left at c.find_errors-count.ensures.few in
    let long : length places ≡ count =
    omega (arith, length-drop start c.find_errors-count.new.places, few, counted, c.find_errors-count.auto.places, c.requires.few, c.requires.places) in
    let mends : (bound : ℕ) (values error : List g.row.F.Denot) → IsFalling bound places → bound ≤ g.F.Field.ORDER →
    take count c.args.syndromes.now ≡ power_sums g.F.Field.nought g.F.Field.plus g.F.Field.times g.F.Field.power places values 0 (length places) →
    IsErrorAt g.F.Field.nought g.F.Field.times g.F.Field.power places values error → length error ≡ length c.args.word.now → c.correct_places.new.fixed ≡ word_sum g.F.Field.plus c.args.word.now error =
    rw (read, c.copy_from_slice-2.ensures.after) at c.correct_places.ensures in
    nearest_is g.met.F.Field.laws g.F.PartialEq.eq g.met.F.Field.equal c.args.word.now other c.args.syndromes.now left c.correct_places.new.fixed c.args.lost.now places
    c.requires.fits c.requires.few near c.requires.syndromes counted (rw same at c.lower_lost-taken.ensures.lowered)
    (rw (c.find_errors-count.auto.places, ← c.requires.places) (rw read_left at c.find_errors-count.ensures.places))
    (omega (arith, long, few, counted))
    (λ bound values error falling fits sums is long'. mends bound values error falling fits (ap (λ (k : ℕ). take k c.args.syndromes.now) (sym long) ∙ sums) is long')
