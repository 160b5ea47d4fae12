use Rattle.std.proofs.Common.{◌≡◌, ◌≢◌, ◌∙◌, sym, arith, get_or, ℕ, refl}
use Rattle.std.proofs.lemmas.List.{get_or_read_under}
use Rattle.rs_decode.proofs.Loops.{written_more}
use Rattle.rs_decode.proofs.errors.divide.Goals as goal

pub loop-i-preserved : goal.loop-i-preserved
loop-i-preserved g c =
    let divisor : c.add.result ≡ g.F.Field.plus (g.F.Field.power (get_or c.args.places.now c.loop-i.i 0)) (g.F.Field.power c.args.place) =
    c.add.ensures ∙ rw (c.power_at.ensures, c.power_at-root.ensures) refl in
    let more : (other : g.row.F.Denot) → _ = λ other.
    written_more (λ (k : ℕ) x. g.F.Field.plus (g.F.Field.power (get_or c.args.places.now k 0)) (g.F.Field.power c.args.place) ≢ g.F.Field.nought →
    g.F.Field.times x (g.F.Field.plus (g.F.Field.power (get_or c.args.places.now k 0)) (g.F.Field.power c.args.place)) ≡ get_or c.args.values.now k other)
    c.args.values.now c.loop-i.values other c.loop-i.i c.quotient.result (omega arith) (λ k below. c.loop-i.invariant.done k other below) (λ k above. c.loop-i.invariant.rest k other above)
    (λ some. rw (← divisor) (c.quotient.ensures (λ e. some (sym divisor ∙ e))) ∙
    get_or_read_under c.loop-i.values c.loop-i.i _ c.index-values-i.result other c.index-values-i.is c.loop-i-test.true (sym c.loop-i.auto.values) ∙ c.loop-i.invariant.rest c.loop-i.i other (omega arith)) in
    record {
      done = λ k other below some. (more other).0 k below some;
      rest = λ k other above. (more other).1 k above;
    }
