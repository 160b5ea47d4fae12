use Rattle.std.proofs.Common.{◌≡◌, ◌≢◌, ◌<◌, ◌≤◌, ℕ, get_or}
use Rattle.rs_decode.proofs.errors.divide.Given as goal

abbrev pub invariant-loop-i : goal.invariant-loop-i
invariant-loop-i g l =
    record {
      done : (k : ℕ) (other : g.row.F.Denot) → k < l.i →
          g.F.Field.plus (g.F.Field.power (get_or l.places k 0)) (g.F.Field.power l.place) ≢ g.F.Field.nought →
          g.F.Field.times (get_or l.values k other) (g.F.Field.plus (g.F.Field.power (get_or l.places k 0)) (g.F.Field.power l.place)) ≡ get_or l.initial.values k other;
      rest : (k : ℕ) (other : g.row.F.Denot) → l.i ≤ k → get_or l.values k other ≡ get_or l.initial.values k other;
    }
