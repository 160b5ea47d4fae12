use Rattle.std.proofs.Common.{◌≡◌, ◌+◌, ◌<◌, ◌≤◌, ℕ, get_or}
use Rattle.rs_decode.proofs.syndromes.feed.Given as goal

abbrev pub invariant-loop-k : goal.invariant-loop-k
invariant-loop-k g l =
    record {
      done : (i : ℕ) → i < l.k → get_or l.syndromes i g.F.Field.nought ≡ g.F.Field.plus l.element (g.F.Field.times (get_or l.initial.syndromes i g.F.Field.nought) (g.F.Field.power (i + 1)));
      rest : (i : ℕ) → l.k ≤ i → get_or l.syndromes i g.F.Field.nought ≡ get_or l.initial.syndromes i g.F.Field.nought;
    }
