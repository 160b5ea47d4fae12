use Rattle.std.proofs.Common.{◌≡◌, ◌≤◌, ◌-◌, length, drop}
use Rattle.galois.specs.Locator.{beside_lost, locator_value}
use Rattle.rs_decode.specs.Search.{terms_at, AreSearched}
use Rattle.rs_decode.proofs.search.find_places.Given as goal

abbrev pub invariant-loop-place : goal.invariant-loop-place
invariant-loop-place g l =
    record {
      terms : l.terms ≡ terms_at g.F.Field.times g.F.Field.power l.initial.terms l.place;
      fewer : l.count ≤ l.place;
      places : AreSearched g.F.Field.nought g.F.Field.times g.F.Field.power
          (beside_lost g.F.Field.nought (length l.initial.places) l.lost (locator_value g.F.Field.nought g.F.Field.plus g.F.Field.times g.F.Field.power l.initial.terms)) l.place (drop (length l.places - l.count) l.places);
    }
