use Rattle.std.proofs.Common.{◌≡◌, ◌∙◌, ◌-◌, ap, arith, drop, length, add-one, refl, ℕ}
use Rattle.std.proofs.lemmas.List.{drop_all}
use Rattle.rs_decode.specs.Search.{next_terms}
use Rattle.galois.specs.Coefficients.{total}
use Rattle.galois.specs.Locator.{beside_lost, locator_value}
use Rattle.galois.proofs.TableLaws.{order_few}
use Rattle.rs_decode.proofs.Terms.{first_terms, terms_next, terms_total}
use Rattle.rs_decode.proofs.Places.{searched_none, searched_more}
use Rattle.rs_decode.proofs.search.find_places.Goals as goal

pub loop-place-init : goal.loop-place-init
loop-place-init g c = record {
  terms = first_terms g.met.F.Field.laws c.args.terms.now;
  fewer = omega arith;
  places = searched_none g.met.F.Field.laws g.F.PartialEq.eq g.met.F.Field.equal _ _ (drop_all (length c.args.places.now - 0) c.args.places.now (omega arith));
}

pub loop-place-preserved : goal.loop-place-preserved
loop-place-preserved g c =
    let laws : _ = g.met.F.Field.laws in
    let long : ℕ = length c.args.places.now in
    let looked : ℕ → g.row.F.Denot = beside_lost g.F.Field.nought long c.args.lost.now (locator_value g.F.Field.nought g.F.Field.plus g.F.Field.times g.F.Field.power c.args.terms.now) in
    let value : total g.F.Field.nought g.F.Field.plus c.loop-place.terms ≡ locator_value g.F.Field.nought g.F.Field.plus g.F.Field.times g.F.Field.power c.args.terms.now c.loop-place.place =
    ap (total g.F.Field.nought g.F.Field.plus) c.loop-place.invariant.terms ∙ terms_total laws c.args.terms.now c.loop-place.place in
    record {
      terms = c.advance.ensures ∙ ap (next_terms g.F.Field.times g.F.Field.power) c.loop-place.invariant.terms ∙ rw (add-one c.loop-place.place) (terms_next laws c.args.terms.now c.loop-place.place);
      fewer = omega (arith, c.note-count.ensures.most, c.loop-place.invariant.fewer);
      places = searched_more laws g.F.PartialEq.eq g.met.F.Field.equal looked c.loop-place.place
          (drop (length c.loop-place.places - c.loop-place.count) c.loop-place.places) (drop (length c.note-count.new.places - c.note-count.result) c.note-count.new.places) c.value_of-value.result
          (c.value_of-value.ensures ∙ rw (c.is_lost.ensures, value) refl)
          (λ e. rw c.note-count.auto.places (c.note-count.ensures.root e)) (λ e. rw c.note-count.auto.places (c.note-count.ensures.other e)) c.loop-place.invariant.places;
    }

pub note-count-requires-clause-small : goal.note-count-requires-clause-small
note-count-requires-clause-small g c = omega (arith, order_few g.met.F.Field.size, c.requires, c.loop-place-test.true)
