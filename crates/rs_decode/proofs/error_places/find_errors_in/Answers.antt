use Rattle.std.proofs.Common.{◌≡◌, ◌+◌, ◌/◌, ◌++◌, arith, length, drop, take, get_or, List, ℕ}
use Rattle.galois.proofs.TableLaws.{order_few}
use Rattle.rs_decode.specs.Search.{AreErrorPlaces}
use Rattle.rs_decode.proofs.Slices.{take_front, taken_all}
use Rattle.rs_decode.proofs.Nearest.{count_few}
use Rattle.rs_decode.proofs.error_places.find_errors_in.Goals as goal

pub find_locator-width-requires-clause-small : goal.find_locator-width-requires-clause-small
find_locator-width-requires-clause-small g c = omega (arith, c.requires.few, c.requires.fits, order_few g.met.F.Field.size)

pub returns-clause-places : goal.returns-clause-places
returns-clause-places g c =
    let half : ℕ = length c.args.syndromes.now / 2 in
    let list : List g.row.F.Denot = c.find_locator-width.new.low_factor in
    let long : length list ≡ half + 2 =
    let e : length (take (half + 2) c.args.low_factor.now) ≡ half + 2 = taken_all c.args.low_factor.now (half + 2) c.requires.low_factor in
    omega (arith, e, c.find_locator-width.auto.low_factor) in
    let same : take c.find_locator-width.result (list ++ drop (half + 2) c.args.low_factor.now) ≡ take c.find_locator-width.result list =
    take_front list (drop (half + 2) c.args.low_factor.now) c.find_locator-width.result (omega (arith, long, c.find_locator-width.ensures.width)) in
    record {
      locator = take c.find_locator-width.result list;
      locates = c.find_locator-width.ensures.locator;
      searched = rw same at c.find_places.ensures.places;
    }

pub returns-clause-few : goal.returns-clause-few
returns-clause-few g c =
    let found : AreErrorPlaces _ _ _ _ _ _ _ _ = returns-clause-places g c in
    count_few g.met.F.Field.laws g.F.PartialEq.eq g.met.F.Field.equal (λ t. get_or c.args.syndromes.now t g.F.Field.nought) (length c.args.syndromes.now / 2) found.locator
    (length c.args.places.now) c.args.lost.now c.find_places.new.places c.find_places.result (length c.args.places.now) found.locates found.searched c.requires.fits c.find_places.auto.places c.find_places.ensures.count
