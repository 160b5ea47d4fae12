use Rattle.std.proofs.Common.{◌≡◌, ◌≢◌, ◌∙◌, ◌+◌, ◌-◌, ◌<◌, ap, sym, arith, length, drop, take, get_or, List, ℕ, ◌≤◌, ◌∷◌}
use Rattle.std.proofs.lemmas.List.{length-drop}
use borrow.Rule.Slice.PartMut.{put_mid}
use Rattle.galois.specs.Coefficients.{total}
use Rattle.rs_decode.specs.Values.{lowered, power_sums}
use Rattle.galois.specs.Locator.{IsFalling}
use Rattle.rs_decode.proofs.Values.{solved}
use Rattle.rs_decode.proofs.Slices.{some_from, rest_of, length-written, read_back, set_first}
use Rattle.rs_decode.proofs.errors.+solve.Goals as goal

pub returns : goal.returns
returns g t c = λ bound values falling fits same sums_are.
    let laws : _ = g.met.F.Field.laws in
    let s0 : List g.row.F.Denot = c.args.sums.now in
    let ys1 : List g.row.F.Denot = c.lower.new.sums in
    let ys2 : List g.row.F.Denot = c.solve.new.sums in
    let ys3 : List g.row.F.Denot = c.divide.new.values in
    let s1 : List g.row.F.Denot = put_mid 1 (length c.args.sums.now - 1) c.args.sums.now c.lower.new.sums in
    let s2 : List g.row.F.Denot = put_mid 1 (length s1 - 1) s1 c.solve.new.sums in
    let some_places : 0 < length c.args.places.now = some_from (length c.args.places.now) (sym c.is_empty.ensures ∙ c.if-is_empty.false) in
    let some0 : 0 < length c.args.sums.now = omega (arith, some_places, c.requires) in
    let held : take (length c.args.sums.now - 1) (drop 1 c.args.sums.now) ≡ drop 1 c.args.sums.now = rest_of 1 (length c.args.sums.now - 1) c.args.sums.now (omega arith) in
    let held_long : length (drop 1 c.args.sums.now) ≡ length c.args.sums.now - 1 = length-drop 1 c.args.sums.now in
    let long1 : length c.lower.new.sums + 1 ≡ length c.args.sums.now =
    let e : length c.lower.new.sums ≡ length (take (length c.args.sums.now - 1) (drop 1 c.args.sums.now)) = c.lower.auto.sums in
    let f : length (take (length c.args.sums.now - 1) (drop 1 c.args.sums.now)) ≡ length (drop 1 c.args.sums.now) = ap length held in
    omega (arith, e, f, held_long, some0) in
    let all1 : length s1 ≡ length c.args.sums.now = length-written c.args.sums.now c.lower.new.sums some0 long1 in
    let back1 : take (length s1 - 1) (drop 1 s1) ≡ c.lower.new.sums = read_back c.args.sums.now c.lower.new.sums some0 long1 in
    let long2 : length c.solve.new.sums + 1 ≡ length s1 =
    let e : length c.solve.new.sums ≡ length (take (length s1 - 1) (drop 1 s1)) = c.solve.auto.sums in
    let f : length (take (length s1 - 1) (drop 1 s1)) ≡ length c.lower.new.sums = ap length back1 in
    omega (arith, e, f, all1, long1) in
    let some1 : 0 < length s1 = omega (arith, all1, some0) in
    let all2 : length s2 ≡ length s1 = length-written s1 c.solve.new.sums some1 long2 in
    let back2 : take (length s2 - 1) (drop 1 s2) ≡ c.solve.new.sums = read_back s1 c.solve.new.sums some1 long2 in
    let some2 : 0 < length s2 = omega (arith, all2, some1) in
    let long3 : length c.divide.new.values + 1 ≡ length s2 =
    let e : length c.divide.new.values ≡ length (take (length s2 - 1) (drop 1 s2)) = c.divide.auto.values in
    let f : length (take (length s2 - 1) (drop 1 s2)) ≡ length c.solve.new.sums = ap length back2 in
    omega (arith, e, f, all2, long2) in
    let back3 : take (length (put_mid 1 (length s2 - 1) s2 c.divide.new.values) - 1) (drop 1 (put_mid 1 (length s2 - 1) s2 c.divide.new.values)) ≡ c.divide.new.values =
    read_back s2 c.divide.new.values some2 long3 in
    let places : take (length c.args.places.now - 1) (drop 1 c.args.places.now) ≡ drop 1 c.args.places.now = rest_of 1 (length c.args.places.now - 1) c.args.places.now (omega arith) in
    let places_long : length (drop 1 c.args.places.now) ≡ length c.args.places.now - 1 = length-drop 1 c.args.places.now in
    let recurse : (bound : ℕ) (values : List g.row.F.Denot) → IsFalling bound (drop 1 c.args.places.now) → bound ≤ g.F.Field.ORDER → length values ≡ length (drop 1 c.args.places.now) →
    c.lower.new.sums ≡ power_sums g.F.Field.nought g.F.Field.plus g.F.Field.times g.F.Field.power (drop 1 c.args.places.now) values 0 (length (drop 1 c.args.places.now)) → c.solve.new.sums ≡ values =
    rw (places, back1) at c.solve.ensures in
    let each : (k : ℕ) (d : g.row.F.Denot) → k < length c.solve.new.sums → g.F.Field.plus (g.F.Field.power (get_or (drop 1 c.args.places.now) k 0)) (g.F.Field.power (get_or c.args.places.now 0 0)) ≢ g.F.Field.nought →
    g.F.Field.times (get_or c.divide.new.values k d) (g.F.Field.plus (g.F.Field.power (get_or (drop 1 c.args.places.now) k 0)) (g.F.Field.power (get_or c.args.places.now 0 0))) ≡ get_or c.solve.new.sums k d =
    rw (places, back2) at c.divide.ensures in
    set_first s2 c.divide.new.values some2 long3 c.add.result ∙
    ap (λ x. x ∷ c.divide.new.values) (c.add.ensures ∙ ap (g.F.Field.plus c.index-sums-0.result) (c.sum.ensures ∙ ap (total g.F.Field.nought g.F.Field.plus) back3)) ∙
    solved laws bound c.args.places.now values c.args.sums.now c.lower.new.sums c.solve.new.sums c.divide.new.values c.index-sums-0.result falling fits some_places same sums_are c.index-sums-0.is
    (c.lower.ensures ∙ ap (lowered g.F.Field.plus g.F.Field.times (g.F.Field.power (get_or c.args.places.now 0 0)) c.index-sums-0.result) held)
    recurse (omega (arith, long3, all2, all1, places_long, c.requires))
    (λ k d below apart. each k d (omega (arith, below, long2, all1, places_long, c.requires)) apart)
