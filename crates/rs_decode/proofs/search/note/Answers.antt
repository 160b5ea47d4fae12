use Rattle.std.proofs.Common.{◌≡◌, ◌∙◌, ◌+◌, ◌-◌, ap, arith, drop, length, ℕ, suc, ◌∷◌}
use Rattle.rs_decode.proofs.Loops.{dropped_set}
use Rattle.rs_decode.proofs.search.note.Goals as goal

pub returns-then-eq-clause-root : goal.returns-then-eq-clause-root
returns-then-eq-clause-root g c = λ _.
    let at : _ = length c.args.places.now - 1 - c.args.count in
    let same : length c.args.places.now - (c.args.count + 1) ≡ length c.args.places.now - 1 - c.args.count = omega arith in
    let next : suc (length c.args.places.now - 1 - c.args.count) ≡ length c.args.places.now - c.args.count = omega (arith, c.requires.room) in
    rw same (dropped_set c.args.places.now (length c.args.places.now - 1 - c.args.count) c.args.place (omega (arith, c.requires.room)) ∙
    ap (λ (k : ℕ). c.args.place ∷ drop k c.args.places.now) next)
