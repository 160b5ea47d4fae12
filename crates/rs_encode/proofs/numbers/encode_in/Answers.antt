use Rattle.std.proofs.Common.{rules, ◌≡◌, ◌++◌, ℕ, List, length, map, refl, sym, subst}
use Rattle.galois.specs.CheckNumbers.{IsContinuation}
use Rattle.galois.proofs.CheckNumbers.{HasNumbers, continued, field_numbers}
use Rattle.rs_encode.proofs.numbers.encode_in.Goals as goal

pub returns : goal.returns
returns g c =
    let carries : HasNumbers g.P.Poly.BITS g.P.Poly.POLY g.P.Poly.ORDER _ _ _ _ _ =
    field_numbers g.P.Poly.primitive (λ n within. record { number = n; of = record {}; in_range = within }) (λ a. a.number) (λ a. a.in_range) (λ a. refl) (λ n within. refl) in
    let back : length c.args.check.now ≡ length c.encode.new.check = search rules in
    let whole = continued carries c.write_elements.new.elements c.encode.new.check c.encode.ensures in
    subst (λ (n : ℕ). IsContinuation g.P.Poly.BITS g.P.Poly.POLY c.args.front.now n (c.args.front.now ++ c.write_numbers.new.numbers)) (sym back)
    (subst (λ (ns : List ℕ). IsContinuation g.P.Poly.BITS g.P.Poly.POLY c.args.front.now (length c.encode.new.check) (c.args.front.now ++ ns)) (sym c.write_numbers.ensures)
    (subst (λ (fs : List ℕ). IsContinuation g.P.Poly.BITS g.P.Poly.POLY fs (length c.encode.new.check) (fs ++ map (λ a. a.number) c.encode.new.check)) c.write_elements.ensures whole))
