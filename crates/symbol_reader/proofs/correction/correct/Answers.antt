use Rattle.std.proofs.Common.{◌≡◌, ℕ, List, length, map, refl, sym, ap, subst, ◌∙◌, arith}
use Rattle.std.proofs.lemmas.List.{take_at}
use Rattle.galois.specs.CheckNumbers.{known_apart}
use Rattle.galois.specs.FieldLaws.{equal_of}
use Rattle.galois.proofs.CheckNumbers.{HasNumbers, field_numbers}
use Rattle.symbol_reader.specs.Correction.{HasNoneNear, IsOnlyNear}
use Rattle.symbol_reader.proofs.Corrections.{none_near, only_near}
use Rattle.symbol_reader.proofs.correction.correct.Goals as goal

pub returns-in-Err : goal.returns-in-Err
returns-in-Err g c =
    let carries : HasNumbers g.P.Poly.BITS g.P.Poly.POLY g.P.Poly.ORDER _ _ _ _ _ =
    field_numbers g.P.Poly.primitive (λ n within. record { number = n; of = record {}; in_range = within }) (λ a. a.number) (λ a. a.in_range) (λ a. refl) (λ n within. refl) in
    subst (λ (ws : List ℕ). HasNoneNear g.P.Poly.BITS g.P.Poly.POLY c.args.check c.args.lost.now ws)
    (ap (map (λ a. a.number)) c.deref_mut.ensures.value ∙ c.in_ok-elements.ensures)
    (none_near carries _
    (equal_of (λ n within. record { number = n; of = record {}; in_range = within }) (λ a. a.number) (λ a. a.in_range) (λ a. refl))
    c.args.check c.args.lost.now c.deref_mut.result.now c.in-Err.ensures.beyond.none)

pub returns : goal.returns
returns g c =
    let carries : HasNumbers g.P.Poly.BITS g.P.Poly.POLY g.P.Poly.ORDER _ _ _ _ _ =
    field_numbers g.P.Poly.primitive (λ n within. record { number = n; of = record {}; in_range = within }) (λ a. a.number) (λ a. a.in_range) (λ a. refl) (λ n within. refl) in
    let long : length c.decode_lost.new.word ≡ c.in_ok-elements.elements.len =
    omega (arith, c.in-Ok.ensures.restored.near.long, ap length c.deref_mut.ensures.value, c.in_ok-elements.elements.ok) in
    let numbers : c.in_ok-numbers-in-Ok.field-0 ≡ map (λ a. a.number) c.decode_lost.new.word =
    c.in_ok-numbers-in-Ok.ensures ∙ ap (map (λ a. a.number)) (c.deref.ensures.value ∙ take_at _ _ _ long) in
    let only : IsOnlyNear g.P.Poly.BITS g.P.Poly.POLY c.args.check c.args.lost.now c.args.words.now c.in_ok-numbers-in-Ok.field-0
    × (c.in-Ok.errors ≡ known_apart c.args.lost.now c.args.words.now c.in_ok-numbers-in-Ok.field-0) =
    subst (λ (ns : List ℕ). IsOnlyNear g.P.Poly.BITS g.P.Poly.POLY c.args.check c.args.lost.now c.args.words.now ns × (c.in-Ok.errors ≡ known_apart c.args.lost.now c.args.words.now ns)) (sym numbers)
    (subst (λ (ws : List ℕ). IsOnlyNear g.P.Poly.BITS g.P.Poly.POLY c.args.check c.args.lost.now ws (map (λ a. a.number) c.decode_lost.new.word)
    × (c.in-Ok.errors ≡ known_apart c.args.lost.now ws (map (λ a. a.number) c.decode_lost.new.word)))
    (ap (map (λ a. a.number)) c.deref_mut.ensures.value ∙ c.in_ok-elements.ensures)
    (only_near carries _
    (equal_of (λ n within. record { number = n; of = record {}; in_range = within }) (λ a. a.number) (λ a. a.in_range) (λ a. refl))
    c.args.check c.args.lost.now c.deref_mut.result.now c.decode_lost.new.word c.in-Ok.errors c.in-Ok.ensures.restored)) in
    (only.0, only.1, c.count_lost.ensures)
