use Rattle.std.proofs.Common.{◌≡◌, ◌++◌, length, map, ℕ, List, refl, ap, sym, subst, ◌∙◌, arith}
use Rattle.std.proofs.lemmas.List.{take_at}
use Rattle.galois.specs.CheckNumbers.{IsContinuation, polynomial_of}
use Rattle.galois.specs.PrimitiveLaws.{primitive-256}
use Rattle.galois.proofs.CheckNumbers.{HasNumbers, continued, field_numbers}
use Rattle.example_repair.proofs.with_check_bytes.Goals as goal

pub returns : goal.returns
returns c =
    let message : map (λ a. a.number) c.deref.result.now ≡ c.args.message.now = ap (map (λ a. a.number)) c.deref.ensures.value ∙ c.in_ok-front.ensures in
    let long : length c.encode.new.check ≡ c.in_ok-check_elements.check_elements.len =
    omega (arith, c.encode.auto.check, ap length c.deref_mut.ensures.value, c.in_ok-check_elements.check_elements.ok) in
    let count : length c.encode.new.check ≡ c.args.check = omega (arith, long, c.in_ok-check_elements.check_elements.ok, c.in_ok-check_elements.ensures.len) in
    let bytes : c.deref-3.result.now ≡ map (λ a. a.number) c.encode.new.check =
    c.deref-3.ensures.value ∙ c.in_ok-check_bytes.ensures ∙ ap (map (λ a. a.number)) (c.deref-2.ensures.value ∙ take_at _ _ _ long) in
    let all : c.extend_from_slice.new.self.items ≡ c.args.message.now ++ map (λ a. a.number) c.encode.new.check =
    c.in_ok-extend_from_slice.ensures.items ∙ ap (λ (xs : List ℕ). xs ++ c.deref-3.result.now) c.in_ok-word.ensures.items
    ∙ ap (λ (xs : List ℕ). c.args.message.now ++ xs) bytes in
    let carries : HasNumbers 8 (polynomial_of 8) 255 _ _ _ _ _ =
    field_numbers primitive-256 (λ n within. record { number = n; of = record {}; in_range = within }) (λ a. a.number) (λ a. a.in_range) (λ a. refl) (λ n within. refl) in
    subst (λ (n : ℕ). IsContinuation 8 (polynomial_of 8) c.args.message.now n c.extend_from_slice.new.self.items) count
    (subst (λ (ns : List ℕ). IsContinuation 8 (polynomial_of 8) c.args.message.now (length c.encode.new.check) ns) (sym all)
    (subst (λ (fs : List ℕ). IsContinuation 8 (polynomial_of 8) fs (length c.encode.new.check) (fs ++ map (λ a. a.number) c.encode.new.check)) message
    (continued carries c.deref.result.now c.encode.new.check c.encode.ensures)))
