use Rattle.std.proofs.Common.{◌≡◌, ◌-◌, length, map, take, refl, ap, ◌∙◌, arith}
use Rattle.std.proofs.lemmas.List.{take_at}
use Rattle.galois.specs.CheckNumbers.{polynomial_of}
use Rattle.galois.specs.FieldLaws.{equal_of}
use Rattle.galois.specs.PrimitiveLaws.{primitive-256}
use Rattle.galois.proofs.CheckNumbers.{HasNumbers, field_numbers}
use Rattle.example_repair.proofs.Words.{finds_all, finds_none, finds_only}
use Rattle.example_repair.proofs.repaired.Goals as goal

pub returns-in-Ok-clause-all : goal.returns-in-Ok-clause-all
returns-in-Ok-clause-all c =
    let are : map (λ a. a.number) c.deref_mut.result.now ≡ c.args.damaged.now = ap (map (λ a. a.number)) c.deref_mut.ensures.value ∙ c.in_ok-word.ensures in
    let long : length c.decode.new.word ≡ c.in_ok-word.word.len = omega (arith, c.decode.auto.word, ap length c.deref_mut.ensures.value, c.in_ok-word.word.ok) in
    let found : c.in_ok-message-in-Ok.message.items ≡ map (λ a. a.number) (take (length c.args.damaged.now - c.args.check) c.decode.new.word) =
    c.in_ok-message-in-Ok.ensures ∙ ap (λ xs. map (λ a. a.number) (take (length c.args.damaged.now - c.args.check) xs)) (c.deref.ensures.value ∙ take_at _ _ _ long) in
    let carries : HasNumbers 8 (polynomial_of 8) 255 _ _ _ _ _ =
    field_numbers primitive-256 (λ n within. record { number = n; of = record {}; in_range = within }) (λ a. a.number) (λ a. a.in_range) (λ a. refl) (λ n within. refl) in
    finds_all carries _
    (equal_of (λ n within. record { number = n; of = record {}; in_range = within }) (λ a. a.number) (λ a. a.in_range) (λ a. refl))
    c.args.check c.deref_mut.result.now c.args.damaged.now are c.decode.new.word c.in-Ok.corrected c.in_ok-message-in-Ok.message.items c.in-Ok.ensures.corrected found

pub returns-in-Ok-clause-only : goal.returns-in-Ok-clause-only
returns-in-Ok-clause-only c =
    let are : map (λ a. a.number) c.deref_mut.result.now ≡ c.args.damaged.now = ap (map (λ a. a.number)) c.deref_mut.ensures.value ∙ c.in_ok-word.ensures in
    let long : length c.decode.new.word ≡ c.in_ok-word.word.len = omega (arith, c.decode.auto.word, ap length c.deref_mut.ensures.value, c.in_ok-word.word.ok) in
    let found : c.in_ok-message-in-Ok.message.items ≡ map (λ a. a.number) (take (length c.args.damaged.now - c.args.check) c.decode.new.word) =
    c.in_ok-message-in-Ok.ensures ∙ ap (λ xs. map (λ a. a.number) (take (length c.args.damaged.now - c.args.check) xs)) (c.deref.ensures.value ∙ take_at _ _ _ long) in
    let carries : HasNumbers 8 (polynomial_of 8) 255 _ _ _ _ _ =
    field_numbers primitive-256 (λ n within. record { number = n; of = record {}; in_range = within }) (λ a. a.number) (λ a. a.in_range) (λ a. refl) (λ n within. refl) in
    finds_only carries _
    (equal_of (λ n within. record { number = n; of = record {}; in_range = within }) (λ a. a.number) (λ a. a.in_range) (λ a. refl))
    c.args.check c.deref_mut.result.now c.args.damaged.now are c.decode.new.word c.in-Ok.corrected c.in_ok-message-in-Ok.message.items c.in-Ok.ensures.corrected found
    c.requires.few

pub returns-clause-all : goal.returns-clause-all
returns-clause-all c =
    let are : map (λ a. a.number) c.deref_mut.result.now ≡ c.args.damaged.now = ap (map (λ a. a.number)) c.deref_mut.ensures.value ∙ c.in_ok-word.ensures in
    let carries : HasNumbers 8 (polynomial_of 8) 255 _ _ _ _ _ =
    field_numbers primitive-256 (λ n within. record { number = n; of = record {}; in_range = within }) (λ a. a.number) (λ a. a.in_range) (λ a. refl) (λ n within. refl) in
    finds_none carries _
    (equal_of (λ n within. record { number = n; of = record {}; in_range = within }) (λ a. a.number) (λ a. a.in_range) (λ a. refl))
    c.args.check c.deref_mut.result.now c.args.damaged.now are c.in-Err.ensures.beyond.none
