use Rattle.std.proofs.Common.{◌≡◌, inr, refl, ◌+◌, ◌-◌, ◌∙◌, List, ℕ, length, take, drop, ap, sym, subst, arith, take_all, length-drop}
use Rattle.std.specs.String.{string_bytes}
use Rattle.eci_sets.specs.Utf16.{first_character}
use Rattle.eci_sets.specs.declared.character_set.CharacterSet.TheVariants.{Utf16Be}
use Rattle.eci_sets.proofs.Decoded.{Decoded, all_decoded, none_decoded}
use Rattle.eci_sets.proofs.Units.{character_decoded, unit_stops}
use Rattle.eci_sets.proofs.decoding.decode_utf16.Goals as goal

-- what the code cuts off is all that is behind the place
whole : (p : ℕ) (bs : List ℕ) → take (length bs - p) (drop p bs) ≡ drop p bs
whole p bs = take_all (length bs - p) (drop p bs) (omega (arith, length-drop p bs))

pub loop-place-init : goal.loop-place-init
loop-place-init c = subst (λ (t : List ℕ). Decoded Utf16Be c.args.bytes.now 0 t) (sym c.new-text.ensures.bytes) (none_decoded Utf16Be c.args.bytes.now)

pub loop-place-preserved : goal.loop-place-preserved
loop-place-preserved c =
    let found = ap first_character (sym (whole c.loop-place.place c.args.bytes.now)) ∙ sym c.first_character.ensures.first ∙ c.in-Some.is in
    subst (λ (t : List ℕ). Decoded Utf16Be c.args.bytes.now (c.loop-place.place + c.in-Some.first.size) t) (sym c.in_ok-push-in-Some.ensures.bytes)
    (character_decoded c.args.bytes.now c.loop-place.place (string_bytes c.loop-place.text) c.in-Some.first c.loop-place.invariant found
    (omega (arith, c.in-Some.ensures.within.1, length-drop c.loop-place.place c.args.bytes.now, ap (λ (t : List ℕ). length t) (whole c.loop-place.place c.args.bytes.now)))
    (λ i. omega (arith, c.type_inv.bytes i)))

pub returns-in-None-clause-refused : goal.returns-in-None-clause-refused
returns-in-None-clause-refused c =
    let none = ap first_character (sym (whole c.loop-place.place c.args.bytes.now)) ∙ sym c.first_character.ensures.first ∙ c.in-None.is in
    inr (c.loop-place.place, unit_stops c.args.bytes.now c.loop-place.place (string_bytes c.loop-place.text) c.loop-place.invariant (omega (arith, c.loop-place-test.true)) none, refl)

pub returns-clause-encoded : goal.returns-clause-encoded
returns-clause-encoded c =
    all_decoded Utf16Be c.args.bytes.now c.loop-place.place (string_bytes c.loop-place.text) c.loop-place.invariant (omega (arith, c.loop-place-test.false))
