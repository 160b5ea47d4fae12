use Rattle.std.proofs.Common.{ℕ, List, ◌+◌, ◌∙◌, inr, sym, subst, refl, get_or}
use Rattle.std.specs.String.{string_bytes}
use Rattle.eci_sets.specs.declared.character_set.CharacterSet.TheVariants.{SingleByte}
use Rattle.eci_sets.proofs.Decoded.{Decoded, none_decoded}
use Rattle.eci_sets.proofs.CodePageTexts.{byte_decoded, byte_stops}
use Rattle.eci_sets.proofs.decoding.decode_page.Goals as goal

pub loop-place-init : goal.loop-place-init
loop-place-init c =
    subst (λ (t : List ℕ). Decoded (SingleByte c.args.page) c.args.bytes.now 0 t) (sym c.new-text.ensures.bytes) (none_decoded (SingleByte c.args.page) c.args.bytes.now)

pub loop-place-preserved : goal.loop-place-preserved
loop-place-preserved c =
    let l = c.loop-place in
    subst (λ (t : List ℕ). Decoded (SingleByte c.args.page) c.args.bytes.now (c.loop-place.place + 1) t) (sym c.in_ok-push-in-Some.ensures.bytes)
    (byte_decoded c.args.page c.args.bytes.now l.place (get_or c.args.bytes.now l.place 0) c.in-Some.character (string_bytes l.text) l.invariant c.loop-place-test.true refl
    (sym c.character_for.ensures ∙ c.in-Some.is))

pub returns-in-None-clause-refused : goal.returns-in-None-clause-refused
returns-in-None-clause-refused c =
    let l = c.loop-place in
    inr (
      l.place,
      byte_stops c.args.page c.args.bytes.now l.place (get_or c.args.bytes.now l.place 0) (string_bytes l.text) l.invariant c.loop-place-test.true refl
          (sym c.character_for.ensures ∙ c.in-None.is),
      refl,
    )
