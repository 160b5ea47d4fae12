use Rattle.std.proofs.Common.{◌≡◌, ◌+◌, ◌∙◌, ℕ, Err, length, refl, sym, ap, arith}
use Rattle.linear_reader.specs.declared.scan.ScanFault.TheVariants.{BadSpelling}
use Rattle.linear_reader.proofs.SpellingLaws.{act_more, act_stop, act_done, act_pending}
use Rattle.linear_reader.proofs.code128_data.spelled_from.Goals as goal

pub returns-in-None : goal.returns-in-None
returns-in-None c =
    act_stop c.loop-place.elements 1 c.loop-place.place _ c.loop-place.state c.args.values.now _ c.loop-place-test.true refl
    (sym c.act.ensures ∙ c.in-None.is) c.loop-place.invariant

pub loop-place-preserved : goal.loop-place-preserved
loop-place-preserved c =
    act_more c.loop-place.elements c.push_spelled.new.elements 1 c.loop-place.place _ c.loop-place.state c.in-Some.effect c.args.values.now _ c.loop-place-test.true refl
    (sym c.act.ensures ∙ c.in-Some.is) c.in_ok-push_spelled-in-Some.ensures c.loop-place.invariant

pub returns-then-is_free : goal.returns-then-is_free
returns-then-is_free c =
    act_done c.loop-place.elements 1 c.loop-place.place c.loop-place.state c.args.values.now _ c.loop-place-test.false
    (sym c.is_free.ensures ∙ c.if-is_free.true) c.loop-place.invariant

pub returns-else-is_free : goal.returns-else-is_free
returns-else-is_free c =
    act_pending c.loop-place.elements 1 c.loop-place.place c.loop-place.state c.args.values.now _ c.loop-place-test.false
    (sym c.is_free.ensures ∙ c.if-is_free.false) c.loop-place.invariant
    ∙ ap (λ (n : ℕ). Err (BadSpelling (1 + n))) (let e : c.loop-place.place ≡ length c.args.values.now = omega arith in e)
