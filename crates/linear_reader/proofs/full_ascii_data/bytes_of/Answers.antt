use Rattle.std.proofs.Common.{◌≡◌, ◌∙◌, ℕ, Option, Some, None, Err, drop, length, sym, ap, arith}
use Rattle.linear_reader.specs.declared.scan.ScanFault.TheVariants.{BadSpelling}
use Rattle.linear_reader.specs.Data.{bytes_from, with_more}
use Rattle.linear_reader.proofs.SpellingLaws.{sign_more, byte_more, pair_more, pair_stop, bytes_done, bytes_pending, sign_is, as_left}
use Rattle.linear_reader.proofs.full_ascii_data.bytes_of.Goals as goal
use Rattle.linear_reader.proofs.full_ascii_data.bytes_of.Goals.{in-None+in-None-byte_alone, in-None+in-Some-byte_alone+in_ok-push-in-Some-byte_alone, in-Some+in-Some-byte_of_pair+in_ok-push-in-Some-byte_of_pair}

pub returns-in-None-byte_of_pair : goal.returns-in-None-byte_of_pair
returns-in-None-byte_of_pair c =
    let behind = ap (λ (s : Option ℕ). with_more c.loop-place.elements (bytes_from c.args.symbology c.loop-place.place s (drop c.loop-place.place c.args.values.now))) (sym c.in-Some.is) in
    pair_stop c.args.symbology c.loop-place.elements c.loop-place.place c.in-Some.first c.args.values.now _ c.loop-place-test.true
    (sym c.byte_of_pair.ensures ∙ c.in-None-byte_of_pair.is) (behind ∙ c.loop-place.invariant)

pub loop-place-preserved : goal.loop-place-preserved
loop-place-preserved c = elim c.match-sign.branch [
  | in-None+in-None-byte_alone w ↦
      as_left c.args.symbology _ _ _ _ _ _ _ w.elements-is w.sign-is
      (sign_more c.args.symbology c.loop-place.elements c.loop-place.place c.args.values.now _ c.loop-place-test.true (sym w.byte_alone.ensures ∙ w.in-None-byte_alone.is)
      (sign_is c.args.symbology c.loop-place.elements c.loop-place.place c.loop-place.sign None c.args.values.now _ w.in-None.is c.loop-place.invariant))
  | in-None+in-Some-byte_alone+in_ok-push-in-Some-byte_alone w ↦
      as_left c.args.symbology _ _ _ _ _ _ _ (w.elements-is ∙ w.in_ok-push-in-Some-byte_alone.ensures.pushed) (w.sign-is ∙ w.in-None.is)
      (byte_more c.args.symbology c.loop-place.elements c.loop-place.place w.in-Some-byte_alone.byte c.args.values.now _ c.loop-place-test.true (sym w.byte_alone.ensures ∙ w.in-Some-byte_alone.is)
      (sign_is c.args.symbology c.loop-place.elements c.loop-place.place c.loop-place.sign None c.args.values.now _ w.in-None.is c.loop-place.invariant))
  | in-Some+in-Some-byte_of_pair+in_ok-push-in-Some-byte_of_pair w ↦
      as_left c.args.symbology _ _ _ _ _ _ _ (w.elements-is ∙ w.in_ok-push-in-Some-byte_of_pair.ensures.pushed) w.sign-is
      (pair_more c.args.symbology c.loop-place.elements c.loop-place.place w.in-Some.first w.in-Some-byte_of_pair.byte c.args.values.now _ c.loop-place-test.true
      (sym w.byte_of_pair.ensures ∙ w.in-Some-byte_of_pair.is)
      (sign_is c.args.symbology c.loop-place.elements c.loop-place.place c.loop-place.sign (Some w.in-Some.first) c.args.values.now _ w.in-Some.is c.loop-place.invariant))
]

pub returns-in-None-sign : goal.returns-in-None-sign
returns-in-None-sign c =
    bytes_done c.args.symbology c.loop-place.elements c.loop-place.place c.args.values.now _ c.loop-place-test.false
    (ap (λ (s : Option ℕ). with_more c.loop-place.elements (bytes_from c.args.symbology c.loop-place.place s (drop c.loop-place.place c.args.values.now))) (sym c.in-None-sign.is) ∙ c.loop-place.invariant)

pub returns-in-Some-sign : goal.returns-in-Some-sign
returns-in-Some-sign c =
    bytes_pending c.args.symbology c.loop-place.elements c.loop-place.place c.in-Some-sign.field-0 c.args.values.now _ c.loop-place-test.false
    (ap (λ (s : Option ℕ). with_more c.loop-place.elements (bytes_from c.args.symbology c.loop-place.place s (drop c.loop-place.place c.args.values.now))) (sym c.in-Some-sign.is) ∙ c.loop-place.invariant)
    ∙ ap (λ (n : ℕ). Err (BadSpelling n)) (let e : c.loop-place.place ≡ length c.args.values.now = omega arith in e)
