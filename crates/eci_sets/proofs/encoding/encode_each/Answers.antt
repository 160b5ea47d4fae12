use Rattle.std.proofs.Common.{◌+◌, ◌++◌, ◌∙◌, ℕ, List, [], ◌∷◌, length, sym, ap, arith}
use Rattle.std.proofs.lemmas.Iterator.{YieldsList-from_chars}
use Rattle.std.proofs.lemmas.Iterator.Consumers.{YieldsList-turn, YieldsList-end}
use Rattle.std.proofs.lemmas.List.{length_push}
use Rattle.std.specs.Str.{chars}
use Rattle.eci_sets.specs.Encodings.{joined_bytes, text_encoding, unless_lacking}
use Rattle.eci_sets.proofs.Encoded.{all_encoded, encoded_next, text_encoded, fits, lacking, none_missing, text_again}
use Rattle.eci_sets.proofs.OneText.{encoded_defined}
use Rattle.eci_sets.proofs.encoding.encode_each.Goals as goal

pub returns-then-not-branch-clause-gives : goal.returns-then-not-branch-clause-gives
unfolding text_encoding
returns-then-not-branch-clause-gives c =
    let t = YieldsList-turn (YieldsList-from_chars c.args.text.now c.utf8.text cc) c.loop-character.yielded _ c.loop-character.yielded_by _ _ c.in-Some.character c.in-Some.is c.next.ensures.steps in
    ap (λ o. unless_lacking o (joined_bytes c.args.set (chars c.args.text.now)))
    (lacking c.args.set (chars c.args.text.now) (length c.loop-character.yielded) c.loop-character.place c.in-Some.character c.loop-character.bytes.items c.loop-character.invariant t.0 t.1
    (sym c.in_ok-push_character.ensures.known ∙ c.if-not-branch.true))

pub overflow_add-place : goal.overflow_add-place
overflow_add-place c =
    let t = YieldsList-turn (YieldsList-from_chars c.args.text.now c.utf8.text cc) c.loop-character.yielded _ c.loop-character.yielded_by _ _ c.in-Some.character c.in-Some.is c.next.ensures.steps in
    let f = fits c.args.set (chars c.args.text.now) (length c.loop-character.yielded) c.loop-character.place c.in-Some.character c.loop-character.bytes.items c.loop-character.invariant t.0 t.1 in
    let whole = ap (λ (bs : List ℕ). length bs) (text_again c.args.text.now c.utf8.text) in
    let size = c.len_utf8.ensures.len in
    omega arith

pub loop-character-preserved : goal.loop-character-preserved
loop-character-preserved c =
    let t = YieldsList-turn (YieldsList-from_chars c.args.text.now c.utf8.text cc) c.loop-character.yielded _ c.loop-character.yielded_by _ _ c.in-Some.character c.in-Some.is c.next.ensures.steps in
    encoded_next c.args.set (chars c.args.text.now) (length c.loop-character.yielded) c.loop-character.place c.in-Some.character c.loop-character.bytes.items
    (length (c.loop-character.yielded ++ c.in-Some.character ∷ [])) (c.loop-character.place + c.len_utf8.result) c.push_character.new.bytes.items
    c.loop-character.invariant t.0 t.1 (sym c.in_ok-push_character.ensures.known ∙ c.if-not-branch.false) (length_push c.loop-character.yielded c.in-Some.character)
    (ap (λ n. c.loop-character.place + n) c.len_utf8.ensures.len) c.in_ok-push_character.ensures.pushed

pub returns-clause-encoded : goal.returns-clause-encoded
returns-clause-encoded c =
    let t = YieldsList-end (YieldsList-from_chars c.args.text.now c.utf8.text cc) c.loop-character.yielded _ c.loop-character.yielded_by _ _ c.in-None.is c.next.ensures.steps in
    let all = none_missing c.args.set (chars c.args.text.now) (length c.loop-character.yielded) c.loop-character.place c.loop-character.bytes.items c.loop-character.invariant (omega (arith, t.1)) in
    let is = all_encoded c.args.set (chars c.args.text.now) (length c.loop-character.yielded) c.loop-character.place c.loop-character.bytes.items c.loop-character.invariant (omega (arith, t.1)) in
    text_encoded c.args.set c.args.text.now c.loop-character.bytes.items c.utf8.text all is

pub returns-clause-gives : goal.returns-clause-gives
returns-clause-gives c = encoded_defined c.args.set c.args.text.now c.loop-character.bytes.items (returns-clause-encoded c)
