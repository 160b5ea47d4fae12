use Rattle.std.proofs.Common.{◌≡◌, ◌∙◌, ◌-◌, ◌+◌, ap, sym, arith, length, drop, take, get_or, set, suc, ◌++◌, ◌∷◌, [], List, ℕ, add-one, append_assoc, refl, ◌<◌}
use Rattle.std.proofs.Math.Seq.{take-suc-set}
use Rattle.std.proofs.lemmas.List.{get_or_read_under, drop-set-lt, length-set}
use Rattle.galois.specs.CheckWord.{word_sum}
use Rattle.rs_decode.specs.Values.{IsErrorAt}
use Rattle.rs_decode.proofs.Slices.{some_from, none_from, rest_of, put_rest}
use Rattle.rs_decode.proofs.Mending.{nothing_mended, mended, below_length}
use Rattle.rs_decode.proofs.errors.+mend.Goals as goal

pub returns-then-is_empty : goal.returns-then-is_empty
returns-then-is_empty g t c = λ error is same.
    nothing_mended g.met.F.Field.laws c.args.word.now error c.args.places.now c.args.values.now (none_from (length c.args.places.now) (sym c.is_empty.ensures ∙ c.if-is_empty.true)) is same

pub returns-then-place-word : goal.returns-then-place-word
returns-then-place-word g t c = λ error is same.
    let laws : _ = g.met.F.Field.laws in
    let some : 0 < length c.args.places.now = some_from (length c.args.places.now) (sym c.is_empty.ensures ∙ c.if-is_empty.false) in
    let at : ℕ = length c.args.word.now - 1 - get_or c.args.places.now 0 0 in
    let changed : List g.row.F.Denot = set c.args.word.now at c.add.result in
    let long : length changed ≡ length c.args.word.now = length-set c.args.word.now at c.add.result in
    let within : at < length c.args.word.now = omega (arith, c.if-place-word.true) in
    let places : take (length c.args.places.now - 1) (drop 1 c.args.places.now) ≡ drop 1 c.args.places.now = rest_of 1 (length c.args.places.now - 1) c.args.places.now (omega arith) in
    let values : take (length c.args.values.now - 1) (drop 1 c.args.values.now) ≡ drop 1 c.args.values.now = rest_of 1 (length c.args.values.now - 1) c.args.values.now (omega arith) in
    let others : take (length changed - (at + 1)) (drop (at + 1) changed) ≡ drop (suc at) c.args.word.now =
    rest_of (at + 1) (length changed - (at + 1)) changed (omega arith) ∙ ap (λ (k : ℕ). drop k changed) (add-one at) ∙ drop-set-lt (suc at) c.args.word.now at c.add.result (omega arith) in
    let recurse : (error : List g.row.F.Denot) → IsErrorAt g.F.Field.nought g.F.Field.times g.F.Field.power (drop 1 c.args.places.now) (drop 1 c.args.values.now) error →
    length error ≡ length (drop (suc at) c.args.word.now) → c.mend.new.word ≡ word_sum g.F.Field.plus (drop (suc at) c.args.word.now) error =
    rw (places, values, others) at c.mend.ensures in
    let quotient : g.row.F.Denot = c.over.result in
    let product : g.F.Field.times quotient (g.F.Field.power (get_or c.args.places.now 0 0)) ≡ get_or c.args.values.now 0 quotient =
    ap (g.F.Field.times quotient) (sym c.power_at.ensures) ∙ c.over.ensures ∙
    get_or_read_under c.args.values.now 0 (length c.args.values.now) c.index-values-0.result quotient c.index-values-0.is (omega (arith, some, c.requires)) refl in
    let value : c.add.result ≡ g.F.Field.plus (get_or c.args.word.now at quotient) quotient =
    c.add.ensures ∙ ap (λ x. g.F.Field.plus x quotient) (get_or_read_under c.args.word.now at (length c.args.word.now) c.index-word-at.result quotient c.index-word-at.is within refl) in
    put_rest (at + 1) (length changed - (at + 1)) changed c.mend.new.word (omega arith) ∙
    ap (λ l. l ++ c.mend.new.word) (ap (λ (k : ℕ). take k changed) (add-one at) ∙ take-suc-set c.args.word.now at c.add.result within) ∙
    append_assoc (take at c.args.word.now) (c.add.result ∷ []) c.mend.new.word ∙
    ap (λ x. take at c.args.word.now ++ x ∷ c.mend.new.word) value ∙
    mended laws c.args.word.now error c.args.places.now c.args.values.now at quotient c.mend.new.word is same some (omega (arith, c.if-place-word.true)) product recurse

pub returns-else-place-word : goal.returns-else-place-word
returns-else-place-word g t c = λ error is same.
    let some : 0 < length c.args.places.now = some_from (length c.args.places.now) (sym c.is_empty.ensures ∙ c.if-is_empty.false) in
    absurd (let e : get_or c.args.places.now 0 0 < length error = below_length g.met.F.Field.laws c.args.places.now c.args.values.now error is some in omega (arith, e, same, c.if-place-word.false))
