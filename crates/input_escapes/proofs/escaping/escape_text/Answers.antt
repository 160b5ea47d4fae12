use Rattle.std.proofs.Common.{◌∙◌, List, ℕ, ap, subst, sym, arith, take_all}
use Rattle.std.specs.List.{flat_map}
use Rattle.input_escapes.specs.Escapes.{escaped_in_text}
use Rattle.input_escapes.specs.Texts.{StandsFor}
use Rattle.input_escapes.proofs.Undoing.{text_piece, written_stands}
use Rattle.input_escapes.proofs.escaping.escape_text.Goals as goal

pub returns-clause-undone : goal.returns-clause-undone
returns-clause-undone c =
    let all = take_all c.loop-byte.byte-index c.as_bytes-byte-items.result.now (omega arith) ∙ c.as_bytes-byte-items.ensures.value in
    let text = c.loop-byte.invariant ∙ ap (flat_map escaped_in_text) all in
    subst (λ (t : List ℕ). StandsFor t c.args.text.now) (sym text) (written_stands escaped_in_text c.args.text.now text_piece (λ i. omega (arith, c.type_inv.text i)))
