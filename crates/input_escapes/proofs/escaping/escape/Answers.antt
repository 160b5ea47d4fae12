use Rattle.std.proofs.Common.{◌∙◌, List, ℕ, ap, subst, sym, arith, take_all}
use Rattle.std.specs.List.{flat_map}
use Rattle.input_escapes.specs.Escapes.{escaped}
use Rattle.input_escapes.specs.Texts.{StandsFor}
use Rattle.input_escapes.proofs.Undoing.{escaped_piece, written_stands}
use Rattle.input_escapes.proofs.escaping.escape.Goals as goal

pub returns-clause-undone : goal.returns-clause-undone
returns-clause-undone c =
    let text = c.loop-byte.invariant ∙ ap (flat_map escaped) (take_all c.loop-byte.byte-index c.args.bytes.now (omega arith)) in
    subst (λ (t : List ℕ). StandsFor t c.args.bytes.now) (sym text) (written_stands escaped c.args.bytes.now escaped_piece (λ i. omega (arith, c.type_inv.bytes i)))
