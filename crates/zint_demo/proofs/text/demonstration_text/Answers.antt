use Rattle.std.proofs.Common.{◌∙◌, ◌<◌, ℕ, List, length, ap, subst, sym, arith, length-append}
use Rattle.std.proofs.lemmas.List.{length-take-le}
use Rattle.zint_demo.specs.Text.{piece}
use Rattle.zint_demo.proofs.Texts.{TextSoFar, piece_some, text_begun, text_done, text_next}
use Rattle.zint_demo.proofs.text.demonstration_text.Goals as goal

pub loop-generator-init : goal.loop-generator-init
loop-generator-init c =
    subst (λ (t : List ℕ). TextSoFar c.args.number c.args.number t) (sym c.new-text.ensures.items) (text_begun c.args.number)

pub loop-generator-smaller : goal.loop-generator-smaller
loop-generator-smaller c =
    let short : length c.loop-generator.text.items < 1500 = omega (arith, c.loop-generator-test.true, c.len.ensures) in
    omega (
      arith,
      ap length c.in_ok-push_piece.ensures.piece,
      length-append c.loop-generator.text.items (piece c.loop-generator.generator.state),
      piece_some c.loop-generator.generator.state,
      short,
    )

pub loop-generator-preserved : goal.loop-generator-preserved
loop-generator-preserved c =
    text_next c.args.number c.loop-generator.generator.state c.push_piece.new.generator.state c.loop-generator.text.items c.push_piece.new.text.items
    c.loop-generator.invariant (omega (arith, c.loop-generator-test.true, c.len.ensures)) c.in_ok-push_piece.ensures.piece c.in_ok-push_piece.ensures.end

pub returns-clause-text : goal.returns-clause-text
returns-clause-text c =
    c.truncate.ensures.items
    ∙ text_done c.args.number c.loop-generator.generator.state c.loop-generator.text.items c.loop-generator.invariant
    (omega (arith, c.loop-generator-test.false, c.len.ensures))

pub returns-clause-counted : goal.returns-clause-counted
returns-clause-counted c =
    ap length c.truncate.ensures.items ∙ length-take-le 1500 c.loop-generator.text.items (omega (arith, c.loop-generator-test.false, c.len.ensures))
