use Rattle.std.proofs.lemmas.Result.{IfErr-weaker}
use Rattle.aztec_draw.specs.Symbol.{IsBitsFault, IsDrawFault}
use Rattle.aztec_draw.proofs.Refusals.{draw_fault}
use Rattle.aztec_draw.proofs.Spelled.{drawn_some}
use Rattle.aztec_draw.proofs.drawing.draw_elements.Goals as goal

pub draw_bits-requires-clause-some : goal.draw_bits-requires-clause-some
draw_bits-requires-clause-some c = drawn_some _ _ _ c.in_ok-spelling.ensures.drawn c.requires.some

pub returns-clause-refused : goal.returns-clause-refused
returns-clause-refused c =
    IfErr-weaker c.draw_bits.result (IsBitsFault c.in_ok-spelling.spelling c.args.allowed) (IsDrawFault c.args.append c.args.elements.now c.args.allowed)
    (λ fault h. draw_fault c.args.append c.args.elements.now c.in_ok-spelling.spelling c.args.allowed c.in_ok-spelling.ensures.drawn fault h)
    c.draw_bits.ensures.refused
