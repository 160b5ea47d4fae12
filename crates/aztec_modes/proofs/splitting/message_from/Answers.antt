use Rattle.std.proofs.Common.{◌≤◌, List, drop, length, refl, sym, ap, subst, ◌∙◌, ◌+◌, arith}
use Rattle.std.specs.Prelude.{is_some}
use Rattle.bar_base.specs.declared.element.Element.{Element}
use Rattle.aztec_modes.specs.Reading.{SplitsSo}
use Rattle.aztec_modes.specs.Split.{part_size}
use Rattle.aztec_modes.proofs.SplitLaws.{split_here, fnc1_within, eci_within}
use Rattle.aztec_modes.proofs.splitting.message_from.Goals as goal

pub rest_from-requires-clause-within : goal.rest_from-requires-clause-within
rest_from-requires-clause-within c =
    eci_within c.as_slice-items.result.now (c.args.at + c.part_length.result) (c.args.at + c.part_length.result + c.part_length-2.result) c.eci_at-eci.result
    (fnc1_within c.as_slice-items.result.now c.args.at (c.args.at + c.part_length.result) c.fnc1_at-gs1.result
    (subst (λ (es : List Element). c.args.at ≤ length es) (sym c.as_slice-items.ensures.same) c.requires.within)
    c.fnc1_at-gs1.ensures (ap (λ n. c.args.at + n) c.part_length.ensures.size))
    c.eci_at-eci.ensures (ap (λ n. c.args.at + c.part_length.result + n) (c.part_length-2.ensures.size ∙ ap part_size c.is_some.ensures))

pub returns-clause-split : goal.returns-clause-split
returns-clause-split c =
    subst (λ (es : List Element). SplitsSo (record { append = c.args.append; gs1 = c.fnc1_at-gs1.result; eci = c.eci_at-eci.result; body = c.in_ok-body.body }) (drop c.args.at es))
    c.as_slice-items.ensures.same
    (split_here c.as_slice-items.result.now c.args.at (c.args.at + c.part_length.result) (c.args.at + c.part_length.result + c.part_length-2.result) c.args.append c.fnc1_at-gs1.result c.eci_at-eci.result c.in_ok-body.body
    c.fnc1_at-gs1.ensures (ap (λ n. c.args.at + n) c.part_length.ensures.size) c.eci_at-eci.ensures
    (ap (λ n. c.args.at + c.part_length.result + n) (c.part_length-2.ensures.size ∙ ap part_size c.is_some.ensures)) c.in_ok-body.ensures)
