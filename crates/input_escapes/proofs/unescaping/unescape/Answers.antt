use Rattle.std.proofs.Common.{◌+◌, List, ℕ, subst, sym, arith}
use Rattle.input_escapes.specs.Escapes.{bytes_of}
use Rattle.std.proofs.lemmas.Result.{err_from_is_err_and}
use Rattle.input_escapes.proofs.Faults.{none_beside, one_fault}
use Rattle.input_escapes.proofs.Joining.{Done, all_done, fault_found, more_done}
use Rattle.input_escapes.proofs.Uniqueness.{only_bytes}
use Rattle.input_escapes.proofs.unescaping.unescape.Goals as goal

pub loop-place-preserved : goal.loop-place-preserved
loop-place-preserved c =
    let more = more_done c.args.text.now c.loop-place.place c.in_ok-piece.piece.length c.loop-place.bytes.items (bytes_of c.in_ok-piece.piece.value) c.loop-place.invariant
    c.in_ok-piece.ensures.piece c.in_ok-piece.ensures.within.1 in
    subst (λ (bytes : List ℕ). Done c.args.text.now (c.loop-place.place + c.in_ok-piece.piece.length) bytes) (sym c.in_ok-push_value.ensures) more

pub returns-in_err-piece-clause-given : goal.returns-in_err-piece-clause-given
returns-in_err-piece-clause-given c bytes is =
    let found = fault_found _ _ _ c.in_err-piece.field-0.0 c.loop-place.invariant (omega arith) c.in_err-piece.ensures.refused in
    let p = err_from_is_err_and c.from_residual.result c.from_residual.ensures.1 in
    rw (p.1, p.2) (none_beside _ bytes _ is found)

pub returns-in_err-piece-clause-faulty : goal.returns-in_err-piece-clause-faulty
returns-in_err-piece-clause-faulty c fault is other =
    let found = fault_found _ _ _ c.in_err-piece.field-0.0 c.loop-place.invariant (omega arith) c.in_err-piece.ensures.refused in
    let p = err_from_is_err_and c.from_residual.result c.from_residual.ensures.1 in
    rw (p.1, p.2) (one_fault _ _ fault found is other)

pub returns-clause-given : goal.returns-clause-given
returns-clause-given c bytes is = only_bytes c.args.text.now c.loop-place.bytes.items bytes (all_done _ _ _ c.loop-place.invariant (omega arith)) is

pub returns-clause-faulty : goal.returns-clause-faulty
returns-clause-faulty c fault is other =
    other (none_beside c.args.text.now c.loop-place.bytes.items fault (all_done _ _ _ c.loop-place.invariant (omega arith)) is)
