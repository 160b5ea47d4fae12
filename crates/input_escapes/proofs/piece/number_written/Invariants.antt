use Rattle.input_escapes.proofs.Digits.{Read}
use Rattle.input_escapes.proofs.piece.number_written.Given as goal

abbrev pub invariant-loop-digit : goal.invariant-loop-digit
invariant-loop-digit l = Read l.base l.digits l.digit-index l.number
