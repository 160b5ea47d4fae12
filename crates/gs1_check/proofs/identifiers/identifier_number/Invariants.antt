use Rattle.gs1_check.proofs.Digits.{Read}
use Rattle.gs1_check.proofs.identifiers.identifier_number.Given as goal

abbrev pub invariant-loop-digit : goal.invariant-loop-digit
invariant-loop-digit l = Read l.digits l.digit-index l.number
