use Rattle.std.proofs.Common.{◌≡◌, map, take}
use Rattle.linear_reader.specs.Data.{digit_element}
use Rattle.linear_reader.proofs.spelling.digits_of.Given as goal

abbrev pub invariant-loop-digit : goal.invariant-loop-digit
invariant-loop-digit l = l.elements ≡ map digit_element (take l.digit-index l.digits)
