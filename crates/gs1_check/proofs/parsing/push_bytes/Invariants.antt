use Rattle.std.proofs.Common.{◌≡◌, ◌++◌, map, take}
use Rattle.bar_base.specs.declared.element.Element.TheVariants.{Byte}
use Rattle.gs1_check.proofs.parsing.push_bytes.Given as goal

abbrev pub invariant-loop-byte : goal.invariant-loop-byte
invariant-loop-byte l = l.body ≡ l.fn.body ++ map (λ c. Byte c) (take l.byte-index l.bytes)
