use Rattle.std.proofs.Common.{drop}
use Rattle.std.specs.Option.{unwrap_or}
use Rattle.std.specs.String.{string_bytes}
use Rattle.eci_sets.proofs.Walking.{Walked}
use Rattle.eci_sets.proofs.joined_text.text_of_elements.Given as goal

abbrev pub invariant-loop-element : goal.invariant-loop-element
invariant-loop-element l = Walked (unwrap_or l.fn.eci 3) l.elements l.number l.part.items (string_bytes l.text) (drop l.element-index l.elements)
