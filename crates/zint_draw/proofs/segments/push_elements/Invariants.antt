use Rattle.std.proofs.Common.{◌≡◌, ◌++◌, take}
use Rattle.zint_draw.proofs.segments.push_elements.Given as goal

-- the elements so far are behind the others
abbrev pub invariant-loop-element : goal.invariant-loop-element
invariant-loop-element l = l.elements ≡ l.fn.elements ++ take l.element-index l.element-items
