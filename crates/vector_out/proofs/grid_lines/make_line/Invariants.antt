use Rattle.std.proofs.Common.{◌≡◌, map, take}
use Rattle.bar_base.specs.GridText.{module_text}
use Rattle.bar_base.specs.Picture.{row_of}
use Rattle.vector_out.proofs.grid_lines.make_line.Given as goal

-- the text is that of the modules on the left
abbrev pub invariant-loop-x : goal.invariant-loop-x
invariant-loop-x l = l.line.items ≡ map module_text (take l.x (row_of l.grid l.y))
