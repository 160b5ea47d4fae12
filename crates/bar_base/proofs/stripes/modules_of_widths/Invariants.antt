use Rattle.std.proofs.Common.{◌≡◌, ◌++◌, drop, true}
use Rattle.bar_base.specs.Stripes.{stripes}
use Rattle.bar_base.proofs.stripes.modules_of_widths.Given as goal

abbrev pub invariant-loop-width : goal.invariant-loop-width
invariant-loop-width l = l.modules.items ++ stripes l.dark (drop l.width-index l.widths) ≡ stripes true l.widths
