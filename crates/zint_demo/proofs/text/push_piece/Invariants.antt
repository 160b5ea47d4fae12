use Rattle.std.proofs.Common.{◌-◌, ◌++◌}
use Rattle.zint_demo.specs.Text.{bytes_behind, state_behind}
use Rattle.zint_demo.proofs.Texts.{PieceSoFar}
use Rattle.zint_demo.proofs.text.push_piece.Given as goal

abbrev pub invariant-loop : goal.invariant-loop
invariant-loop l =
    PieceSoFar l.class l.generator.state (l.length - l.counter) l.text.items
    (l.initial.text.items ++ bytes_behind l.class l.initial.generator.state l.length)
    (state_behind l.initial.generator.state l.length)
