use Rattle.std.proofs.Common.{◌≡◌, ◌*◌, ◌+◌, ◌∙◌, Bool, List, [], ◌∷◌, ◌++◌, Some, sym, ap, arith}
use Rattle.std.specs.List.{slice_get}
use Rattle.bar_base.proofs.ListLemmas.{take_next}
use Rattle.linear_reader.proofs.modules.row_of.Goals as goal

pub loop-column-preserved : goal.loop-column-preserved
loop-column-preserved c =
    let here : slice_get c.args.grid.now.modules c.loop-column.column ≡ Some c.dark.result =
    ap (slice_get c.args.grid.now.modules) (let e : c.loop-column.column ≡ 0 * c.args.grid.now.width + c.loop-column.column = omega arith in e) ∙ c.dark.ensures.module in
    c.in_ok-push.ensures.items
    ∙ ap (λ (xs : List Bool). xs ++ c.dark.result ∷ []) c.loop-column.invariant
    ∙ sym (take_next c.args.grid.now.modules c.loop-column.column c.dark.result here)
