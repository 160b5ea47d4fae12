use Rattle.std.proofs.Common.{◌≡◌, ◌++◌, List, ℕ, [], true, false, subst, sym, ap, ◌∙◌, append-nil}
use Rattle.bar_base.specs.Picture.{row_of}
use Rattle.bar_base.proofs.Appended.{on_refusal}
use Rattle.bar_base.proofs.Buffered.{WritesFront-none}
use Rattle.vector_out.specs.Drawing.{rectangle_line, run_line, EndsInside}
use Rattle.vector_out.specs.Runs.{begins_run}
use Rattle.vector_out.proofs.RectanglesInside.{ends_inside}
use Rattle.vector_out.proofs.RunLines.{run_line-some, run_line-none}
use Rattle.vector_out.proofs.drawing.put_run.Goals as goal

pub returns-then-not-begins_run-clause-whole : goal.returns-then-not-begins_run-clause-whole
returns-then-not-begins_run-clause-whole g c =
    let none : begins_run (row_of c.args.grid.now c.args.y) c.args.x ≡ false = sym c.begins_run.ensures ∙ c.if-not-begins_run.true in
    let no_line : run_line c.args.form c.args.paint c.args.grid.now c.args.y c.args.x ≡ [] = run_line-none c.args.form c.args.paint c.args.grid.now c.args.y c.args.x none in
    WritesFront-none (g.S.Sink.held c.args.sink.now) _ c.args.waiting.now (sym (ap (λ (line : List ℕ). c.args.waiting.now ++ line) no_line ∙ append-nil c.args.waiting.now))

pub rectangle_line-line-requires : goal.rectangle_line-line-requires
rectangle_line-line-requires g c =
    let inside : EndsInside c.args.form c.rectangle_of.result =
    subst (EndsInside c.args.form) (sym c.rectangle_of.ensures) (ends_inside c.args.form c.args.paint c.args.grid.now c.args.y c.args.x c.requires.row c.requires.form) in
    record { inside = inside }

pub returns-in_err-put-clause-part : goal.returns-in_err-put-clause-part
returns-in_err-put-clause-part g c =
    let some : begins_run (row_of c.args.grid.now c.args.y) c.args.x ≡ true = sym c.begins_run.ensures ∙ c.if-not-begins_run.false in
    let line : c.as_slice.result.now ≡ run_line c.args.form c.args.paint c.args.grid.now c.args.y c.args.x =
    c.as_slice.ensures.value ∙ c.rectangle_line-line.ensures ∙ ap (rectangle_line c.args.form) c.rectangle_of.ensures ∙ sym (run_line-some c.args.form c.args.paint c.args.grid.now c.args.y c.args.x some) in
    on_refusal _ (rw line at c.in_err-put.ensures.part)

pub returns-clause-whole : goal.returns-clause-whole
returns-clause-whole g c =
    let some : begins_run (row_of c.args.grid.now c.args.y) c.args.x ≡ true = sym c.begins_run.ensures ∙ c.if-not-begins_run.false in
    let line : c.as_slice.result.now ≡ run_line c.args.form c.args.paint c.args.grid.now c.args.y c.args.x =
    c.as_slice.ensures.value ∙ c.rectangle_line-line.ensures ∙ ap (rectangle_line c.args.form) c.rectangle_of.ensures ∙ sym (run_line-some c.args.form c.args.paint c.args.grid.now c.args.y c.args.x some) in
    rw line at c.in_ok-put.ensures.whole
