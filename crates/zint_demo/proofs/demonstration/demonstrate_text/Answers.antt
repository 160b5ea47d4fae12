use Rattle.std.proofs.Common.{ℕ, List, [], Ok, subst}
use Rattle.bar_base.specs.Steps.{Step, Then}
use Rattle.zint_demo.specs.Demonstration.{adds_line, demonstrates_text, shows_last_symbol}
use Rattle.zint_demo.specs.declared.demonstration.Demonstration.{Demonstration}
use Rattle.zint_demo.proofs.Answered.{answered_first, answered_later}
use Rattle.zint_demo.proofs.demonstration.demonstrate_text.Goals as goal
use Rattle.zint_answers.specs.declared.refusal.Refusal.{Refusal}

-- the steps behind the lines of one prefix, of two and of three
after_three : (text lines : List ℕ) → Step Demonstration Refusal
after_three text hundred = Then (adds_line hundred text 500) (λ lines. shows_last_symbol lines text)

after_two : (text lines : List ℕ) → Step Demonstration Refusal
after_two text ten = Then (adds_line ten text 100) (λ hundred. after_three text hundred)

after_one : (text lines : List ℕ) → Step Demonstration Refusal
after_one text one = Then (adds_line one text 10) (λ ten. after_two text ten)

pub returns-in_err-lines-clause-given : goal.returns-in_err-lines-clause-given
unfolding demonstrates_text after_one after_two after_three
returns-in_err-lines-clause-given c =
    answered_later (λ shown. shown) c.from_residual-in_err-lines.result (adds_line [] c.args.text.now 1) (λ one. after_one c.args.text.now one) c.in_ok-one.one.items
    (subst (λ (l : List ℕ). adds_line l c.args.text.now 1 (Ok c.in_ok-one.one.items)) c.new-none.ensures.items c.in_ok-one.ensures)
    (answered_later (λ shown. shown) c.from_residual-in_err-lines.result (adds_line c.in_ok-one.one.items c.args.text.now 10) (λ ten. after_two c.args.text.now ten) c.in_ok-ten.ten.items
    c.in_ok-ten.ensures
    (answered_later (λ shown. shown) c.from_residual-in_err-lines.result (adds_line c.in_ok-ten.ten.items c.args.text.now 100) (λ hundred. after_three c.args.text.now hundred)
    c.in_ok-hundred.hundred.items c.in_ok-hundred.ensures
    (answered_first (λ shown. shown) c.from_residual-in_err-lines.result (adds_line c.in_ok-hundred.hundred.items c.args.text.now 500) (λ lines. shows_last_symbol lines c.args.text.now)
    c.in_err-lines.field-0.0 c.from_residual-in_err-lines.ensures.1 c.in_err-lines.ensures)))

pub returns-clause-given : goal.returns-clause-given
unfolding demonstrates_text after_one after_two after_three
returns-clause-given c =
    answered_later (λ shown. shown) c.with_grid.result (adds_line [] c.args.text.now 1) (λ one. after_one c.args.text.now one) c.in_ok-one.one.items
    (subst (λ (l : List ℕ). adds_line l c.args.text.now 1 (Ok c.in_ok-one.one.items)) c.new-none.ensures.items c.in_ok-one.ensures)
    (answered_later (λ shown. shown) c.with_grid.result (adds_line c.in_ok-one.one.items c.args.text.now 10) (λ ten. after_two c.args.text.now ten) c.in_ok-ten.ten.items
    c.in_ok-ten.ensures
    (answered_later (λ shown. shown) c.with_grid.result (adds_line c.in_ok-ten.ten.items c.args.text.now 100) (λ hundred. after_three c.args.text.now hundred) c.in_ok-hundred.hundred.items
    c.in_ok-hundred.ensures
    (answered_later (λ shown. shown) c.with_grid.result (adds_line c.in_ok-hundred.hundred.items c.args.text.now 500) (λ lines. shows_last_symbol lines c.args.text.now) c.in_ok-lines.lines.items
    c.in_ok-lines.ensures c.with_grid.ensures.given)))
