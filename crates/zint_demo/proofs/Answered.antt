-- What a later step answers, the steps answer.
use Rattle.std.proofs.Common.{◌≡◌, Ok, Err, subst, sym}
use Rattle.std.specs.Prelude.{IsErrAnd, Result}
use Rattle.bar_base.specs.Steps.{Step, Then}
use Rattle.zint_answers.specs.Steps.{MayAnswer, Refuses}
use Rattle.zint_answers.specs.declared.fault.Fault.{Fault}
use Rattle.zint_answers.proofs.Steps.{refused_first, refused_later}
use Rattle.zint_answers.specs.declared.refusal.Refusal.{Refusal}

-- after a first step that gave a value
pub answered_later : {X A B : Type 0} (view : X → B) (result : Result X Fault) (first : Step A Refusal) (second : A → Step B Refusal) (value : A) → first (Ok value)
    → MayAnswer view result (second value) → MayAnswer view result (Then first second)
answered_later view (Ok x) first second value gave answered = (value, gave, answered)
answered_later view (Err fault) first second value gave answered = refused_later first second value fault gave answered

-- at a first step that was refused
pub answered_first : {X A B : Type 0} (view : X → B) (result : Result X Fault) (first : Step A Refusal) (second : A → Step B Refusal) (fault : Fault) → IsErrAnd result (λ f. f ≡ fault)
    → Refuses first fault → MayAnswer view result (Then first second)
answered_first view (Ok x) first second fault is refused = absurd is
answered_first view (Err f) first second fault is refused =
    subst (λ g. MayAnswer view (Err g) (Then first second)) (sym is) (refused_first first second fault refused)
