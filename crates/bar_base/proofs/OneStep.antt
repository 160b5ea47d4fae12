-- Steps with one answer.
use Rattle.std.proofs.Common.{◌≡◌, ◌⊎◌, inl, inr, Bool, true, false, sym, ap, subst, ◌∙◌}
use Rattle.std.specs.Prelude.{MatchBool, Result, Ok, Err}
use Rattle.bar_base.specs.Steps.{Step, ◌>>=◌, never_refused, only}

-- Two answers of a step are the same.
abbrev pub IsOne : {A E : Type 0} → Step A E → Type 0
IsOne {A} {E} step = (one other : Result A E) → step one → step other → one ≡ other

-- The value of a result, or this other one.
abbrev pub value_of : {A E : Type 0} → A → Result A E → A
value_of other (Ok value) = value
value_of other (Err fault) = other

-- The refusal of a result, or this other one.
abbrev pub error_of : {A E : Type 0} → E → Result A E → E
error_of other (Ok value) = other
error_of other (Err fault) = fault

-- The step with this one answer has one.
pub only_one : {A E : Type 0} (answer : Result A E) → IsOne (only answer)
only_one answer one other p q = p ∙ sym q

-- A step and the one after it have one where both have.
pub then_one : {A B E : Type 0} (first : Step A E) (second : A → Step B E) → IsOne first → ((x : A) → IsOne (second x)) → IsOne (first >>= second)
then_one {A} {B} {E} first second one_first one_second (Ok v) (Ok w) (x, is_x, is_v) (y, is_y, is_w) =
    one_second y (Ok v) (Ok w) (subst (λ (z : A). second z (Ok v)) (ap (value_of x) (one_first (Ok x) (Ok y) is_x is_y)) is_v) is_w
then_one {A} {B} {E} first second one_first one_second (Ok v) (Err s) (x, is_x, is_v) (inl refused) =
    let e = one_first (Ok x) (Err s) is_x refused in cc
then_one {A} {B} {E} first second one_first one_second (Ok v) (Err s) (x, is_x, is_v) (inr (y, is_y, is_s)) =
    one_second y (Ok v) (Err s) (subst (λ (z : A). second z (Ok v)) (ap (value_of x) (one_first (Ok x) (Ok y) is_x is_y)) is_v) is_s
then_one {A} {B} {E} first second one_first one_second (Err r) (Ok w) (inl refused) (y, is_y, is_w) =
    let e = one_first (Err r) (Ok y) refused is_y in cc
then_one {A} {B} {E} first second one_first one_second (Err r) (Ok w) (inr (x, is_x, is_r)) (y, is_y, is_w) =
    one_second y (Err r) (Ok w) (subst (λ (z : A). second z (Err r)) (ap (value_of x) (one_first (Ok x) (Ok y) is_x is_y)) is_r) is_w
then_one {A} {B} {E} first second one_first one_second (Err r) (Err s) (inl refused) (inl refused') =
    ap (λ e. Err e) (ap (error_of r) (one_first (Err r) (Err s) refused refused'))
then_one {A} {B} {E} first second one_first one_second (Err r) (Err s) (inl refused) (inr (y, is_y, is_s)) =
    let e = one_first (Err r) (Ok y) refused is_y in cc
then_one {A} {B} {E} first second one_first one_second (Err r) (Err s) (inr (x, is_x, is_r)) (inl refused) =
    let e = one_first (Ok x) (Err s) is_x refused in cc
then_one {A} {B} {E} first second one_first one_second (Err r) (Err s) (inr (x, is_x, is_r)) (inr (y, is_y, is_s)) =
    one_second y (Err r) (Err s) (subst (λ (z : A). second z (Err r)) (ap (value_of x) (one_first (Ok x) (Ok y) is_x is_y)) is_r) is_s

-- A choice between two steps has one where both have.
pub either_one : {A E : Type 0} (choice : Bool) (one_step other_step : Step A E) → IsOne one_step → IsOne other_step
    → IsOne (λ answer. MatchBool choice (one_step answer) (other_step answer))
either_one true one_step other_step p q = p
either_one false one_step other_step p q = q

-- A step that is never refused is one where there is one value.
pub never_one : {A E : Type 0} (is_value : A → Type 0) → ((a b : A) → is_value a → is_value b → a ≡ b) → IsOne (never_refused {A = A} {E = E} is_value)
never_one is_value values (Ok a) (Ok b) p q = ap (λ v. Ok v) (values a b p q)
never_one is_value values (Ok a) (Err s) p q = absurd q
never_one is_value values (Err r) other p q = absurd p
