-- Steps whose refusals are the command's, with one answer.
use Rattle.std.proofs.Common.{◌≡◌, ◌⊎◌, inl, inr, sym, ap, ◌∙◌}
use Rattle.std.specs.Prelude.{Result, Ok, Err}
use Rattle.bar_base.proofs.OneStep.{IsOne, value_of, error_of}
use Rattle.zint_answers.specs.Steps.{answered, related}
use Rattle.zint_answers.specs.declared.fault.Fault.{Fault}
use Rattle.zint_answers.specs.declared.fault.Fault.TheVariants.{NoMemory, Refused}
use Rattle.zint_answers.specs.declared.refusal.Refusal.{Refusal}

refused_same : (r s : Refusal) → Refused r ≡ Refused s → r ≡ s
refused_same r s e = cc

-- A definition with faults of its own has one.
pub answered_one : {A E : Type 0} (fault_of : E → Fault) (given : Result A E) → IsOne (answered fault_of given)
answered_one fault_of given (Ok a) (Ok b) p q = ap (λ v. Ok v) (ap (value_of a) (sym p ∙ q))
answered_one fault_of given (Ok a) (Err s) p (fault, gives, is) = let e = sym p ∙ gives in cc
answered_one fault_of given (Err r) (Ok b) (fault, gives, is) q = let e = sym q ∙ gives in cc
answered_one fault_of given (Err r) (Err s) (fault, gives, is) (fault', gives', is') =
    let same : fault ≡ fault' = ap (error_of fault) (sym gives ∙ gives') in
    ap (λ x. Err x) (refused_same r s (sym is ∙ ap fault_of same ∙ is'))

-- A step of relations is one where there is one value, no fault beside it, and one fault besides want of memory.
pub related_one : {A E : Type 0} (fault_of : E → Fault) (is_value : A → Type 0) (is_fault : E → Type 0)
    → ((a b : A) → is_value a → is_value b → a ≡ b) → ((a : A) (f : E) → is_value a → is_fault f → fault_of f ≡ NoMemory)
    → ((f g : E) → is_fault f → is_fault g → (fault_of f ≡ NoMemory) ⊎ ((fault_of g ≡ NoMemory) ⊎ (f ≡ g)))
    → IsOne (related fault_of is_value is_fault)
related_one fault_of is_value is_fault values apart faults (Ok a) (Ok b) p q = ap (λ v. Ok v) (values a b p q)
related_one fault_of is_value is_fault values apart faults (Ok a) (Err s) p (g, is_g, is) =
    let e : NoMemory ≡ Refused s = sym (apart a g p is_g) ∙ is in cc
related_one fault_of is_value is_fault values apart faults (Err r) (Ok b) (f, is_f, is) q =
    let e : NoMemory ≡ Refused r = sym (apart b f q is_f) ∙ is in cc
related_one fault_of is_value is_fault values apart faults (Err r) (Err s) (f, is_f, is) (g, is_g, is') =
    ap (λ x. Err x) (by_faults (faults f g is_f is_g))
  where
    by_faults : (fault_of f ≡ NoMemory) ⊎ ((fault_of g ≡ NoMemory) ⊎ (f ≡ g)) → r ≡ s
    by_faults (inl none) = let e : NoMemory ≡ Refused r = sym none ∙ is in cc
    by_faults (inr (inl none)) = let e : NoMemory ≡ Refused s = sym none ∙ is' in cc
    by_faults (inr (inr same)) = refused_same r s (sym is ∙ ap fault_of same ∙ is')
