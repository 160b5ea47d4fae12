-- Faults of linear symbols.
use Rattle.std.proofs.Common.{◌≡◌, ℕ, Result, Err, IfSome, subst, sym, refl}
use Rattle.bar_base.specs.Text.{refusal_of}
use Rattle.bar_base.specs.declared.linear.Linear.{Linear}
use Rattle.bar_base.specs.declared.linear.LinearFault.{LinearFault}
use Rattle.bar_base.specs.declared.linear.LinearFault.TheVariants as linear_variants
use Rattle.zint_answers.specs.Steps.{Refuses, answered}
use Rattle.zint_answers.specs.declared.fault.Fault.{Fault}
use Rattle.zint_draw.specs.symbologies.Linear.{linear_fault}

-- a fault of drawing is one of the step
pub linear_answered : (most : ℕ) (given : Result Linear LinearFault) (fault : LinearFault) (f : Fault) → f ≡ linear_fault most fault
    → IfSome (refusal_of fault) (λ refused. given ≡ Err refused) → Refuses (answered (linear_fault most) given) f
linear_answered most given linear_variants.NoMemory f is gives = subst (Refuses (answered (linear_fault most) given)) (sym is) tt
linear_answered most given (linear_variants.BadCharacter place) f is gives =
    subst (Refuses (answered (linear_fault most) given)) (sym is) (linear_variants.BadCharacter place, gives, refl)
linear_answered most given linear_variants.TooLong f is gives =
    subst (Refuses (answered (linear_fault most) given)) (sym is) (linear_variants.TooLong, gives, refl)
linear_answered most given (linear_variants.BadCheck place digit wanted) f is gives =
    subst (Refuses (answered (linear_fault most) given)) (sym is) (linear_variants.BadCheck place digit wanted, gives, refl)
