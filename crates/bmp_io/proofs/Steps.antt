-- Where a row of steps ends.
use Rattle.std.proofs.Common.{◌≡◌, Result, Ok, Err, refl, sym}
use Rattle.bar_base.specs.Results.{◌>>=◌, Gives}
use Rattle.bmp_io.specs.declared.fault.BmpFault.{BmpFault}
use Rattle.bmp_io.specs.declared.fault.BmpFault.TheVariants.{NoMemory, NotBmp, Unsupported, Truncated, BadSize}
use Rattle.bmp_io.specs.Refusals.{bmp_refusal}

-- at its first step
pub stopped : {A B E : Type 0} (first : Result A E) (second : A → Result B E) (refusal : E) → Err refusal ≡ first → Err refusal ≡ (first >>= second)
stopped first second refusal is = rw (← is) refl

-- after its first step
pub stepped : {A B E : Type 0} (first : Result A E) (second : A → Result B E) (value : A) (answer : Result B E) → Ok value ≡ first → answer ≡ second value
    → answer ≡ (first >>= second)
stepped first second value answer is later = rw (← is) later

-- a refusal is given where it is the answer
pub given_refusal : {A : Type 0} (fault : BmpFault) (defined : Result A BmpFault) → Err fault ≡ defined → Gives {A = A} {B = A} bmp_refusal (λ value. value) (Err fault) defined
given_refusal NoMemory defined is = tt
given_refusal NotBmp defined is = sym is
given_refusal (Unsupported field) defined is = sym is
given_refusal (Truncated length) defined is = sym is
given_refusal (BadSize width height) defined is = sym is

-- what the second step gives, the row gives
pub given_later : {A B : Type 0} (first : Result A BmpFault) (second : A → Result B BmpFault) (value : A) (given : Result B BmpFault) → Ok value ≡ first
    → Gives {A = B} {B = B} bmp_refusal (λ value. value) given (second value) → Gives {A = B} {B = B} bmp_refusal (λ value. value) given (first >>= second)
given_later first second value given is later = rw (← is) later

pub ruleset stepping = (stopped, stepped, given_refusal, given_later)
