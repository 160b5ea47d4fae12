-- Results in a row: each refuses, or gives what the next one takes.
use Rattle.std.specs.Prelude.{◌≡◌, Option, Result, Ok, Err, IfSome}

-- What the second step gives on the value of the first, or the refusal of the first.
infixl 10 ◌>>=◌
abbrev pub ◌>>=◌ : {A B E : Type 0} → Result A E → (A → Result B E) → Result B E
(Ok value) >>= second = second value
(Err refusal) >>= second = Err refusal

-- What a call gave, seen by `view`, is what its definition gives. A fault that is no refusal, as want of memory, may come anywhere.
abbrev pub Gives : {A B F E : Type 0} → (refusal : F → Option E) → (view : A → B) → Result A F → (defined : Result B E) → Type 0
Gives refusal view (Ok given) defined = defined ≡ Ok (view given)
Gives refusal view (Err fault) defined = IfSome (refusal fault) (λ refused. defined ≡ Err refused)
