-- Dictionary order and precedence of bits.
use Rattle.std.proofs.Common.{◌≡◌, inl, inr, ◌≤◌, Bool, List, [], ◌∷◌, ◌++◌, length, refl, sym, ap, arith}
use Rattle.std.proofs.lemmas.List.{length-append}
use Rattle.aztec_best.specs.Order.{IsBefore, differ, same}
use Rattle.aztec_best.specs.Shortest.{Precedes}

-- what follows does not change the order
pub IsBefore-append : {former latter : List Bool} (a b : List Bool) → IsBefore former latter → IsBefore (former ++ a) (latter ++ b)
IsBefore-append a b differ = differ
IsBefore-append a b (same before) = same (IsBefore-append a b before)

-- the same bits in front do not change the order
pub IsBefore-behind : (front : List Bool) {a b : List Bool} → IsBefore a b → IsBefore (front ++ a) (front ++ b)
IsBefore-behind [] before = before
IsBefore-behind (bit ∷ front) before = same (IsBefore-behind front before)

pub Precedes-behind : (front : List Bool) (a b : List Bool) → Precedes a b → Precedes (front ++ a) (front ++ b)
Precedes-behind front a b (inl shorter) = inl (omega (arith, length-append front a, length-append front b))
Precedes-behind front a b (inr (as_long, inl alike)) = inr (ap (λ (x : List Bool). length (front ++ x)) alike, inl (ap (λ (x : List Bool). front ++ x) alike))
Precedes-behind front a b (inr (as_long, inr before)) =
    inr (omega (arith, length-append front a, length-append front b), inr (IsBefore-behind front before))

pub Precedes-refl : (a : List Bool) → Precedes a a
Precedes-refl a = inr (refl, inl refl)

-- what precedes is not longer
pub Precedes-length : (a b : List Bool) → Precedes a b → length a ≤ length b
Precedes-length a b (inl shorter) = omega arith
Precedes-length a b (inr (as_long, rest)) = omega arith

-- nothing precedes no bits but no bits
pub Precedes-nil : (b : List Bool) → Precedes [] b
Precedes-nil [] = inr (refl, inl refl)
Precedes-nil (bit ∷ b) = inl (omega arith)

-- not both ways
pub IsBefore-once : {a b c d : List Bool} → IsBefore a b → IsBefore c d → a ≡ d → b ≡ c → ⊥
IsBefore-once differ differ first second = cc
IsBefore-once differ (same after) first second = cc
IsBefore-once (same before) differ first second = cc
IsBefore-once (same before) (same after) first second = IsBefore-once before after (cc) (cc)

-- bits that precede each other are the same
pub Precedes-antisym : (a b : List Bool) → Precedes a b → Precedes b a → a ≡ b
Precedes-antisym a b (inl shorter) other = absurd (omega (arith, Precedes-length b a other))
Precedes-antisym a b (inr (as_long, inl alike)) other = alike
Precedes-antisym a b (inr (as_long, inr before)) (inl shorter) = absurd (omega arith)
Precedes-antisym a b (inr (as_long, inr before)) (inr (long, inl alike)) = sym alike
Precedes-antisym a b (inr (as_long, inr before)) (inr (long, inr after)) = absurd (IsBefore-once before after refl refl)
