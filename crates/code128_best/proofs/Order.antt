-- Dictionary order and precedence of values.
use Rattle.std.proofs.Common.{◌≡◌, inl, inr, ℕ, ◌≤◌, List, [], ◌∷◌, length, refl, sym, ap, arith}
use Rattle.code128_best.specs.Spelling.{ValuesBefore, differ, same, ValuesPrecede}

pub ValuesPrecede-behind : (value : ℕ) (a b : List ℕ) → ValuesPrecede a b → ValuesPrecede (value ∷ a) (value ∷ b)
ValuesPrecede-behind value a b (inl shorter) = inl (omega arith)
ValuesPrecede-behind value a b (inr (as_long, inl alike)) = inr (omega arith, inl (ap (λ (x : List ℕ). value ∷ x) alike))
ValuesPrecede-behind value a b (inr (as_long, inr before)) = inr (omega arith, inr (same before))

pub ValuesPrecede-length : (a b : List ℕ) → ValuesPrecede a b → length a ≤ length b
ValuesPrecede-length a b (inl shorter) = omega arith
ValuesPrecede-length a b (inr (as_long, rest)) = omega arith

pub ValuesPrecede-nil : (b : List ℕ) → ValuesPrecede [] b
ValuesPrecede-nil [] = inr (refl, inl refl)
ValuesPrecede-nil (value ∷ b) = inl (omega arith)

ValuesBefore-once : {a b c d : List ℕ} → ValuesBefore a b → ValuesBefore c d → a ≡ d → b ≡ c → ⊥
ValuesBefore-once (differ {a = a} {b = b} {former = f} {latter = g} less) (differ {a = c} {b = d} {former = h} {latter = i} less') first second =
    let x : a ≡ d = cc in let y : b ≡ c = cc in omega arith
ValuesBefore-once (differ {a = a} {b = b} less) (same {value = v} after) first second = let x : a ≡ v = cc in let y : b ≡ v = cc in omega arith
ValuesBefore-once (same {value = v} before) (differ {a = a} {b = b} less) first second = let x : v ≡ b = cc in let y : v ≡ a = cc in omega arith
ValuesBefore-once (same before) (same after) first second = ValuesBefore-once before after (cc) (cc)

-- lists that precede each other are the same
pub ValuesPrecede-antisym : (a b : List ℕ) → ValuesPrecede a b → ValuesPrecede b a → a ≡ b
ValuesPrecede-antisym a b (inl shorter) other = absurd (omega (arith, ValuesPrecede-length b a other))
ValuesPrecede-antisym a b (inr (as_long, inl alike)) other = alike
ValuesPrecede-antisym a b (inr (as_long, inr before)) (inl shorter) = absurd (omega arith)
ValuesPrecede-antisym a b (inr (as_long, inr before)) (inr (long, inl alike)) = sym alike
ValuesPrecede-antisym a b (inr (as_long, inr before)) (inr (long, inr after)) = absurd (ValuesBefore-once before after refl refl)
