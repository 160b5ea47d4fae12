-- One bit of a byte, and one row of many.
use Rattle.std.proofs.Common.{◌≡◌, ℕ, zero, suc, ◌+◌, ◌-◌, ◌*◌, ◌/◌, ◌%◌, ◌^◌, ◌<◌, Bool, true, false, List, [], ◌∷◌, length, get_or, if◌then◌else◌, sym, ap, ◌∙◌, arith}
use Rattle.std.specs.List.{flat_map}
use Rattle.std.proofs.lemmas.List.{get_or_append_left, get_or-append-add}
use Rattle.std.proofs.lemmas.Nat.{shr-shr}
use Rattle.std.proofs.Math.Nat.{div-one}
use Rattle.bar_base.specs.Bits.{number_after}

-- the bits after a number, shifted away
front-after : (front : ℕ) (bits : List Bool) → number_after front bits / 2 ^ length bits ≡ front
unfolding number_after
front-after front [] = div-one front
front-after front (true ∷ bits) =
    let e : length bits + 1 ≡ suc (length bits) = omega arith in
    ap (λ k. number_after (front * 2 + 1) bits / 2 ^ k) (sym e) ∙ sym (shr-shr (number_after (front * 2 + 1) bits) (length bits) 1) ∙ ap (λ n. n / 2 ^ 1) (front-after (front * 2 + 1) bits) ∙ omega arith
front-after front (false ∷ bits) =
    let e : length bits + 1 ≡ suc (length bits) = omega arith in
    ap (λ k. number_after (front * 2 + 0) bits / 2 ^ k) (sym e) ∙ sym (shr-shr (number_after (front * 2 + 0) bits) (length bits) 1) ∙ ap (λ n. n / 2 ^ 1) (front-after (front * 2 + 0) bits) ∙ omega arith

-- one bit of the number
pub bit-after : (front : ℕ) (bits : List Bool) (r : ℕ) → r < length bits → number_after front bits / 2 ^ (length bits - 1 - r) % 2 ≡ (if get_or bits r false then 1 else 0)
unfolding number_after
bit-after front [] r inside = absurd (omega arith)
bit-after front (true ∷ bits) zero inside =
    let e : suc (length bits) - 1 - 0 ≡ length bits = omega arith in
    ap (λ k. number_after (front * 2 + 1) bits / 2 ^ k % 2) e ∙ ap (λ n. n % 2) (front-after (front * 2 + 1) bits) ∙ omega arith
bit-after front (false ∷ bits) zero inside =
    let e : suc (length bits) - 1 - 0 ≡ length bits = omega arith in
    ap (λ k. number_after (front * 2 + 0) bits / 2 ^ k % 2) e ∙ ap (λ n. n % 2) (front-after (front * 2 + 0) bits) ∙ omega arith
bit-after front (bit ∷ bits) (suc r) inside =
    let e : suc (length bits) - 1 - suc r ≡ length bits - 1 - r = omega arith in
    ap (λ k. number_after (front * 2 + (if bit then 1 else 0)) bits / 2 ^ k % 2) e ∙ bit-after (front * 2 + (if bit then 1 else 0)) bits r (omega arith)

-- an item of one of many rows of one length
pub get_or-rows : {X : Type 0} (f : X → List ℕ) (size : ℕ) (xs : List X) (i j : ℕ) (e : X) → ((x : X) → length (f x) ≡ size) → i < length xs → j < size
    → get_or (flat_map f xs) (size * i + j) 0 ≡ get_or (f (get_or xs i e)) j 0
get_or-rows f size [] i j e sized inside within = absurd (omega arith)
get_or-rows f size (x ∷ xs) zero j e sized inside within =
    let place : size * 0 + j ≡ j = omega arith in
    rw place (get_or_append_left (f x) (flat_map f xs) 0 j (omega (arith, sized x)))
get_or-rows f size (x ∷ xs) (suc i) j e sized inside within =
    let place : size * suc i + j ≡ length (f x) + (size * i + j) = rw (sized x) (omega arith) in
    rw (place, get_or-append-add (f x) (flat_map f xs) (size * i + j) 0) (get_or-rows f size xs i j e sized (omega arith) within)
