-- Lists in ranges and blocks: what repeats in each block of a range, and a list read from its end.
use Rattle.std.proofs.Common.{◌≡◌, ℕ, zero, suc, ◌+◌, ◌-◌, ◌*◌, ◌/◌, ◌%◌, ◌<◌, ◌≤◌, List, [], ◌∷◌, ◌++◌, map, length, take, drop, replicate, reverse, get_or, refl, sym, ap, ◌∙◌, arith, append_assoc}
use Rattle.std.specs.List.{flat_map, range_with_len, repeat}
use Rattle.std.proofs.lemmas.List.{append-nil, reverse-append, map-append, take_more, take_all}
use Rattle.std.proofs.lemmas.List.Concat.{flat_map-append}
use Rattle.std.proofs.lemmas.Nat.{div-mul-add}
use Rattle.std.proofs.lemmas.List.{take-take}
use Rattle.std.proofs.lemmas.List.Edits.{take-paste}
use Rattle.std.proofs.Math.Seq.{paste, take-append-add}
use Rattle.std.proofs.Math.Nat.{div-add-mod', mod-lt, mul-le-mul_right}

-- a range in two parts
pub range-append : (a m n : ℕ) → range_with_len a (m + n) ≡ range_with_len a m ++ range_with_len (a + m) n
range-append a zero n = let none : zero + n ≡ n = omega arith in let here : a + zero ≡ a = omega arith in rw (none, here) refl
range-append a (suc m) n =
    let count : suc m + n ≡ suc (m + n) = omega arith in
    let here : a + suc m ≡ (a + 1) + m = omega arith in
    rw (count, here) (ap (λ rest. a ∷ rest) (range-append (a + 1) m n))

-- a function that is one value over a range
pub map-range_same : {X : Type 0} (f : ℕ → X) (x : X) (a n : ℕ) → ((i : ℕ) → i < n → f (a + i) ≡ x) → map f (range_with_len a n) ≡ replicate n x
map-range_same f x a zero same = refl
map-range_same f x a (suc n) same =
    let first : f a ≡ x = (let here : a + 0 ≡ a = omega arith in ap f (sym here) ∙ same 0 (omega arith)) in
    let rest : map f (range_with_len (a + 1) n) ≡ replicate n x =
    map-range_same f x (a + 1) n (λ i below. let moved : (a + 1) + i ≡ a + suc i = omega arith in ap f moved ∙ same (suc i) (omega arith)) in
    rw (first, rest) refl

-- a list whose items each fill a block: the item at a place is found by division
pub map-blocks : {X : Type 0} (xs : List X) (d : X) (u n : ℕ) → 0 < u → n ≤ length xs →
    map (λ q. get_or xs (q / u) d) (range_with_len 0 (n * u)) ≡ flat_map (replicate u) (take n xs)
map-blocks xs d u zero some within = let none : zero * u ≡ 0 = omega arith in rw none refl
map-blocks xs d u (suc n) some within =
    let f = λ (q : ℕ). get_or xs (q / u) d in
    let count : suc n * u ≡ n * u + u = omega arith in
    let start : 0 + n * u ≡ n * u = omega arith in
    let block : map f (range_with_len (n * u) u) ≡ replicate u (get_or xs n d) =
    map-range_same f (get_or xs n d) (n * u) u (λ i below. ap (λ k. get_or xs k d) (div-mul-add n u i below)) in
    let one_more : take (suc n) xs ≡ take n xs ++ get_or xs n d ∷ [] = (let e : suc n ≡ n + 1 = omega arith in rw e (take_more xs n d (omega arith))) in
    rw (count, range-append 0 (n * u) u, start, map-append f, block, map-blocks xs d u n some (omega arith), one_more, flat_map-append (replicate u) (take n xs) (get_or xs n d ∷ []))
    (ap (λ last. flat_map (replicate u) (take n xs) ++ last) (sym (append-nil (replicate u (get_or xs n d)))))

-- the same over the whole list
pub map-all_blocks : {X : Type 0} (xs : List X) (d : X) (u n : ℕ) → 0 < u → n ≡ length xs * u →
    map (λ q. get_or xs (q / u) d) (range_with_len 0 n) ≡ flat_map (replicate u) xs
map-all_blocks xs d u n some whole =
    rw (whole, map-blocks xs d u (length xs) some (omega arith), take_all (length xs) xs (omega arith)) refl

-- one item at the end, seen from the end
pub reverse-cons : {X : Type 0} (x : X) (xs : List X) → reverse (x ∷ xs) ≡ reverse xs ++ x ∷ []
reverse-cons x xs = reverse-append (x ∷ []) xs

pub map-reverse : {X Y : Type 0} (f : X → Y) (xs : List X) → map f (reverse xs) ≡ reverse (map f xs)
map-reverse f [] = refl
map-reverse f (x ∷ xs) =
    rw (reverse-cons x xs, map-append f, map-reverse f xs, reverse-cons (f x) (map f xs)) refl

-- equal items, one more of them
pub replicate-push : {X : Type 0} (n : ℕ) (x : X) → replicate n x ++ x ∷ [] ≡ x ∷ replicate n x
replicate-push zero x = refl
replicate-push (suc n) x = ap (λ rest. x ∷ rest) (replicate-push n x)

pub reverse-replicate : {X : Type 0} (n : ℕ) (x : X) → reverse (replicate n x) ≡ replicate n x
reverse-replicate zero x = refl
reverse-replicate (suc n) x = reverse-cons x (replicate n x) ∙ ap (λ rest. rest ++ x ∷ []) (reverse-replicate n x) ∙ replicate-push n x

pub reverse-blocks : {X : Type 0} (u : ℕ) (xs : List X) → reverse (flat_map (replicate u) xs) ≡ flat_map (replicate u) (reverse xs)
reverse-blocks u [] = refl
reverse-blocks u (x ∷ xs) =
    rw (reverse-append (replicate u x) (flat_map (replicate u) xs), reverse-blocks u xs, reverse-replicate u x, reverse-cons x xs, flat_map-append (replicate u) (reverse xs) (x ∷ []))
    (ap (λ last. flat_map (replicate u) (reverse xs) ++ last) (sym (append-nil (replicate u x))))

-- what one item repeated gives
pub flat_map-replicate : {X Y : Type 0} (f : X → List Y) (n : ℕ) (x : X) → flat_map f (replicate n x) ≡ repeat n (f x)
flat_map-replicate f zero x = refl
flat_map-replicate f (suc n) x = ap (λ rest. f x ++ rest) (flat_map-replicate f n x)

-- blocks of equal items
pub flat_map-blocks : {X Y : Type 0} (f : X → List Y) (u : ℕ) (xs : List X) → flat_map f (flat_map (replicate u) xs) ≡ flat_map (λ x. repeat u (f x)) xs
flat_map-blocks f u [] = refl
flat_map-blocks f u (x ∷ xs) =
    rw (flat_map-append f (replicate u x) (flat_map (replicate u) xs), flat_map-replicate f u x, flat_map-blocks f u xs) refl

pub repeat-add : {X : Type 0} (m n : ℕ) (xs : List X) → repeat (m + n) xs ≡ repeat m xs ++ repeat n xs
repeat-add zero n xs = let none : zero + n ≡ n = omega arith in rw none refl
repeat-add (suc m) n xs =
    let count : suc m + n ≡ suc (m + n) = omega arith in
    rw count (ap (λ rest. xs ++ rest) (repeat-add m n xs) ∙ sym (append_assoc xs (repeat m xs) (repeat n xs)))

pub repeat-repeat : {X : Type 0} (m n : ℕ) (xs : List X) → repeat m (repeat n xs) ≡ repeat (m * n) xs
repeat-repeat zero n xs = let none : zero * n ≡ 0 = omega arith in rw none refl
repeat-repeat (suc m) n xs =
    let count : suc m * n ≡ n + m * n = omega arith in
    rw (count, repeat-add n (m * n) xs) (ap (λ rest. repeat n xs ++ rest) (repeat-repeat m n xs))

-- the first of the pieces that are left
pub repeat-one_less : {X : Type 0} (n i : ℕ) (xs : List X) → i < n → repeat (n - i) xs ≡ xs ++ repeat (n - (i + 1)) xs
repeat-one_less n i xs below = let count : n - i ≡ suc (n - (i + 1)) = omega arith in rw count refl

-- the first of equal pieces
pub take-repeat : {X : Type 0} (xs : List X) (size few many : ℕ) → length xs ≡ size → few ≤ many → take (few * size) (repeat many xs) ≡ repeat few xs
take-repeat xs size zero many sized within = let none : zero * size ≡ 0 = omega arith in rw none refl
take-repeat xs size (suc few) zero sized within = absurd (omega arith)
take-repeat xs size (suc few) (suc many) sized within =
    let count : suc few * size ≡ length xs + few * size = omega (arith, sized) in
    rw (count, take-append-add xs (repeat many xs) (few * size)) (ap (λ rest. xs ++ rest) (take-repeat xs size few many sized (omega arith)))

-- one copy more
pub copies-more : {X : Type 0} (rows first : List X) (size i : ℕ) → length first ≡ size → 0 < i → i * size + size ≤ length rows → take (i * size) rows ≡ repeat i first
    → take ((i + 1) * size) (paste rows (i * size) (drop 0 rows) (size - 0)) ≡ repeat (i + 1) first
copies-more rows first size i sized some room so_far =
    let count : (i + 1) * size ≡ i * size + (size - 0) = omega arith in
    let whole : size - 0 ≡ size = omega arith in
    let one : 1 * size ≡ size = omega arith in
    let below : size ≤ i * size = (let e = mul-le-mul_right size some in omega (arith, e)) in
    let front : take size rows ≡ first =
    sym (take-take size (i * size) rows below) ∙ ap (take size) so_far ∙ ap (λ n. take n (repeat i first)) (sym one) ∙ take-repeat first size 1 i sized some ∙ append-nil first in
    rw (count, take-paste rows (i * size) (drop 0 rows) (size - 0) (omega arith) (omega arith), so_far, whole, front)
    (sym (repeat-add i 1 first ∙ ap (λ last. repeat i first ++ last) (append-nil first)))

-- so many whole pieces, and the rest
pub pieces-whole : {X : Type 0} (rows first : List X) (size many times : ℕ) → length first ≡ size → 0 < many → take (many * size) rows ≡ repeat many first
    → repeat (times / many) (take (many * size) rows) ++ take (times % many * size) rows ≡ repeat times first
pieces-whole rows first size many times sized some copies =
    let few : times % many < many = mod-lt times some in
    let below : times % many * size ≤ many * size = mul-le-mul_right size (omega (arith, few)) in
    let last : take (times % many * size) rows ≡ repeat (times % many) first =
    sym (take-take (times % many * size) (many * size) rows below) ∙ ap (take (times % many * size)) copies ∙ take-repeat first size (times % many) many sized (omega (arith, few)) in
    rw (copies, last, repeat-repeat (times / many) many first, ← repeat-add (times / many * many) (times % many) first) (ap (λ n. repeat n first) (div-add-mod' times many))
