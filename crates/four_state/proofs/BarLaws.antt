-- Rows of bars and the shape of the picture.
use Rattle.std.proofs.Common.{◌≡◌, ℕ, ◌-◌, ◌*◌, ◌≤◌, Bool, true, false, List, [], ◌∷◌, ◌++◌, length, take, drop, replicate, get_or, mul-suc, refl, sym, ap, append_assoc, length-drop, ◌∙◌, arith}
use Rattle.std.specs.List.{flat_map}
use Rattle.std.proofs.lemmas.List.{take_all, length-append, length-replicate}
use Rattle.std.proofs.lemmas.List.Elements.{All-nil, All-cons}
use Rattle.bar_base.specs.Picture.{IsShaped}
use Rattle.four_state.specs.FourState.{spaced}

pub spaced_is : (bars : List Bool) (d : Bool) → 1 ≤ length bars → spaced bars ≡ get_or bars 0 d ∷ flat_map (λ bar. false ∷ bar ∷ []) (drop 1 bars)
unfolding spaced
spaced_is [] d some = absurd (omega arith)
spaced_is (first ∷ bars) d some = refl

-- the first bar, and all others
pub spaced_joined : (old new whole bars : List Bool) (i : ℕ) → 1 ≤ length bars → length (take (length bars - 1) (drop 1 bars)) ≤ i
    → new ≡ old ++ get_or bars 0 false ∷ [] → whole ≡ new ++ flat_map (λ bar. false ∷ bar ∷ []) (take i (take (length bars - 1) (drop 1 bars)))
    → whole ≡ old ++ spaced bars
spaced_joined old new whole bars i some past first is =
    let rest : take (length bars - 1) (drop 1 bars) ≡ drop 1 bars = take_all (length bars - 1) (drop 1 bars) (omega (arith, length-drop 1 bars)) in
    let all : take i (take (length bars - 1) (drop 1 bars)) ≡ drop 1 bars = take_all i (take (length bars - 1) (drop 1 bars)) past ∙ rest in
    is ∙ ap (λ (xs : List Bool). new ++ flat_map (λ bar. false ∷ bar ∷ []) xs) all
    ∙ ap (λ (xs : List Bool). xs ++ flat_map (λ bar. false ∷ bar ∷ []) (drop 1 bars)) first
    ∙ append_assoc old (get_or bars 0 false ∷ []) (flat_map (λ bar. false ∷ bar ∷ []) (drop 1 bars))
    ∙ ap (λ (xs : List Bool). old ++ xs) (sym (spaced_is bars false some))

length-spaces : (bars : List Bool) → length (flat_map (λ bar. false ∷ bar ∷ []) bars) ≡ 2 * length bars
length-spaces [] = refl
length-spaces (bar ∷ bars) = let rest = length-spaces bars in rw (mul-suc 2 (length bars)) (omega arith)

pub length-spaced : (bars : List Bool) → 1 ≤ length bars → length (spaced bars) ≡ 2 * length bars - 1
unfolding spaced
length-spaced [] some = absurd (omega arith)
length-spaced (first ∷ bars) some = let rest = length-spaces bars in rw (mul-suc 2 (length bars)) (omega arith)

abbrev IsHeight : ℕ → Type 0
IsHeight height = (1 ≤ height) × (height ≤ 200)

pub shaped : (ascenders descenders modules : List Bool) → 1 ≤ length ascenders → length ascenders ≤ 1000 → length descenders ≡ length ascenders
    → modules ≡ spaced ascenders ++ spaced (replicate (length ascenders) true) ++ spaced descenders
    → IsShaped (record { width = 2 * length ascenders - 1; heights = 3 ∷ 2 ∷ 3 ∷ []; modules = modules })
shaped ascenders descenders modules some few alike whole =
    let n = length ascenders in
    let middle = replicate n true in
    let middles : length middle ≡ n = length-replicate n true in
    let first = length-spaced ascenders some in
    let second = length-spaced middle (omega arith) in
    let third = length-spaced descenders (omega arith) in
    let joined = length-append (spaced ascenders ++ spaced middle) (spaced descenders) in
    let front = length-append (spaced ascenders) (spaced middle) in
    let all : length modules ≡ length (spaced ascenders ++ spaced middle ++ spaced descenders) = ap length whole in
    record {
      whole = omega arith;
      wide = omega arith;
      narrow = omega arith;
      tall = omega arith;
      short = omega arith;
      small = omega arith;
      heights =
          All-cons IsHeight 3 (2 ∷ 3 ∷ []) (omega arith, omega arith)
          (All-cons IsHeight 2 (3 ∷ []) (omega arith, omega arith) (All-cons IsHeight 3 [] (omega arith, omega arith) (All-nil IsHeight)));
    }
