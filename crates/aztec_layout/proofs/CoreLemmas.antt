-- The modules of the core are apart: finder, marks, mode message and reference grid.
use Rattle.std.proofs.Common.{◌≡◌, ◌≢◌, ℕ, ◌+◌, ◌*◌, ◌%◌, ◌<◌, ◌≤◌, ◌⊎◌, Bool, true, false, refl, ap, sym, ◌∙◌, inl, inr, max, ⊎_elim, arith}
use Rattle.std.specs.Prelude.{◌&&◌, ◌||◌, ◌==◌, nat_lt}
use Rattle.std.proofs.lemmas.Bool.{cases_Bool, cases_lt}
use Rattle.std.proofs.lemmas.Bool.Decides.{nat_tests}
use Rattle.std.specs.Int.{abs_diff}
use Rattle.aztec_layout.specs.Core.{ring_of, is_core, is_dark_core, is_dark_finder, is_dark_fixed, is_dark_mark, is_dark_reference, is_finder, is_light_mark, is_reference, mode_place, mode_run, rim_of}
use Rattle.aztec_layout.proofs.Spots.{off_lines}

-- how far a module of the mode message lies from the lines through the centre
pub record IsOnSide (f : Bool) (along across : ℕ) : Type 0 where
  pub rim : across ≡ rim_of f
  pub inner : along + 2 ≤ rim_of f
  pub off : f ≡ true → 1 ≤ along

-- on the top and at the bottom, and at the right and the left
across_side : (f : Bool) (centre t : ℕ) → rim_of f ≤ centre → t < 4 * mode_run f → (t < mode_run f) ⊎ ((2 * mode_run f ≤ t) × (t < 3 * mode_run f)) →
    IsOnSide f (abs_diff (mode_place f centre t).0 centre) (abs_diff (mode_place f centre t).1 centre)
across_side true centre t room inside part =
    record { rim = grind (arith, nat_tests); inner = grind (arith, nat_tests); off = λ full. grind (arith, nat_tests) }
across_side false centre t room inside part =
    record { rim = grind (arith, nat_tests); inner = grind (arith, nat_tests); off = λ full. absurd (cc) }

down_side : (f : Bool) (centre t : ℕ) → rim_of f ≤ centre → t < 4 * mode_run f → (3 * mode_run f ≤ t) ⊎ ((mode_run f ≤ t) × (t < 2 * mode_run f)) →
    IsOnSide f (abs_diff (mode_place f centre t).1 centre) (abs_diff (mode_place f centre t).0 centre)
down_side true centre t room inside part =
    record { rim = grind (arith, nat_tests); inner = grind (arith, nat_tests); off = λ full. grind (arith, nat_tests) }
down_side false centre t room inside part =
    record { rim = grind (arith, nat_tests); inner = grind (arith, nat_tests); off = λ full. absurd (cc) }

pub mode_side : (f : Bool) (centre t : ℕ) → rim_of f ≤ centre → t < 4 * mode_run f →
    IsOnSide f (abs_diff (mode_place f centre t).0 centre) (abs_diff (mode_place f centre t).1 centre)
    ⊎ IsOnSide f (abs_diff (mode_place f centre t).1 centre) (abs_diff (mode_place f centre t).0 centre)
mode_side f centre t room inside = ⊎_elim
    (λ h. inl (across_side f centre t room inside (inl h)))
    (λ h. ⊎_elim
    (λ k. inr (down_side f centre t room inside (inr (h, k))))
    (λ k. ⊎_elim
    (λ m. inl (across_side f centre t room inside (inr (k, m))))
    (λ m. inr (down_side f centre t room inside (inl m)))
    (cases_lt t (3 * mode_run f)))
    (cases_lt t (2 * mode_run f)))
    (cases_lt t (mode_run f))

-- a mark lies at a corner of the rim
pub record IsAtCorner (f : Bool) (across down : ℕ) : Type 0 where
  pub column : rim_of f ≤ across + 1
  pub row : rim_of f ≤ down + 1
  pub far : across ≤ rim_of f
  pub deep : down ≤ rim_of f

pub dark_mark_corner : (f : Bool) (centre x y : ℕ) → rim_of f ≤ centre → is_dark_mark f centre x y ≡ true →
    IsAtCorner f (abs_diff x centre) (abs_diff y centre)
dark_mark_corner true centre x y room mark = record { column = grind (arith, nat_tests); row = grind (arith, nat_tests); far = grind (arith, nat_tests); deep = grind (arith, nat_tests) }
dark_mark_corner false centre x y room mark = record { column = grind (arith, nat_tests); row = grind (arith, nat_tests); far = grind (arith, nat_tests); deep = grind (arith, nat_tests) }

pub light_mark_corner : (f : Bool) (centre x y : ℕ) → rim_of f ≤ centre → is_light_mark f centre x y ≡ true →
    IsAtCorner f (abs_diff x centre) (abs_diff y centre)
light_mark_corner true centre x y room mark = record { column = grind (arith, nat_tests); row = grind (arith, nat_tests); far = grind (arith, nat_tests); deep = grind (arith, nat_tests) }
light_mark_corner false centre x y room mark = record { column = grind (arith, nat_tests); row = grind (arith, nat_tests); far = grind (arith, nat_tests); deep = grind (arith, nat_tests) }

-- a module of the finder or a mark is none of the reference grid
finder_not_reference : (f : Bool) (centre x y : ℕ) → is_finder f centre x y ≡ true → is_reference f centre x y ≡ false
finder_not_reference true centre x y is = grind (arith, nat_tests)
finder_not_reference false centre x y is = refl

corner_not_reference : (f : Bool) (centre x y : ℕ) → IsAtCorner f (abs_diff x centre) (abs_diff y centre) → is_reference f centre x y ≡ false
corner_not_reference true centre x y is =
    let a : 7 ≤ abs_diff x centre + 1 = is.column in
    let b : 7 ≤ abs_diff y centre + 1 = is.row in
    let c : abs_diff x centre ≤ 7 = is.far in
    let d : abs_diff y centre ≤ 7 = is.deep in
    grind (arith, nat_tests)
corner_not_reference false centre x y is = refl

pub none_of : (a b c : Bool) → a ≡ false → b ≡ false → c ≡ false → (a || (b || c)) ≡ false
none_of a b c p q r = ap (λ (k : Bool). k || (b || c)) p ∙ ap (λ (k : Bool). k || c) q ∙ r

not_true : (b : Bool) → (b ≡ true → ⊥) → b ≡ false
not_true b never = ⊎_elim (λ is. absurd (never is)) (λ is. is) (cases_Bool b)

not_corner : (f : Bool) (along across : ℕ) → IsOnSide f along across → rim_of f ≤ along + 1 → ⊥
not_corner f along across side corner = let inner : along + 2 ≤ rim_of f = side.inner in omega arith

-- a module of the mode message is none of the finder, the marks and the reference grid
pub side_not_core : (f : Bool) (centre x y : ℕ) → rim_of f ≤ centre →
    IsOnSide f (abs_diff x centre) (abs_diff y centre) ⊎ IsOnSide f (abs_diff y centre) (abs_diff x centre) → is_core f centre x y ≡ false
side_not_core f centre x y room side = none_of (is_finder f centre x y) (is_dark_mark f centre x y) (is_light_mark f centre x y)
    (⊎_elim (λ h. on_rim (abs_diff x centre) (abs_diff y centre) h.rim) (λ h. on_rim' (abs_diff x centre) (abs_diff y centre) h.rim) side)
    (not_true (is_dark_mark f centre x y) (λ is. off_corner (dark_mark_corner f centre x y room is)))
    (not_true (is_light_mark f centre x y) (λ is. off_corner (light_mark_corner f centre x y room is)))
  where
    on_rim : (across down : ℕ) → down ≡ rim_of f → nat_lt (max across down) (rim_of f) ≡ false
    on_rim across down e = grind (arith, nat_tests)

    on_rim' : (across down : ℕ) → across ≡ rim_of f → nat_lt (max across down) (rim_of f) ≡ false
    on_rim' across down e = grind (arith, nat_tests)

    off_corner : IsAtCorner f (abs_diff x centre) (abs_diff y centre) → ⊥
    off_corner corner = ⊎_elim
        (λ h. not_corner f (abs_diff x centre) (abs_diff y centre) h corner.column)
        (λ h. not_corner f (abs_diff y centre) (abs_diff x centre) h corner.row) side

side_off_lines : (f : Bool) (centre x y along across : ℕ) → f ≡ true → IsOnSide f along across → (along % 16 ≢ 0) × (across % 16 ≢ 0)
side_off_lines true centre x y along across full side =
    let off : 1 ≤ along = side.off refl in
    let inner : along + 2 ≤ 7 = side.inner in
    let rim : across ≡ 7 = side.rim in
    ((λ e. omega (arith, e)), (λ e. omega (arith, e)))
side_off_lines false centre x y along across full side = absurd (cc)

pub side_not_reference : (f : Bool) (centre x y : ℕ) →
    IsOnSide f (abs_diff x centre) (abs_diff y centre) ⊎ IsOnSide f (abs_diff y centre) (abs_diff x centre) → is_reference f centre x y ≡ false
side_not_reference f centre x y side = off_lines f centre x y
    (λ full. ⊎_elim (λ h. (side_off_lines f centre x y (abs_diff x centre) (abs_diff y centre) full h).0)
    (λ h. (side_off_lines f centre x y (abs_diff y centre) (abs_diff x centre) full h).1) side)
    (λ full. ⊎_elim (λ h. (side_off_lines f centre x y (abs_diff x centre) (abs_diff y centre) full h).1)
    (λ h. (side_off_lines f centre x y (abs_diff y centre) (abs_diff x centre) full h).0) side)

-- what is none of the core and of the reference grid is not dark of itself
pub not_fixed : (f : Bool) (centre x y : ℕ) → is_finder f centre x y ≡ false → is_dark_mark f centre x y ≡ false → is_reference f centre x y ≡ false →
    is_dark_fixed f centre x y ≡ false
not_fixed f centre x y finder mark reference = none_of (is_dark_finder f centre x y) (is_dark_mark f centre x y) (is_dark_reference f centre x y)
    (ap (λ (k : Bool). k && (ring_of centre x y % 2 == 0)) finder) mark
    (ap (λ (k : Bool). k && ((abs_diff x centre + abs_diff y centre) % 2 == 0)) reference)

-- a module of finder and marks is dark of itself exactly where it is a dark one of the core
pub core_fixed : (f : Bool) (centre x y : ℕ) → rim_of f ≤ centre → is_core f centre x y ≡ true → is_dark_fixed f centre x y ≡ is_dark_core f centre x y
core_fixed f centre x y room core =
    ap (λ (k : Bool). is_dark_finder f centre x y || (is_dark_mark f centre x y || (k && ((abs_diff x centre + abs_diff y centre) % 2 == 0)))) no_reference
    ∙ ap (λ (k : Bool). is_dark_finder f centre x y || k) (or_none (is_dark_mark f centre x y))
  where
    or_none : (k : Bool) → (k || false) ≡ k
    or_none true = refl
    or_none false = refl

    no_reference : is_reference f centre x y ≡ false
    no_reference = ⊎_elim
        (λ is. finder_not_reference f centre x y is)
        (λ no. ⊎_elim
        (λ is. corner_not_reference f centre x y (dark_mark_corner f centre x y room is))
        (λ no'. corner_not_reference f centre x y (light_mark_corner f centre x y room
        (sym (ap (λ (k : Bool). k || (is_dark_mark f centre x y || is_light_mark f centre x y)) no ∙ ap (λ (k : Bool). k || is_light_mark f centre x y) no') ∙ core)))
        (cases_Bool (is_dark_mark f centre x y)))
        (cases_Bool (is_finder f centre x y))

pub mode_once : (f : Bool) (centre t u : ℕ) → rim_of f ≤ centre → t < 4 * mode_run f → u < 4 * mode_run f →
    (mode_place f centre t).0 ≡ (mode_place f centre u).0 → (mode_place f centre t).1 ≡ (mode_place f centre u).1 → t ≡ u
mode_once true centre t u room in_t in_u same-x same-y = grind (arith, nat_tests)
mode_once false centre t u room in_t in_u same-x same-y = grind (arith, nat_tests)

-- a module of the mode message is not dark of itself
pub mode_not_fixed : (f : Bool) (centre t : ℕ) → rim_of f ≤ centre → t < 4 * mode_run f →
    is_dark_fixed f centre (mode_place f centre t).0 (mode_place f centre t).1 ≡ false
mode_not_fixed f centre t room inside =
    let x : ℕ = (mode_place f centre t).0 in
    let y : ℕ = (mode_place f centre t).1 in
    let clear : is_core f centre x y ≡ false = side_not_core f centre x y room (mode_side f centre t room inside) in
    not_fixed f centre x y (first_none (is_finder f centre x y) (is_dark_mark f centre x y) (is_light_mark f centre x y) clear)
    (second_none (is_finder f centre x y) (is_dark_mark f centre x y) (is_light_mark f centre x y) clear)
    (side_not_reference f centre x y (mode_side f centre t room inside))
  where
    first_none : (a b c : Bool) → (a || (b || c)) ≡ false → a ≡ false
    first_none true b c e = e
    first_none false b c e = refl

    second_none : (a b c : Bool) → (a || (b || c)) ≡ false → b ≡ false
    second_none true b c e = absurd (cc)
    second_none false true c e = e
    second_none false false c e = refl
