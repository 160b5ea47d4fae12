-- the known places at which two words differ, from a place on
use Rattle.std.proofs.Common.{◌≡◌, ℕ, zero, suc, ◌+◌, ◌<◌, ◌≤◌, refl, arith, List, [], ◌∷◌, length, get_or, drop, Bool, false, if◌then◌else◌}
use Rattle.std.specs.Prelude.{◌||◌}
use Rattle.std.proofs.lemmas.List.{drop_all}
use Rattle.galois.specs.CheckWord.{distance, known_distance}

module _ {A : Type 0} (equal : A → A → Bool) where
  pub distance_step : (lost : List Bool) (word other : List A) (i : ℕ) (x y : A) → i < length word → length other ≡ length word → x ≡ get_or word i x → y ≡ get_or other i y →
      (if get_or lost i false || equal x y then 0 else 1) + known_distance equal (drop (i + 1) lost) (drop (i + 1) word) (drop (i + 1) other) ≡
      known_distance equal (drop i lost) (drop i word) (drop i other)
  unfolding distance known_distance
  distance_step lost [] other i x y within same is_x is_y = absurd (omega arith)
  distance_step lost (a ∷ word) [] i x y within same is_x is_y = absurd (omega arith)
  distance_step [] (a ∷ word) (b ∷ other) zero x y within same is_x is_y = rw (is_x, is_y) refl
  distance_step (gone ∷ lost) (a ∷ word) (b ∷ other) zero x y within same is_x is_y = rw (is_x, is_y) refl
  distance_step [] (a ∷ word) (b ∷ other) (suc i) x y within same is_x is_y =
      let e : suc i + 1 ≡ suc (i + 1) = omega arith in
      let now : drop {A = Bool} i [] ≡ [] = drop_all i [] (omega arith) in
      let next : drop {A = Bool} (i + 1) [] ≡ [] = drop_all (i + 1) [] (omega arith) in
      rw e (rw (now, next) at (distance_step [] word other i x y (omega arith) (omega arith) is_x is_y))
  distance_step (gone ∷ lost) (a ∷ word) (b ∷ other) (suc i) x y within same is_x is_y =
      let e : suc i + 1 ≡ suc (i + 1) = omega arith in
      rw e (distance_step lost word other i x y (omega arith) (omega arith) is_x is_y)

  none_left : (lost : List Bool) (other : List A) → known_distance equal lost [] other ≡ 0
  unfolding distance known_distance
  none_left [] other = refl
  none_left (gone ∷ lost) other = refl

  pub distance_end : (lost : List Bool) (word other : List A) (i : ℕ) → length word ≤ i → known_distance equal lost (drop i word) other ≡ 0
  distance_end lost word other i past = rw (drop_all i word past) (none_left lost other)
