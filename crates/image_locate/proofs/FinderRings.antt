-- What each stand that shows a finder has in common: room for a compact core, and the rings of a compact finder.
use Rattle.std.proofs.Common.{◌≡◌, ℕ, ◌+◌, ◌-◌, ◌*◌, ◌/◌, ◌%◌, ◌<◌, ◌≤◌, Bool, true, false, Some, None, refl, sym, ap, ◌∙◌, arith}
use Rattle.std.specs.Prelude.{◌==◌, ◌&&◌, nat_le, nat_lt, if◌then◌else◌}
use Rattle.std.proofs.Math.Bool.{beq}
use Rattle.std.proofs.lemmas.Bool.{agree_below_at, eqb-true}
use Rattle.std.proofs.Math.Nat.{mul-le-mul_left}
use Rattle.std.proofs.lemmas.Bool.Decides.{nat_tests}
use Rattle.bar_base.specs.Picture.{Picture, module_at, row_count}
use Rattle.aztec_layout.specs.Core.{is_core, is_dark_core, rim_of}
use Rattle.image_locate.specs.Stands.{IsStand, ShowsFinder, module_seen, pixel_before, turned}
use Rattle.image_locate.specs.Finding.{HasRoom, IsFirstOf, OfUnit}
use Rattle.image_locate.specs.declared.stand.Stand.{Stand}

pub is_core-within : (full : Bool) (a b : ℕ) → is_core full (rim_of full) a b ≡ true → (a ≤ 2 * rim_of full) × (b ≤ 2 * rim_of full)
is_core-within true a b is = (grind (arith, nat_tests), grind (arith, nat_tests))
is_core-within false a b is = (grind (arith, nat_tests), grind (arith, nat_tests))

-- A pixel inside a picture.
pub record IsPixel (picture : Picture) (back p q : ℕ) (dark : Bool) : Type 0 where
  pub left : back ≤ p
  pub right : p < back + picture.width
  pub above : back ≤ q
  pub below : q < back + row_count picture
  pub shown : module_at picture (p - back) (q - back) ≡ Some dark

pub pixel_parts : (picture : Picture) (back p q : ℕ) (dark : Bool) → pixel_before picture back p q ≡ Some dark → IsPixel picture back p q dark
unfolding pixel_before
pixel_parts picture back p q dark = elim ((nat_le back p && nat_lt p (back + picture.width)) && (nat_le back q && nat_lt q (back + row_count picture))) as (λ (inside : Bool).
    ((nat_le back p && nat_lt p (back + picture.width)) && (nat_le back q && nat_lt q (back + row_count picture))) ≡ inside
    → (if inside then module_at picture (p - back) (q - back) else None) ≡ Some dark → IsPixel picture back p q dark) [
      | true ↦ λ inside shown. record {
        left = grind (arith, nat_tests);
        right = grind (arith, nat_tests);
        above = grind (arith, nat_tests);
        below = grind (arith, nat_tests);
        shown = shown;
      }
      | false ↦ λ outside none. absurd (cc)
    ] refl

-- the column and row from which a module comes when a square is turned
origin : (turn middle a b : ℕ) → ℕ × ℕ
origin turn middle a b = turned (if turn == 1 then 3 else (if turn == 3 then 1 else turn)) middle a b

-- whether a module of finder or marks comes to this column and row
comes_to : Bool → (turn a b : ℕ) → Bool
comes_to full turn a b =
    let from = origin turn (rim_of full) a b in
    is_core full (rim_of full) from.0 from.1 && (((turned turn (rim_of full) from.0 from.1).0 == a) && ((turned turn (rim_of full) from.0 from.1).1 == b))

both : (p q : Bool) → (p && q) ≡ true → (p ≡ true) × (q ≡ true)
both true q is = (refl, is)
both false q is = cc

-- what stands at a place to which such a module comes
seen_from : (picture : Picture) (stand : Stand) (a b : ℕ) → comes_to stand.full stand.turn a b ≡ true → ShowsFinder picture stand
    → pixel_before picture (stand.u * rim_of stand.full) (stand.x + stand.u * a) (stand.y + stand.u * b)
    ≡ Some (is_dark_core stand.full (rim_of stand.full) (origin stand.turn (rim_of stand.full) a b).0 (origin stand.turn (rim_of stand.full) a b).1)
unfolding module_seen comes_to
seen_from picture stand a b comes shows =
    let rim = rim_of stand.full in
    let from = origin stand.turn rim a b in
    let to = turned stand.turn rim from.0 from.1 in
    let parts = both (is_core stand.full rim from.0 from.1) ((to.0 == a) && (to.1 == b)) comes in
    let lines = both (to.0 == a) (to.1 == b) parts.1 in
    let back = stand.u * rim in
    sym (ap (λ (k : ℕ). pixel_before picture back (stand.x + stand.u * k) (stand.y + stand.u * to.1)) (eqb-true to.0 a lines.0)
    ∙ ap (λ (k : ℕ). pixel_before picture back (stand.x + stand.u * a) (stand.y + stand.u * k)) (eqb-true to.1 b lines.1))
    ∙ shows from.0 from.1 parts.0

-- marks come to the first corner and the last
corner_test : Bool → ℕ → Bool
corner_test full turn = comes_to full turn 0 0 && comes_to full turn (2 * rim_of full) (2 * rim_of full)

corners : (full : Bool) (turn : ℕ) → turn < 4 → corner_test full turn ≡ true
unfolding corner_test comes_to origin turned
corners true turn few = agree_below_at (corner_test true) (λ k. true) 4 turn refl few
corners false turn few = agree_below_at (corner_test false) (λ k. true) 4 turn refl few

-- modules of the inner nine by nine come to each other, and are dark in every finder or in none: by turn, row and column
ring_test : Bool → ℕ → Bool
ring_test full n =
    let turn = n / 81 in
    let a = n % 9 in
    let b = n / 9 % 9 in
    let low = rim_of full - 4 in
    let from = origin turn (rim_of full) (a + low) (b + low) in
    comes_to full turn (a + low) (b + low) && beq (is_dark_core full (rim_of full) from.0 from.1) (is_dark_core false 5 (a + 1) (b + 1))

rings_at : (full : Bool) (n : ℕ) → n < 324 → ring_test full n ≡ true
unfolding ring_test comes_to origin turned
rings_at true n few = agree_below_at (ring_test true) (λ k. true) 324 n refl few
rings_at false n few = agree_below_at (ring_test false) (λ k. true) 324 n refl few

room_from : (f : Bool) (u x y w h : ℕ) → u * rim_of f ≤ x + u * 0 → u * rim_of f ≤ y + u * 0 → x + u * (2 * rim_of f) < u * rim_of f + w → y + u * (2 * rim_of f) < u * rim_of f + h
    → ((5 * u ≤ x) × (x + 5 * u < w)) × ((5 * u ≤ y) × (y + 5 * u < h))
room_from true u x y w h left above right below = ((omega (arith, left), omega (arith, right)), (omega (arith, above), omega (arith, below)))
room_from false u x y w h left above right below = ((omega (arith, left), omega (arith, right)), (omega (arith, above), omega (arith, below)))

-- There is room for a compact core.
pub room_of : (picture : Picture) (stand : Stand) → IsStand stand → ShowsFinder picture stand → HasRoom picture stand.x stand.y stand.u
unfolding corner_test
room_of picture stand ranged shows =
    let last = 2 * rim_of stand.full in
    let comes = both (comes_to stand.full stand.turn 0 0) (comes_to stand.full stand.turn last last) (corners stand.full stand.turn ranged.turns) in
    let low = pixel_parts picture (stand.u * rim_of stand.full) (stand.x + stand.u * 0) (stand.y + stand.u * 0) _ (seen_from picture stand 0 0 comes.0 shows) in
    let high = pixel_parts picture (stand.u * rim_of stand.full) (stand.x + stand.u * last) (stand.y + stand.u * last) _ (seen_from picture stand last last comes.1 shows) in
    let room = room_from stand.full stand.u stand.x stand.y picture.width (row_count picture) low.left low.above high.right high.below in
    record { left = room.0.0; right = room.0.1; above = room.1.0; below = room.1.1 }

beq-same : (p q : Bool) → beq p q ≡ true → p ≡ q
beq-same true true is = refl
beq-same false false is = refl
beq-same true false is = cc
beq-same false true is = cc

place_in : (f : Bool) (u x a : ℕ) → x + u * (a + (rim_of f - 4)) - u * rim_of f ≡ x + u * a - 4 * u
place_in true u x a = omega arith
place_in false u x a = omega arith

-- The inner nine by nine modules are those of every finder.
pub ring_seen : (picture : Picture) (stand : Stand) (a b : ℕ) → a < 9 → b < 9 → IsStand stand → ShowsFinder picture stand
    → module_at picture (stand.x + stand.u * a - 4 * stand.u) (stand.y + stand.u * b - 4 * stand.u) ≡ Some (is_dark_core false 5 (a + 1) (b + 1))
unfolding ring_test
ring_seen picture stand a b in_row in_column ranged shows =
    let n = stand.turn * 81 + (b * 9 + a) in
    let few : n < 324 = omega (arith, ranged.turns, in_row, in_column) in
    let turn : n / 81 ≡ stand.turn = omega (arith, in_row, in_column) in
    let column : n % 9 ≡ a = omega (arith, in_row) in
    let row : n / 9 % 9 ≡ b = omega (arith, in_row, in_column) in
    let low = rim_of stand.full - 4 in
    let test : (comes_to stand.full stand.turn (a + low) (b + low)
    && beq (is_dark_core stand.full (rim_of stand.full) (origin stand.turn (rim_of stand.full) (a + low) (b + low)).0 (origin stand.turn (rim_of stand.full) (a + low) (b + low)).1)
    (is_dark_core false 5 (a + 1) (b + 1))) ≡ true = at stand.full (n / 81) stand.turn (n % 9) a (n / 9 % 9) b turn column row (rings_at stand.full n few) in
    let parts = both _ _ test in
    let pixel = pixel_parts picture (stand.u * rim_of stand.full) (stand.x + stand.u * (a + low)) (stand.y + stand.u * (b + low)) _ (seen_from picture stand (a + low) (b + low) parts.0 shows) in
    ap (λ (p : ℕ). module_at picture p (stand.y + stand.u * b - 4 * stand.u)) (sym (place_in stand.full stand.u stand.x a))
    ∙ ap (λ (q : ℕ). module_at picture (stand.x + stand.u * (a + low) - stand.u * rim_of stand.full) q) (sym (place_in stand.full stand.u stand.y b))
    ∙ pixel.shown ∙ ap (λ (dark : Bool). Some dark) (beq-same _ _ parts.1)
  where
    passes : Bool → (turn a b : ℕ) → Bool
    passes full turn a b =
        comes_to full turn (a + (rim_of full - 4)) (b + (rim_of full - 4))
        && beq (is_dark_core full (rim_of full) (origin turn (rim_of full) (a + (rim_of full - 4)) (b + (rim_of full - 4))).0 (origin turn (rim_of full) (a + (rim_of full - 4)) (b + (rim_of full - 4))).1)
        (is_dark_core false 5 (a + 1) (b + 1))

    at : (full : Bool) (turn turn' a a' b b' : ℕ) → turn ≡ turn' → a ≡ a' → b ≡ b' → passes full turn a b ≡ true → passes full turn' a' b' ≡ true
    at full turn turn' a a' b b' turns columns rows is = rw (← turns, ← columns, ← rows) is

-- A module that is not as in every finder: no finder stands there.
pub not_ringed : (picture : Picture) (x y u a b : ℕ) (dark : Bool) → a < 9 → b < 9 → module_at picture (x + u * a - 4 * u) (y + u * b - 4 * u) ≡ Some dark
    → (dark ≡ is_dark_core false 5 (a + 1) (b + 1) → ⊥) → IsFirstOf picture (OfUnit x y u) None
not_ringed picture x y u a b dark in_row in_column here differs = λ stand is ranged shows.
    differs (some_once (sym here ∙ moved stand.x x stand.y y stand.u u is.0.1 is.0.0 is.1 (ring_seen picture stand a b in_row in_column ranged shows)))
  where
    some_once : {p q : Bool} → Some p ≡ Some q → p ≡ q
    some_once is = cc

    moved : (x x' y y' u u' : ℕ) → x ≡ x' → y ≡ y' → u ≡ u' → module_at picture (x + u * a - 4 * u) (y + u * b - 4 * u) ≡ Some (is_dark_core false 5 (a + 1) (b + 1))
        → module_at picture (x' + u' * a - 4 * u') (y' + u' * b - 4 * u') ≡ Some (is_dark_core false 5 (a + 1) (b + 1))
    moved x x' y y' u u' columns rows units is = rw (← columns, ← rows, ← units) is

-- the products in pixels are small
pub few_pixels : (u a : ℕ) → u ≤ 64 → a < 9 → (u * a ≤ 512) × (u * a ≤ 8 * u)
few_pixels u a small inside =
    let most : u * a ≤ u * 8 = mul-le-mul_left u (omega (arith, inside)) in
    (omega (arith, most, small), omega (arith, most))

-- the four modules beside the central one
pub beside : (u x : ℕ) → (x + u * 5 - 4 * u ≡ x + u) × (x + u * 4 - 4 * u ≡ x)
beside u x = (omega arith, omega arith)

-- No finder stands at a light pixel.
pub light_centre : (picture : Picture) (x y : ℕ) (dark : Bool) → module_at picture x y ≡ Some dark → dark ≡ false → (stand : Stand) → stand.y ≡ y → stand.x ≡ x → IsStand stand → ShowsFinder picture stand → ⊥
light_centre picture x y true here light stand row column ranged shows = cc
light_centre picture x y false here light stand row column ranged shows =
    let seen = ring_seen picture stand 4 4 (omega arith) (omega arith) ranged shows in
    let here' : module_at picture (stand.x + stand.u * 4 - 4 * stand.u) (stand.y + stand.u * 4 - 4 * stand.u) ≡ Some false =
    rw ((beside stand.u stand.x).1, (beside stand.u stand.y).1, row, column) here in
    let e : Some true ≡ Some false = sym seen ∙ here' in cc
