-- The core of a cut: finder, marks and mode message are those of the stand, whatever the size.
use Rattle.std.proofs.Common.{◌≡◌, ℕ, ◌+◌, ◌-◌, ◌*◌, ◌/◌, ◌<◌, ◌≤◌, Bool, true, false, List, Some, refl, sym, ap, subst, ◌∙◌, arith}
use Rattle.std.specs.Prelude.{◌==◌, ◌&&◌, [], ◌∷◌, length, nat_le, nat_lt}
use Rattle.std.proofs.lemmas.Bool.Decides.{nat_tests}
use Rattle.std.proofs.lemmas.List.{length-replicate}
use Rattle.bar_base.specs.Picture.{Picture, module_at, row_count}
use Rattle.aztec_layout.specs.Core.{dark_marks, is_among, is_core, is_dark_core, light_marks, mode_place, mode_run, ring_of, rim_of}
use Rattle.aztec_layout.specs.CoreReading.{AreModeWords, HasFinder, middle_of, mode_module}
use Rattle.aztec_layout.specs.DataReading.{HasSide}
use Rattle.aztec_layout.specs.Sizes.{IsSize, side_of}
use Rattle.aztec_layout.specs.declared.sizes.Size.{Size}
use Rattle.aztec_layout.proofs.SizeLemmas.{side_some}
use Rattle.image_locate.specs.Stands.{IsCut, ShowsFinder, module_seen, pixel_before, turned}
use Rattle.image_locate.specs.declared.stand.Stand.{Stand}
use Rattle.image_locate.proofs.FinderRings.{is_core-within}

-- a symbol has a central module
odd_side : (f : Bool) (n : ℕ) → side_of (record { full = f; layers = n }) ≡ 2 * (side_of (record { full = f; layers = n }) / 2) + 1
odd_side true n = omega arith
odd_side false n = omega arith

-- what is drawn about the middle of a square does not change where the square grows on all sides
turned-wider : (turn m d a b : ℕ) → a ≤ 2 * m → b ≤ 2 * m → ((turned turn (m + d) (a + d) (b + d)).0 ≡ (turned turn m a b).0 + d) × ((turned turn (m + d) (a + d) (b + d)).1 ≡ (turned turn m a b).1 + d)
unfolding turned
turned-wider turn m d a b in_row in_column = (grind (arith, nat_tests), grind (arith, nat_tests))

before-wider : (picture : Picture) (back p q more : ℕ) → pixel_before picture (back + more) (p + more) (q + more) ≡ pixel_before picture back p q
unfolding pixel_before
before-wider picture back p q more =
    let column : p + more - (back + more) ≡ p - back = omega arith in
    let row : q + more - (back + more) ≡ q - back = omega arith in
    rw (shifted back p picture.width more, shifted back q (row_count picture) more, column, row) refl
  where
    shifted : (back p width more : ℕ) → (nat_le (back + more) (p + more) && nat_lt (p + more) (back + more + width)) ≡ (nat_le back p && nat_lt p (back + width))
    shifted back p width more = grind (arith, nat_tests)

pub seen-wider : (picture : Picture) (stand : Stand) (m d a b : ℕ) → a ≤ 2 * m → b ≤ 2 * m → module_seen picture stand (m + d) (a + d) (b + d) ≡ module_seen picture stand m a b
unfolding module_seen
seen-wider picture stand m d a b in_row in_column =
    let u = stand.u in
    let place = turned-wider stand.turn m d a b in_row in_column in
    let back : u * (m + d) ≡ u * m + u * d = omega arith in
    let column : stand.x + u * ((turned stand.turn m a b).0 + d) ≡ stand.x + u * (turned stand.turn m a b).0 + u * d = omega arith in
    let row : stand.y + u * ((turned stand.turn m a b).1 + d) ≡ stand.y + u * (turned stand.turn m a b).1 + u * d = omega arith in
    rw (place.0, place.1, back, column, row) (before-wider picture (u * m) (stand.x + u * (turned stand.turn m a b).0) (stand.y + u * (turned stand.turn m a b).1) (u * d))

eq-wider : (a d l : ℕ) → (a + d == l + d) ≡ (a == l)
eq-wider a d l = grind (arith, nat_tests)

ring-wider : (c d a b : ℕ) → ring_of (c + d) (a + d) (b + d) ≡ ring_of c a b
ring-wider c d a b = grind (arith, nat_tests)

-- a place among others
among-wider : (x y d : ℕ) (x1 y1 x2 y2 x3 y3 x4 y4 x5 y5 x6 y6 : ℕ)
    → is_among (x + d) (y + d) ((x1 + d, y1 + d) ∷ (x2 + d, y2 + d) ∷ (x3 + d, y3 + d) ∷ (x4 + d, y4 + d) ∷ (x5 + d, y5 + d) ∷ (x6 + d, y6 + d) ∷ [])
    ≡ is_among x y ((x1, y1) ∷ (x2, y2) ∷ (x3, y3) ∷ (x4, y4) ∷ (x5, y5) ∷ (x6, y6) ∷ [])
among-wider x y d x1 y1 x2 y2 x3 y3 x4 y4 x5 y5 x6 y6 =
    rw (eq-wider x d x1, eq-wider y d y1, eq-wider x d x2, eq-wider y d y2, eq-wider x d x3, eq-wider y d y3, eq-wider x d x4, eq-wider y d y4, eq-wider x d x5, eq-wider y d y5, eq-wider x d x6, eq-wider y d y6) refl

dark-wider : (r d x y : ℕ) → 2 ≤ r → is_among (x + d) (y + d) (dark_marks (r + d - r) (r + d + r)) ≡ is_among x y (dark_marks (r - r) (r + r))
dark-wider r d x y some =
    let low : r + d - r ≡ 0 + d = omega arith in
    let low' : r - r ≡ 0 = omega arith in
    let next : 0 + d + 1 ≡ 0 + 1 + d = omega arith in
    let high : r + d + r ≡ r + r + d = omega arith in
    let last : r + r + d - 1 ≡ r + r - 1 + d = omega (arith, some) in
    rw (low, low', next, high, last) (among-wider x y d 0 0 (0 + 1) 0 0 (0 + 1) (r + r) 0 (r + r) (0 + 1) (r + r) (r + r - 1))

light-wider : (r d x y : ℕ) → 2 ≤ r → is_among (x + d) (y + d) (light_marks (r + d - r) (r + d + r)) ≡ is_among x y (light_marks (r - r) (r + r))
light-wider r d x y some =
    let low : r + d - r ≡ 0 + d = omega arith in
    let low' : r - r ≡ 0 = omega arith in
    let next : 0 + d + 1 ≡ 0 + 1 + d = omega arith in
    let high : r + d + r ≡ r + r + d = omega arith in
    let last : r + r + d - 1 ≡ r + r - 1 + d = omega (arith, some) in
    rw (low, low', next, high, last) (among-wider x y d (r + r - 1) 0 (r + r) (r + r) (r + r - 1) (r + r) 0 (r + r) 0 (r + r - 1) (0 + 1) (r + r))

rim_some : (f : Bool) → 2 ≤ rim_of f
rim_some true = omega arith
rim_some false = omega arith

pub core-wider : (f : Bool) (d x y : ℕ) → is_core f (rim_of f + d) (x + d) (y + d) ≡ is_core f (rim_of f) x y
core-wider f d x y = rw (ring-wider (rim_of f) d x y, dark-wider (rim_of f) d x y (rim_some f), light-wider (rim_of f) d x y (rim_some f)) refl

pub dark_core-wider : (f : Bool) (d x y : ℕ) → is_dark_core f (rim_of f + d) (x + d) (y + d) ≡ is_dark_core f (rim_of f) x y
dark_core-wider f d x y = rw (ring-wider (rim_of f) d x y, dark-wider (rim_of f) d x y (rim_some f)) refl

-- a core lies inside the rim
inside_rim : (f : Bool) (d a b : ℕ) → is_core f (rim_of f + d) a b ≡ true → (d ≤ a) × (d ≤ b)
inside_rim true d a b is = (grind (arith, nat_tests), grind (arith, nat_tests))
inside_rim false d a b is = (grind (arith, nat_tests), grind (arith, nat_tests))

room_about : (f : Bool) (n : ℕ) → IsSize (record { full = f; layers = n }) → rim_of f ≤ side_of (record { full = f; layers = n }) / 2
room_about true n sized = omega (arith, side_some (record { full = true; layers = n }) sized)
room_about false n sized = omega (arith, side_some (record { full = false; layers = n }) sized)

module _ (picture : Picture) (stand : Stand) (size : Size) (cut : Picture) (sized : IsSize size) (is : IsCut picture stand size cut) where
  -- how many modules a cut has on each side of the rim
  abbrev pub wider : ℕ
  wider = side_of size / 2 - rim_of size.full

  middle : side_of size / 2 ≡ rim_of size.full + wider
  middle = (let room : rim_of size.full ≤ side_of size / 2 = room_about size.full size.layers sized in omega (arith, room))

  -- a module of a cut, by its place about the centre
  pub core_module : (a b : ℕ) → a ≤ 2 * rim_of size.full → b ≤ 2 * rim_of size.full
      → module_at cut (a + wider) (b + wider) ≡ module_seen picture stand (rim_of size.full) a b
  core_module a b in_row in_column =
      let side : side_of size ≡ 2 * (side_of size / 2) + 1 = odd_side size.full size.layers in
      is.modules (a + wider) (b + wider) (omega (arith, side, middle, in_row)) (omega (arith, side, middle, in_column))
      ∙ ap (λ (m : ℕ). module_seen picture stand m (a + wider) (b + wider)) middle
      ∙ seen-wider picture stand (rim_of size.full) wider a b in_row in_column

  pub cut_side : HasSide cut size
  cut_side = record { sized = sized; width = is.width; rows = ap length is.heights ∙ length-replicate (side_of size) 1 }

  -- the finder stands in the cut
  pub cut_finder : ShowsFinder picture stand → HasFinder size.full cut
  cut_finder shows = λ x y in_x in_y core.
      let centre : middle_of cut ≡ rim_of size.full + wider = ap (λ (w : ℕ). w / 2) is.width ∙ middle in
      let core' : is_core size.full (rim_of size.full + wider) x y ≡ true = ap (λ (c : ℕ). is_core size.full c x y) (sym centre) ∙ core in
      let beyond = inside_rim size.full wider x y core' in
      let a = x - wider in
      let b = y - wider in
      let column : x ≡ a + wider = omega (arith, beyond.0) in
      let row : y ≡ b + wider = omega (arith, beyond.1) in
      let here : is_core size.full (rim_of size.full) a b ≡ true =
      sym (core-wider size.full wider a b) ∙ ap (λ (k : ℕ). is_core size.full (rim_of size.full + wider) k (b + wider)) (sym column) ∙ ap (is_core size.full (rim_of size.full + wider) x) (sym row) ∙ core' in
      let within = is_core-within size.full a b here in
      let seen : module_seen picture stand (rim_of size.full) a b ≡ Some (is_dark_core size.full (rim_of size.full) a b) =
      subst (λ (f : Bool). is_core f (rim_of f) a b ≡ true → module_seen picture stand (rim_of f) a b ≡ Some (is_dark_core f (rim_of f) a b)) (sym is.kind) (shows a b) here in
      ap (λ (k : ℕ). module_at cut k y) column ∙ ap (module_at cut (a + wider)) row ∙ core_module a b within.0 within.1 ∙ seen
      ∙ ap (λ (d : Bool). Some d)
      (sym (dark_core-wider size.full wider a b) ∙ ap (λ (k : ℕ). is_dark_core size.full (rim_of size.full + wider) k (b + wider)) (sym column)
      ∙ ap (is_dark_core size.full (rim_of size.full + wider) x) (sym row) ∙ ap (λ (c : ℕ). is_dark_core size.full c x y) (sym centre))

-- the places of the mode message
place-wider : (f : Bool) (d t : ℕ) → t < 4 * mode_run f → ((mode_place f (rim_of f + d) t).0 ≡ (mode_place f (rim_of f) t).0 + d) × ((mode_place f (rim_of f + d) t).1 ≡ (mode_place f (rim_of f) t).1 + d)
place-wider true d t inside = (grind (arith, nat_tests), grind (arith, nat_tests))
place-wider false d t inside = (grind (arith, nat_tests), grind (arith, nat_tests))

place-inside : (f : Bool) (t : ℕ) → t < 4 * mode_run f → ((mode_place f (rim_of f) t).0 ≤ 2 * rim_of f) × ((mode_place f (rim_of f) t).1 ≤ 2 * rim_of f)
place-inside true t inside = (grind (arith, nat_tests), grind (arith, nat_tests))
place-inside false t inside = (grind (arith, nat_tests), grind (arith, nat_tests))

-- a module of the mode message in a cut
mode_seen : (picture : Picture) (stand : Stand) (size : Size) (cut : Picture) → IsSize size → IsCut picture stand size cut → (t : ℕ) → t < 4 * mode_run size.full
    → mode_module size.full cut t ≡ module_seen picture stand (rim_of size.full) (mode_place size.full (rim_of size.full) t).0 (mode_place size.full (rim_of size.full) t).1
mode_seen picture stand size cut sized is t inside =
    let f = size.full in
    let d = wider picture stand size cut sized is in
    let centre : middle_of cut ≡ rim_of f + d = ap (λ (w : ℕ). w / 2) is.width ∙ middle picture stand size cut sized is in
    let place = place-wider f d t inside in
    let within = place-inside f t inside in
    ap (λ (c : ℕ). module_at cut (mode_place f c t).0 (mode_place f c t).1) centre
    ∙ ap (λ (k : ℕ). module_at cut k (mode_place f (rim_of f + d) t).1) place.0
    ∙ ap (module_at cut ((mode_place f (rim_of f) t).0 + d)) place.1
    ∙ core_module picture stand size cut sized is (mode_place f (rim_of f) t).0 (mode_place f (rim_of f) t).1 within.0 within.1

-- The mode words are the same in every cut.
pub modes_shared : (picture : Picture) (stand : Stand) (size other : Size) (cut grid : Picture) → IsSize size → IsSize other → IsCut picture stand size cut → IsCut picture stand other grid
    → (words : List ℕ) → AreModeWords other.full grid words → AreModeWords size.full cut words
modes_shared picture stand size other cut grid sized other_sized is is_other words shown =
    let kinds : other.full ≡ size.full = is_other.kind ∙ sym is.kind in
    let shown' : AreModeWords size.full grid words = subst (λ (f : Bool). AreModeWords f grid words) kinds shown in
    let same : (t : ℕ) → t < 4 * mode_run size.full → mode_module size.full cut t ≡ mode_module size.full grid t = λ t inside.
    mode_seen picture stand size cut sized is t inside
    ∙ sym (subst (λ (f : Bool). t < 4 * mode_run f → mode_module f grid t ≡ module_seen picture stand (rim_of f) (mode_place f (rim_of f) t).0 (mode_place f (rim_of f) t).1)
    kinds (mode_seen picture stand other grid other_sized is_other t) inside) in
    record { counted = shown'.counted; each = shown'.each; bits = λ t inside. shown'.bits t inside ∙ sym (same t inside) }
