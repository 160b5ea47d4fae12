-- Where data bits stand: each at one place, no two at one place, inside the symbol and clear of everything else.
use Rattle.std.proofs.Common.{◌≡◌, ◌≢◌, inl, inr, ℕ, zero, ◌+◌, ◌-◌, ◌*◌, ◌/◌, ◌%◌, ◌<◌, ◌≤◌, Bool, true, false, suc, sym, ap, subst, refl, ◌∙◌, ⊎_elim, arith}
use Rattle.std.proofs.lemmas.Bool.{cases_lt}
use Rattle.std.proofs.lemmas.Bool.Decides.{nat_tests}
use Rattle.std.specs.Int.{abs_diff}
use Rattle.aztec_layout.specs.declared.sizes.Size.{Size}
use Rattle.aztec_layout.specs.Sizes.{base_side, layer_bits, side_of}
use Rattle.aztec_layout.specs.Core.{ring_of, rim_of, is_finder, is_dark_mark, is_light_mark, is_reference, mode_place, mode_run}
use Rattle.aztec_layout.specs.Places.{IsDataModule, IsBitPlace, bits_before, centre_of, corner_at, data_line, pairs_on_side}
use Rattle.aztec_layout.proofs.Corners.{IsBeyond, SameCorner, corner_beyond, corner_once}
use Rattle.aztec_layout.proofs.Layers.{IsInLayer, bit_parts, bits_before-all, bits_before_le, in_layer, layer_le}
use Rattle.aztec_layout.proofs.SizeParts.{size_at}
use Rattle.aztec_layout.proofs.Lines.{line_beyond, line_inside, line_off, line_once}

-- bit n of layer i stands in the square, outside the core
pub corner_at_beyond : (s : Size) (i n : ℕ) → i < s.layers → n < 8 * pairs_on_side s i →
    IsBeyond (base_side s) s.layers (corner_at s i n).0 (corner_at s i n).1
corner_at_beyond s i n inside few =
    let h : IsInLayer s i n = in_layer s i n inside few in
    corner_beyond (n / (2 * pairs_on_side s i)) (base_side s) s.layers i (n % (2 * pairs_on_side s i) / 2) (n % 2) h.round inside h.pair h.bit

-- two bits of layers at one place are one bit of one layer
pub record SameBit (i i' n n' : ℕ) : Type 0 where
  pub layer : i ≡ i'
  pub number : n ≡ n'

pub corner_at_once : (s : Size) (i i' n n' : ℕ) → i < s.layers → i' < s.layers → n < 8 * pairs_on_side s i → n' < 8 * pairs_on_side s i' →
    (corner_at s i n).0 ≡ (corner_at s i' n').0 → (corner_at s i n).1 ≡ (corner_at s i' n').1 → SameBit i i' n n'
corner_at_once s i i' n n' o o' few few' same-x same-y =
    let h : IsInLayer s i n = in_layer s i n o few in
    let h' : IsInLayer s i' n' = in_layer s i' n' o' few' in
    let e : SameCorner i i' (n / (2 * pairs_on_side s i)) (n' / (2 * pairs_on_side s i'))
    (n % (2 * pairs_on_side s i) / 2) (n' % (2 * pairs_on_side s i') / 2) (n % 2) (n' % 2) =
    corner_once (n / (2 * pairs_on_side s i)) (n' / (2 * pairs_on_side s i')) (base_side s) i i'
    (n % (2 * pairs_on_side s i) / 2) (n' % (2 * pairs_on_side s i') / 2) (n % 2) (n' % 2)
    h.round h'.round h.pair h'.pair h.bit h'.bit same-x same-y in
    record { layer = e.layer; number = same_number i i' n n' (pairs_on_side s i) (pairs_on_side s i') (ap (pairs_on_side s) e.layer) e }
  where
    same_number : (i i' n n' pairs pairs' : ℕ) → pairs ≡ pairs' →
        SameCorner i i' (n / (2 * pairs)) (n' / (2 * pairs')) (n % (2 * pairs) / 2) (n' % (2 * pairs') / 2) (n % 2) (n' % 2) → n ≡ n'
    same_number i i' n n' pairs pairs' same e =
        let blocks : (n / (2 * pairs)) * (2 * pairs) ≡ (n' / (2 * pairs')) * (2 * pairs') =
        ap (λ (q : ℕ). q * (2 * pairs)) e.round ∙ ap (λ (p : ℕ). (n' / (2 * pairs')) * (2 * p)) same in
        omega (arith, bit_parts pairs n, bit_parts pairs' n', blocks, e.pair, e.bit)

-- bit n of a layer is bit q of the symbol
pub number_in : (s : Size) (q x y : ℕ) → (p : IsBitPlace s q x y) → q - bits_before s p.layer < 8 * pairs_on_side s p.layer
number_in s q x y p = let below : q < bits_before s p.layer + 8 * pairs_on_side s p.layer = p.below in omega (arith, p.from, below)

-- a place of a bit is one of the symbol's bits
pub place_below : (s : Size) (q x y : ℕ) → IsBitPlace s q x y → q < layer_bits s
place_below s q x y p =
    let more : bits_before s ((s.layers - suc p.layer) + suc p.layer) ≡ bits_before s s.layers =
    ap (bits_before s) (let o : p.layer < s.layers = p.is_layer in let e : (s.layers - suc p.layer) + suc p.layer ≡ s.layers = omega arith in e) in
    omega (arith, p.below, more, bits_before-all s, bits_before_le s (suc p.layer) (s.layers - suc p.layer))

-- a bit has one place
pub record SamePlace (x x' y y' : ℕ) : Type 0 where
  pub column : x ≡ x'
  pub row : y ≡ y'

pub place_only : (s : Size) (q x y x' y' : ℕ) → IsBitPlace s q x y → IsBitPlace s q x' y' → SamePlace x x' y y'
place_only s q x y x' y' p p' =
    let le : p'.layer ≤ p.layer = layer_le s p.layer p'.layer q p'.from p.below in
    let ge : p.layer ≤ p'.layer = layer_le s p'.layer p.layer q p.from p'.below in
    let same : p.layer ≡ p'.layer = omega (arith, le, ge) in
    record {
      column = p.column ∙ ap (λ (i : ℕ). data_line s (corner_at s i (q - bits_before s i)).0) same ∙ sym p'.column;
      row = p.row ∙ ap (λ (i : ℕ). data_line s (corner_at s i (q - bits_before s i)).1) same ∙ sym p'.row;
    }

-- two bits at one place are one bit
pub place_apart : (s : Size) (q q' x y : ℕ) → IsBitPlace s q x y → IsBitPlace s q' x y → q ≡ q'
place_apart s q q' x y p p' =
    let n : ℕ = q - bits_before s p.layer in
    let n' : ℕ = q' - bits_before s p'.layer in
    let b : IsBeyond (base_side s) s.layers (corner_at s p.layer n).0 (corner_at s p.layer n).1 =
    corner_at_beyond s p.layer n p.is_layer (number_in s q x y p) in
    let b' : IsBeyond (base_side s) s.layers (corner_at s p'.layer n').0 (corner_at s p'.layer n').1 =
    corner_at_beyond s p'.layer n' p'.is_layer (number_in s q' x y p') in
    let e : SameBit p.layer p'.layer n n' =
    corner_at_once s p.layer p'.layer n n' p.is_layer p'.is_layer (number_in s q x y p) (number_in s q' x y p')
    (line_once s (corner_at s p.layer n).0 (corner_at s p'.layer n').0 b.column b'.column (sym p.column ∙ p'.column))
    (line_once s (corner_at s p.layer n).1 (corner_at s p'.layer n').1 b.row b'.row (sym p.row ∙ p'.row)) in
    omega (arith, e.number, ap (bits_before s) e.layer, p.from, p'.from)

-- a module beyond the rim is none of the core
pub record IsBeyondRim (f : Bool) (centre x y : ℕ) : Type 0 where
  pub finder : is_finder f centre x y ≡ false
  pub dark_marks : is_dark_mark f centre x y ≡ false
  pub light_marks : is_light_mark f centre x y ≡ false

pub beyond_rim : (f : Bool) (centre x y : ℕ) → rim_of f ≤ centre → rim_of f < ring_of centre x y → IsBeyondRim f centre x y
beyond_rim true centre x y room far = record { finder = grind (arith, nat_tests); dark_marks = grind (arith, nat_tests); light_marks = grind (arith, nat_tests) }
beyond_rim false centre x y room far = record { finder = grind (arith, nat_tests); dark_marks = grind (arith, nat_tests); light_marks = grind (arith, nat_tests) }

-- a bit of the mode message stands on the rim
pub mode_on_rim : (f : Bool) (centre t : ℕ) → rim_of f ≤ centre → t < 4 * mode_run f →
    ring_of centre (mode_place f centre t).0 (mode_place f centre t).1 ≡ rim_of f
mode_on_rim true centre t room inside = grind (arith, nat_tests)
mode_on_rim false centre t room inside = grind (arith, nat_tests)

-- a module off the reference lines is none of them
pub off_lines : (f : Bool) (centre x y : ℕ) → (f ≡ true → abs_diff x centre % 16 ≢ 0) → (f ≡ true → abs_diff y centre % 16 ≢ 0) →
    is_reference f centre x y ≡ false
off_lines true centre x y off-x off-y =
    let h : abs_diff x centre % 16 ≢ 0 = off-x refl in
    let k : abs_diff y centre % 16 ≢ 0 = off-y refl in
    grind (arith, nat_tests)
off_lines false centre x y off-x off-y = refl

centre_room_at : (f : Bool) (n : ℕ) → 1 ≤ n → rim_of f ≤ centre_of (size_at f n)
centre_room_at true n some = omega arith
centre_room_at false n some = omega arith

-- the core has room round the centre
pub centre_room : (s : Size) → 1 ≤ s.layers → rim_of s.full ≤ centre_of s
centre_room s = centre_room_at s.full s.layers

-- the columns or the rows of a corner lie beyond the core
far_out : (s : Size) (u v : ℕ) → IsBeyond (base_side s) s.layers u v → rim_of s.full < ring_of (centre_of s) (data_line s u) (data_line s v)
far_out s u v b = ⊎_elim
    (λ h. let far : rim_of s.full < abs_diff (data_line s u) (centre_of s) = line_beyond s u b.column h in grind arith)
    (λ h. let far : rim_of s.full < abs_diff (data_line s v) (centre_of s) = line_beyond s v b.row h in grind arith)
    b.outside

-- a data bit stands in the symbol, and clear of everything else
pub place_free : (s : Size) (q x y : ℕ) → IsBitPlace s q x y → IsDataModule s x y
place_free s q x y p =
    let u : ℕ = (corner_at s p.layer (q - bits_before s p.layer)).0 in
    let v : ℕ = (corner_at s p.layer (q - bits_before s p.layer)).1 in
    let b : IsBeyond (base_side s) s.layers u v = corner_at_beyond s p.layer (q - bits_before s p.layer) p.is_layer (number_in s q x y p) in
    let room : rim_of s.full ≤ centre_of s = centre_room s (let o : p.layer < s.layers = p.is_layer in omega arith) in
    free_at s x y u v p.column p.row b room
  where
    free_at : (s : Size) (x y u v : ℕ) → x ≡ data_line s u → y ≡ data_line s v → IsBeyond (base_side s) s.layers u v →
        rim_of s.full ≤ centre_of s → IsDataModule s x y
    free_at s x y u v is-x is-y b room =
        let far : rim_of s.full < ring_of (centre_of s) x y =
        subst (λ (a : ℕ). rim_of s.full < ring_of (centre_of s) a y) (sym is-x)
        (subst (λ (a : ℕ). rim_of s.full < ring_of (centre_of s) (data_line s u) a) (sym is-y) (far_out s u v b)) in
        let clear : IsBeyondRim s.full (centre_of s) x y = beyond_rim s.full (centre_of s) x y room far in
        record {
          column = subst (λ (a : ℕ). a < side_of s) (sym is-x) (line_inside s u b.column);
          row = subst (λ (a : ℕ). a < side_of s) (sym is-y) (line_inside s v b.row);
          finder = clear.finder;
          dark_marks = clear.dark_marks;
          light_marks = clear.light_marks;
          reference = off_lines s.full (centre_of s) x y
              (λ full. subst (λ (a : ℕ). abs_diff a (centre_of s) % 16 ≢ 0) (sym is-x) (line_off s u full b.column))
              (λ full. subst (λ (a : ℕ). abs_diff a (centre_of s) % 16 ≢ 0) (sym is-y) (line_off s v full b.row));
          mode = λ t inside same. apart_from_rim s.full (centre_of s) x y t room inside far (ap (λ (a : ℕ × ℕ). a.0) same) (ap (λ (a : ℕ × ℕ). a.1) same);
        }
      where
        apart_from_rim : (f : Bool) (centre x y t : ℕ) → rim_of f ≤ centre → t < 4 * mode_run f → rim_of f < ring_of centre x y →
            x ≡ (mode_place f centre t).0 → y ≡ (mode_place f centre t).1 → ⊥
        apart_from_rim f centre x y t room inside far same-x same-y =
            let there : ring_of centre x y ≡ rim_of f =
            ap (λ (a : ℕ). ring_of centre a y) same-x ∙ ap (λ (a : ℕ). ring_of centre (mode_place f centre t).0 a) same-y
            ∙ mode_on_rim f centre t room inside in
            omega (arith, there)

-- where bit n of layer i stands
pub place_of_number : (s : Size) (i n x y : ℕ) → i < s.layers → n < 8 * pairs_on_side s i →
    x ≡ data_line s (corner_at s i n).0 → y ≡ data_line s (corner_at s i n).1 → IsBitPlace s (bits_before s i + n) x y
place_of_number s i n x y inside few is-x is-y =
    let e : n ≡ bits_before s i + n - bits_before s i = omega arith in
    record {
      layer = i;
      is_layer = inside;
      from = omega arith;
      below = omega (arith, few);
      column = is-x ∙ ap (λ (k : ℕ). data_line s (corner_at s i k).0) e;
      row = is-y ∙ ap (λ (k : ℕ). data_line s (corner_at s i k).1) e;
    }

-- bit n of a layer is one of the symbol's bits
pub number_within : (s : Size) (i n : ℕ) → i < s.layers → n < 8 * pairs_on_side s i → bits_before s i + n < layer_bits s
number_within s i n inside few =
    place_below s (bits_before s i + n) (data_line s (corner_at s i n).0) (data_line s (corner_at s i n).1)
    (place_of_number s i n (data_line s (corner_at s i n).0) (data_line s (corner_at s i n).1) inside few refl refl)

-- The layer of a bit, among the first layers.
record InLayer (s : Size) (q layers : ℕ) : Type 0 where
  layer : ℕ
  is_layer : layer < layers
  from : bits_before s layer ≤ q
  below : q < bits_before s (suc layer)

layer_there : (s : Size) (q k : ℕ) → q < bits_before s k → InLayer s q k
layer_there s q zero below = absurd (omega (arith, below))
layer_there s q (suc k) below =
    elim (cases_lt q (bits_before s k)) [
      | inl less ↦ let more = layer_there s q k less in record { layer = more.layer; is_layer = omega (arith, more.is_layer); from = more.from; below = more.below }
      | inr past ↦ record { layer = k; is_layer = omega arith; from = past; below = below }
    ]

-- Each data bit has a place.
pub place_there : (s : Size) (q : ℕ) → q < layer_bits s → (x : ℕ) × (y : ℕ) × IsBitPlace s q x y
place_there s q below =
    let l = layer_there s q s.layers (omega (arith, below, bits_before-all s)) in (
      data_line s (corner_at s l.layer (q - bits_before s l.layer)).0,
      data_line s (corner_at s l.layer (q - bits_before s l.layer)).1,
      record { layer = l.layer; is_layer = l.is_layer; from = l.from; below = l.below; column = refl; row = refl },
    )

-- what `place_in` gives at the bit's number in its layer is the bit's place
pub at_bit : (s : Size) (layer before bit x y : ℕ) → before ≡ bits_before s layer → before ≤ bit →
    IsBitPlace s (bits_before s layer + (bit - before)) x y → IsBitPlace s bit x y
at_bit s layer before bit x y is-before le p =
    subst (λ (q : ℕ). IsBitPlace s q x y) (let e : bits_before s layer + (bit - before) ≡ bit = omega arith in e) p
