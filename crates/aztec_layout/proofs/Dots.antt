-- What the loops that draw have drawn so far: the first of their modules.
use Rattle.std.proofs.Common.{◌≡◌, ◌≢◌, ℕ, ◌+◌, ◌-◌, ◌*◌, ◌/◌, ◌%◌, ◌<◌, ◌≤◌, ⊎_elim, Bool, true, false, List, Some, length, refl, ap, subst, sym, ◌∙◌, arith}
use Rattle.std.specs.Prelude.{IsTrue, slice_get}
use Rattle.std.specs.Int.{abs_diff}
use Rattle.std.proofs.lemmas.Bool.{cases_lt}
use Rattle.std.proofs.Math.Nat.{div-lt_iff_lt-mul}
use Rattle.std.proofs.lemmas.Nat.{div-add-mod', mod_below}
use Rattle.std.proofs.lemmas.Option.{slice_get_within}
use Rattle.bar_base.specs.Picture.{Picture, row_count}
use Rattle.aztec_layout.specs.Core.{is_dark_fixed, mode_place, rim_of}
use Rattle.aztec_layout.specs.Painting.{Paints}
use Rattle.aztec_layout.specs.declared.sizes.Size.{Size}
use Rattle.aztec_layout.specs.Places.{IsBitPlace, bits_before, pairs_on_side}
use Rattle.aztec_layout.specs.SymbolGrid.{IsDataDot, IsLayerDot, IsModeDot, IsSideDot}
use Rattle.aztec_layout.proofs.Bare.{bare_light}
use Rattle.aztec_layout.proofs.PaintingLemmas.{Upto, paints_begin, paints_same}
use Rattle.aztec_layout.proofs.Sides.{side_within}
use Rattle.aztec_layout.proofs.Spots.{SamePlace, place_only}

-- the dark fixed module in column `column` of row y
abbrev pub FixedDot : (full : Bool) (centre y column a b : ℕ) → Type 0
FixedDot full centre y column a b = (is_dark_fixed full centre column y ≡ true) × (a ≡ column) × (b ≡ y)

-- the dark fixed modules of row `row`
abbrev pub FixedRow : (full : Bool) (centre row a b : ℕ) → Type 0
FixedRow full centre row a b = (b ≡ row) × IsTrue (is_dark_fixed full centre a b)

pub fixed_row_done : (full : Bool) (centre y n : ℕ) (g h : Picture) → g.width ≤ n → Paints g h (Upto (FixedDot full centre y) n) →
    Paints g h (FixedRow full centre y)
fixed_row_done full centre y n g h wide p = paints_same g h (Upto (FixedDot full centre y) n) (FixedRow full centre y) p
    (λ a b in_a in_b q. (q.2.2, ap (λ (t : ℕ). is_dark_fixed full centre a t) q.2.2 ∙ ap (λ (t : ℕ). is_dark_fixed full centre t y) q.2.1 ∙ q.2.0))
    (λ a b in_a in_b q. (a, (let e : a < n = omega (arith, in_a) in e), (ap (λ (t : ℕ). is_dark_fixed full centre a t) (sym q.0) ∙ q.1, refl, q.0)))

-- where nothing is dark from a column to another, the modules up to the first are those up to the other
fixed_up_to : (full : Bool) (centre y n m : ℕ) (g h : Picture) → n ≤ m → ((i : ℕ) → n ≤ i → i < m → is_dark_fixed full centre i y ≡ false) →
    Paints g h (Upto (FixedDot full centre y) n) → Paints g h (Upto (FixedDot full centre y) m)
fixed_up_to full centre y n m g h le light p = paints_same g h (Upto (FixedDot full centre y) n) (Upto (FixedDot full centre y) m) p
    (λ a b in_a in_b q. let below : q.0 < n = q.1 in (q.0, (let e : q.0 < m = omega arith in e), q.2))
    (λ a b in_a in_b q. ⊎_elim
    (λ below. (q.0, below, q.2))
    (λ past. absurd (let no : is_dark_fixed full centre q.0 y ≡ false = light q.0 past q.1 in let yes : is_dark_fixed full centre q.0 y ≡ true = q.2.0 in cc))
    (cases_lt q.0 n))

-- the first line that crosses a row off all lines
pub crossings_begin : (full : Bool) (centre y : ℕ) (g : Picture) → rim_of full ≤ centre → abs_diff y centre % 16 ≢ 0 → 7 < abs_diff y centre →
    Paints g g (Upto (FixedDot full centre y) (centre % 16))
crossings_begin full centre y g room off outside = fixed_up_to full centre y 0 (centre % 16) g g (omega arith)
    (λ i from below. bare_light full centre i y room (record { column = (λ e. omega (arith, e, below)); row = off; outside = omega (arith, outside) }))
    (paints_begin g (FixedDot full centre y))

-- from one line to the next
pub crossings_next : (full : Bool) (centre y x : ℕ) (g h : Picture) → rim_of full ≤ centre → abs_diff y centre % 16 ≢ 0 → 7 < abs_diff y centre → x % 16 ≡ centre % 16 →
    Paints g h (Upto (FixedDot full centre y) (x + 1)) → Paints g h (Upto (FixedDot full centre y) (x + 16))
crossings_next full centre y x g h room off outside line p = fixed_up_to full centre y (x + 1) (x + 16) g h (omega arith)
    (λ i from below. bare_light full centre i y room (record { column = (λ e. omega (arith, e, from, below, line)); row = off; outside = omega (arith, outside) }))
    p

pub fixed_done : (full : Bool) (centre n : ℕ) (g h : Picture) → row_count g ≡ n → Paints g h (Upto (FixedRow full centre) n) →
    Paints g h (λ x y. IsTrue (is_dark_fixed full centre x y))
fixed_done full centre n g h tall p = paints_same g h (Upto (FixedRow full centre) n) (λ x y. IsTrue (is_dark_fixed full centre x y)) p
    (λ a b in_a in_b q. q.2.1)
    (λ a b in_a in_b q. (b, subst (λ (w : ℕ). b < w) tall in_b, (refl, q)))

-- bit `bit` of the mode message, if it is 1
abbrev pub ModeDot : (full : Bool) (centre : ℕ) (bits : List Bool) (bit a b : ℕ) → Type 0
ModeDot full centre bits bit a b = (slice_get bits bit ≡ Some true) × ((a, b) ≡ mode_place full centre bit)

some_once : (a b : Bool) → Some a ≡ Some b → a ≡ b
some_once a b e = cc

pub mode_dot : (full : Bool) (centre : ℕ) (bits : List Bool) (bit x y : ℕ) (dark : Bool) (g h : Picture) →
    slice_get bits bit ≡ Some dark → x ≡ (mode_place full centre bit).0 → y ≡ (mode_place full centre bit).1 →
    Paints g h (λ a b. (dark ≡ true) × (a ≡ x) × (b ≡ y)) → Paints g h (ModeDot full centre bits bit)
mode_dot full centre bits bit x y dark g h here is-x is-y p =
    paints_same g h (λ a b. (dark ≡ true) × (a ≡ x) × (b ≡ y)) (ModeDot full centre bits bit) p
    (λ a b in_a in_b q. (here ∙ ap Some q.0, ap (λ (t : ℕ). (t, b)) (q.1 ∙ is-x) ∙ ap (λ (t : ℕ). ((mode_place full centre bit).0, t)) (q.2 ∙ is-y)))
    (λ a b in_a in_b q. (some_once dark true (sym here ∙ q.0), ap (λ (t : ℕ × ℕ). t.0) q.1 ∙ sym is-x, ap (λ (t : ℕ × ℕ). t.1) q.1 ∙ sym is-y))

pub mode_done : (full : Bool) (centre : ℕ) (bits : List Bool) (n : ℕ) (g h : Picture) → length bits ≡ n → Paints g h (Upto (ModeDot full centre bits) n) →
    Paints g h (IsModeDot full centre bits)
mode_done full centre bits n g h all p = paints_same g h (Upto (ModeDot full centre bits) n) (IsModeDot full centre bits) p
    (λ a b in_a in_b q. record { bit = q.0; one = q.2.0; place = q.2.1 })
    (λ a b in_a in_b q. (q.bit, subst (λ (k : ℕ). q.bit < k) all (slice_get_within bits q.bit true q.one), (q.one, q.place)))

-- bit `number` of a layer, if it is 1
abbrev pub DataDot : (size : Size) (bits : List Bool) (layer number a b : ℕ) → Type 0
DataDot size bits layer number a b =
    (slice_get bits (bits_before size layer + number) ≡ Some true) × IsBitPlace size (bits_before size layer + number) a b

pub data_dot : (size : Size) (bits : List Bool) (layer number at : ℕ) (dark : Bool) (g h : Picture) →
    at ≡ bits_before size layer + number → slice_get bits at ≡ Some dark →
    Paints g h (λ a b. (dark ≡ true) × IsBitPlace size (bits_before size layer + number) a b) → Paints g h (DataDot size bits layer number)
data_dot size bits layer number at dark g h is-at here p =
    let here' : slice_get bits (bits_before size layer + number) ≡ Some dark = ap (slice_get bits) (sym is-at) ∙ here in
    paints_same g h (λ a b. (dark ≡ true) × IsBitPlace size (bits_before size layer + number) a b) (DataDot size bits layer number) p
    (λ a b in_a in_b q. (here' ∙ ap Some q.0, q.1))
    (λ a b in_a in_b q. (some_once dark true (sym here' ∙ q.0), q.1))

-- a bit drawn at its place, if it is 1
pub placed_dot : (size : Size) (q x y : ℕ) (dark : Bool) (g h : Picture) → IsBitPlace size q x y →
    Paints g h (λ a b. (dark ≡ true) × (a ≡ x) × (b ≡ y)) → Paints g h (λ a b. (dark ≡ true) × IsBitPlace size q a b)
placed_dot size q x y dark g h there p =
    paints_same g h (λ a b. (dark ≡ true) × (a ≡ x) × (b ≡ y)) (λ a b. (dark ≡ true) × IsBitPlace size q a b) p
    (λ a b in_a in_b r. (
      r.0,
      subst (λ (t : ℕ). IsBitPlace size q t b) (sym r.1) (subst (λ (t : ℕ). IsBitPlace size q x t) (sym r.2) there),
    ))
    (λ a b in_a in_b r. let only : SamePlace a x b y = place_only size q a b x y r.1 there in (r.0, only.column, only.row))

-- bit `along` of a side of a layer, if it is 1
abbrev pub SideDot : (size : Size) (bits : List Bool) (layer side along a b : ℕ) → Type 0
SideDot size bits layer side along a b = DataDot size bits layer (side * (2 * pairs_on_side size layer) + along) a b

pub side_done : (size : Size) (bits : List Bool) (layer side n : ℕ) (g h : Picture) → n ≡ 2 * pairs_on_side size layer →
    Paints g h (Upto (SideDot size bits layer side) n) → Paints g h (IsSideDot size bits layer side)
side_done size bits layer side n g h all p = paints_same g h (Upto (SideDot size bits layer side) n) (IsSideDot size bits layer side) p
    (λ a b in_a in_b q. record { along = q.0; below = subst (λ (k : ℕ). q.0 < k) all q.1; one = q.2.0; place = q.2.1 })
    (λ a b in_a in_b q. (q.along, subst (λ (k : ℕ). q.along < k) (sym all) q.below, (q.one, q.place)))

pub layer_done : (size : Size) (bits : List Bool) (layer n : ℕ) (g h : Picture) → n ≡ 4 →
    Paints g h (Upto (IsSideDot size bits layer) n) → Paints g h (IsLayerDot size bits layer)
layer_done size bits layer n g h all p = paints_same g h (Upto (IsSideDot size bits layer) n) (IsLayerDot size bits layer) p
    (λ a b in_a in_b q. record {
      bit = bits_before size layer + (q.0 * (2 * pairs_on_side size layer) + q.2.along);
      from = omega arith;
      below = let within : q.0 * (2 * pairs_on_side size layer) + q.2.along < 8 * pairs_on_side size layer =
          side_within q.0 q.2.along (pairs_on_side size layer) (subst (λ (k : ℕ). q.0 < k) all q.1) q.2.below in omega (arith, within);
      one = q.2.one;
      place = q.2.place;
    })
    (λ a b in_a in_b q.
    let run : ℕ = 2 * pairs_on_side size layer in
    let number : ℕ = q.bit - bits_before size layer in
    let few : number < 4 * run = let below : q.bit < bits_before size layer + 8 * pairs_on_side size layer = q.below in
    let from : bits_before size layer ≤ q.bit = q.from in omega arith in
    let some : 0 < run = omega (arith, few) in
    let e : bits_before size layer + (number / run * run + number % run) ≡ q.bit =
    ap (λ (k : ℕ). bits_before size layer + k) (div-add-mod' number run) ∙ (let from : bits_before size layer ≤ q.bit = q.from in omega arith) in (
      number / run,
      subst (λ (k : ℕ). number / run < k) (sym all) ((div-lt_iff_lt-mul some).1 few),
      record {
        along = number % run;
        below = mod_below number run some;
        one = ap (slice_get bits) e ∙ q.one;
        place = subst (λ (t : ℕ). IsBitPlace size t a b) (sym e) q.place;
      },
    ))

pub data_done : (size : Size) (bits : List Bool) (n : ℕ) (g h : Picture) → n ≡ size.layers →
    Paints g h (Upto (IsLayerDot size bits) n) → Paints g h (IsDataDot size bits)
data_done size bits n g h all p = paints_same g h (Upto (IsLayerDot size bits) n) (IsDataDot size bits) p
    (λ a b in_a in_b q. record { bit = q.2.bit; one = q.2.one; place = q.2.place })
    (λ a b in_a in_b q. (
      q.place.layer,
      subst (λ (t : ℕ). q.place.layer < t) (sym all) q.place.is_layer,
      record { bit = q.bit; from = q.place.from; below = q.place.below; one = q.one; place = q.place },
    ))
