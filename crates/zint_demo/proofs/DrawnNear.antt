-- A damaged symbol is near the drawn one: finder, marks and mode words stay, and of the codewords at most half of the check codewords differ.
use Rattle.std.proofs.Common.{◌≡◌, ℕ, ◌+◌, ◌*◌, ◌/◌, ◌<◌, ◌≤◌, ◌||◌, Bool, true, false, List, length, refl, sym, ap, subst, ◌∙◌, inl, inr, arith}
use Rattle.std.specs.Prelude.{replicate, slice_get}
use Rattle.std.proofs.lemmas.Bool.{cases_lt}
use Rattle.std.proofs.lemmas.List.{length-replicate}
use Rattle.bar_base.specs.Picture.{Picture, module_at, row_count}
use Rattle.bar_base.proofs.ListLemmas.{slice_get-append_right}
use Rattle.aztec_layout.specs.declared.allowed.Allowed.{Allowed}
use Rattle.aztec_layout.specs.declared.sizes.Size.{Size}
use Rattle.aztec_layout.specs.Core.{is_core, is_dark_mark, is_finder, is_light_mark, mode_place, mode_run, rim_of, ring_of}
use Rattle.aztec_layout.specs.CoreReading.{AreModeWords, middle_of}
use Rattle.aztec_layout.specs.DataReading.{AreCodewords, HasSide}
use Rattle.aztec_layout.specs.ModeMessage.{word_bits}
use Rattle.aztec_layout.specs.Places.{IsDataModule, centre_of}
use Rattle.aztec_layout.specs.Sizes.{IsSize, codeword_width, codewords_of, lead_bits, side_of}
use Rattle.aztec_layout.specs.SymbolGrid.{ShowsAll, data_bits}
use Rattle.aztec_layout.proofs.ShownLemmas.{symbol_shows}
use Rattle.aztec_layout.proofs.SizeParts.{size_at}
use Rattle.aztec_layout.proofs.Spots.{IsBeyondRim, beyond_rim, centre_room, mode_on_rim, place_free}
use Rattle.aztec_draw.specs.Symbol.{IsSymbolOf}
use Rattle.symbol_reader.specs.Drawn.{IsNearSymbol}
use Rattle.zint_demo.specs.Damage.{IsDamaged, ShowsCodewordsNear, damage_of}
use Rattle.zint_demo.proofs.Nearness.{apart_self}

-- a side is odd
side_odd_at : (f : Bool) (n : ℕ) → side_of (size_at f n) ≡ 2 * centre_of (size_at f n) + 1
side_odd_at true n = omega arith
side_odd_at false n = omega arith

pub side_odd : (s : Size) → side_of s ≡ 2 * centre_of s + 1
side_odd s = side_odd_at s.full s.layers

-- what is no further from the centre than the rim stands in the symbol
inside_at : (rim centre side x y : ℕ) → side ≡ 2 * centre + 1 → rim ≤ centre → ring_of centre x y ≤ rim → (x < side) × (y < side)
inside_at rim centre side x y odd room near = (grind arith, grind arith)

ring_inside : (s : Size) (x y : ℕ) → 1 ≤ s.layers → ring_of (centre_of s) x y ≤ rim_of s.full → (x < side_of s) × (y < side_of s)
ring_inside s x y some near = inside_at (rim_of s.full) (centre_of s) (side_of s) x y (side_odd s) (centre_room s some) near

no_core : (a b c : Bool) → a ≡ false → b ≡ false → c ≡ false → (a || (b || c)) ≡ true → ⊥
no_core true b c e f g h = absurd (cc)
no_core false true c e f g h = absurd (cc)
no_core false false true e f g h = absurd (cc)
no_core false false false e f g h = absurd (cc)

-- finder and marks stand in the symbol
core_inside : (s : Size) (x y : ℕ) → 1 ≤ s.layers → is_core s.full (centre_of s) x y ≡ true → (x < side_of s) × (y < side_of s)
core_inside s x y some core = elim (cases_lt (rim_of s.full) (ring_of (centre_of s) x y)) [
  | inl far ↦
      let beyond : IsBeyondRim s.full (centre_of s) x y = beyond_rim s.full (centre_of s) x y (centre_room s some) far in
      absurd (no_core (is_finder s.full (centre_of s) x y) (is_dark_mark s.full (centre_of s) x y) (is_light_mark s.full (centre_of s) x y)
      beyond.finder beyond.dark_marks beyond.light_marks core)
  | inr near ↦ ring_inside s x y some near
]

module _ (spelling : List Bool) (allowed : Allowed) (size : Size) (held : ℕ) (drawn picture : Picture) (symbol : IsSymbolOf spelling allowed size held drawn)
    (sized : IsSize size) (room : held ≤ codewords_of size) (damage : IsDamaged size held drawn picture) where
  counted : length symbol.codewords ≡ codewords_of size
  counted = omega (arith, symbol.coded.continues.counted, room, symbol.held_is)

  shows : ShowsAll size held symbol.codewords drawn
  shows = symbol_shows size held symbol.codewords drawn sized.0 counted symbol.grid

  middle : middle_of drawn ≡ centre_of size
  middle = ap (λ (w : ℕ). w / 2) symbol.grid.shown.square.width

  in_width : (x : ℕ) → x < side_of size → x < drawn.width
  in_width x inside = subst (λ (n : ℕ). x < n) (sym symbol.grid.shown.square.width) inside

  in_rows : (y : ℕ) → y < side_of size → y < row_count drawn
  in_rows y inside = subst (λ (n : ℕ). y < n) (sym (ap length symbol.grid.shown.square.heights ∙ length-replicate (side_of size) 1)) inside

  -- a module that holds no data bit stays
  stays : (x y : ℕ) → x < side_of size → y < side_of size → (IsDataModule size x y → ⊥) → module_at picture x y ≡ module_at drawn x y
  stays x y in_x in_y no_data =
      damage.kept x y (in_width x in_x) (in_rows y in_y)
      (λ p. no_data (place_free size (lead_bits size + (p.0 * (codewords_of size / damage_of size held)) * codeword_width size) x y p.2))

  core_stays : (x y : ℕ) → is_core size.full (centre_of size) x y ≡ true → module_at picture x y ≡ module_at drawn x y
  core_stays x y core =
      let inside : (x < side_of size) × (y < side_of size) = core_inside size x y sized.0 core in
      stays x y inside.0 inside.1
      (λ free. no_core (is_finder size.full (centre_of size) x y) (is_dark_mark size.full (centre_of size) x y) (is_light_mark size.full (centre_of size) x y)
      free.finder free.dark_marks free.light_marks core)

  mode_stays : (t : ℕ) → t < 4 * mode_run size.full
      → module_at picture (mode_place size.full (centre_of size) t).0 (mode_place size.full (centre_of size) t).1
      ≡ module_at drawn (mode_place size.full (centre_of size) t).0 (mode_place size.full (centre_of size) t).1
  mode_stays t inside =
      let x : ℕ = (mode_place size.full (centre_of size) t).0 in
      let y : ℕ = (mode_place size.full (centre_of size) t).1 in
      let on_rim : ring_of (centre_of size) x y ≡ rim_of size.full = mode_on_rim size.full (centre_of size) t (centre_room size sized.0) inside in
      let near : ring_of (centre_of size) x y ≤ rim_of size.full = omega (arith, on_rim) in
      let within : (x < side_of size) × (y < side_of size) = ring_inside size x y sized.0 near in
      stays x y within.0 within.1 (λ free. free.mode t inside refl)

  -- the mode words that the drawn symbol shows, the damaged one shows
  modes_stay : AreModeWords size.full picture shows.modes
  modes_stay = record {
    counted = shows.mode.counted;
    each = shows.mode.each;
    bits = λ t inside.
        shows.mode.bits t inside
        ∙ ap (λ (m : ℕ). module_at drawn (mode_place size.full m t).0 (mode_place size.full m t).1) middle
        ∙ sym (mode_stays t inside)
        ∙ ap (λ (m : ℕ). module_at picture (mode_place size.full m t).0 (mode_place size.full m t).1) (sym (ap (λ (w : ℕ). w / 2) damage.width ∙ middle));
  }

  bit_of : (t : ℕ) → slice_get (data_bits size symbol.codewords) (lead_bits size + t) ≡ slice_get (word_bits (codeword_width size) symbol.codewords) t
  bit_of t =
      ap (λ (n : ℕ). slice_get (data_bits size symbol.codewords) (n + t)) (sym (length-replicate (lead_bits size) false))
      ∙ slice_get-append_right (replicate (lead_bits size) false) (word_bits (codeword_width size) symbol.codewords) t

  pub drawn_shown : AreCodewords size drawn symbol.codewords
  drawn_shown = record {
    counted = counted;
    each = symbol.coded.continues.check.each;
    bits = λ t x y inside place. shows.bits (lead_bits size + t) x y place ∙ bit_of t;
  }

  pub near_drawn : (near : ShowsCodewordsNear size picture symbol.codewords (damage_of size held)) → IsNearSymbol size held symbol.codewords drawn picture
  near_drawn near = record {
    width = damage.width;
    rows = ap length damage.heights;
    core = λ x y core. core_stays x y (ap (λ (m : ℕ). is_core size.full m x y) (sym middle) ∙ core);
    drawn_modes = shows.modes;
    drawn_shown = shows.mode;
    modes = shows.modes;
    modes_shown = modes_stay;
    modes_near = omega (arith, apart_self shows.modes);
    words = near.words;
    words_shown = near.shown;
    words_near = omega (arith, near.near);
  }

-- a drawn symbol has the side of its size
pub drawn_side : (spelling : List Bool) (allowed : Allowed) (size : Size) (held : ℕ) (drawn : Picture) → IsSymbolOf spelling allowed size held drawn → IsSize size
    → HasSide drawn size
drawn_side spelling allowed size held drawn symbol sized = record {
  sized = sized;
  width = symbol.grid.shown.square.width;
  rows = ap length symbol.grid.shown.square.heights ∙ length-replicate (side_of size) 1;
}
