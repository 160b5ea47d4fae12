-- A picture with one module turned in a codeword shows codewords of which one more at most differs.
use Rattle.std.proofs.Common.{◌≡◌, ℕ, ◌+◌, ◌*◌, ◌^◌, ◌<◌, ◌≤◌, ◌⊎◌, Bool, true, not, List, [], ◌∷◌, ◌++◌, length, refl, sym, ap, subst, ◌∙◌, inl, inr, length-append, arith}
use Rattle.std.specs.Prelude.{All, option_map, slice_get, ◌==◌, if◌then◌else◌}
use Rattle.std.proofs.lemmas.Bool.{cases_eq}
use Rattle.std.proofs.lemmas.Bool.Decides.{nat_tests}
use Rattle.bar_base.specs.Picture.{Picture, module_at, row_count}
use Rattle.galois.specs.CheckNumbers.{apart}
use Rattle.galois.specs.CheckWord.{distance}
use Rattle.aztec_layout.specs.declared.sizes.Size.{Size}
use Rattle.aztec_layout.specs.DataReading.{AreCodewords, HasSide}
use Rattle.aztec_layout.specs.ModeMessage.{word_bits}
use Rattle.aztec_layout.specs.Places.{IsBitPlace, IsDataModule}
use Rattle.aztec_layout.specs.Sizes.{codeword_width, codewords_of, lead_bits}
use Rattle.aztec_layout.proofs.BitLemmas.{length-word_bits}
use Rattle.aztec_layout.proofs.Spots.{place_apart, place_free}
use Rattle.zint_demo.specs.Damage.{IsFirstBit, IsTurned, ShowsCodewordsNear}
use Rattle.zint_demo.proofs.FirstBits.{width_some}
use Rattle.zint_demo.proofs.TurnedWords.{FirstTurned, Parted, all_middle, all_replaced, apart_replaced, bits_around, first_turned, kept_elsewhere, parted, turned_there}

module _ (size : Size) (codeword : ℕ) (g h : Picture) (side : HasSide g size) (turning : IsTurned g h (IsFirstBit size codeword))
    (words : List ℕ) (shown : AreCodewords size g words) (p : Parted words codeword) (f : FirstTurned (codeword_width size) p.word) where
  abbrev front : List Bool
  front = word_bits (codeword_width size) p.front

  abbrev back : List Bool
  back = f.rest ++ word_bits (codeword_width size) p.back

  abbrev pub new_words : List ℕ
  new_words = p.front ++ f.other ∷ p.back

  old_bits : word_bits (codeword_width size) words ≡ front ++ f.bit ∷ back
  old_bits = ap (word_bits (codeword_width size)) p.is ∙ bits_around (codeword_width size) p.front p.back p.word f.bit f.rest f.old

  new_bits : word_bits (codeword_width size) new_words ≡ front ++ not f.bit ∷ back
  new_bits = bits_around (codeword_width size) p.front p.back f.other (not f.bit) f.rest f.new

  first_at : length front ≡ codeword * codeword_width size
  first_at = length-word_bits (codeword_width size) p.front ∙ ap (λ (n : ℕ). n * codeword_width size) p.counted

  same_bit : (a t u : ℕ) → a + t ≡ a + u → t ≡ u
  same_bit a t u e = omega (arith, e)

  bit_shown : (t x y : ℕ) → t < codewords_of size * codeword_width size → IsBitPlace size (lead_bits size + t) x y → x < g.width → y < row_count g
      → (t ≡ codeword * codeword_width size) ⊎ (t ≡ codeword * codeword_width size → ⊥)
      → module_at h x y ≡ slice_get (word_bits (codeword_width size) new_words) t
  bit_shown t x y inside place in_x in_y (inl here) =
      let at : t ≡ length front = here ∙ sym first_at in
      turning.turned x y in_x in_y (subst (λ (k : ℕ). IsBitPlace size (lead_bits size + k) x y) here place)
      ∙ ap (option_map not) (shown.bits t x y inside place ∙ ap (λ (b : List Bool). slice_get b t) old_bits ∙ ap (slice_get (front ++ f.bit ∷ back)) at)
      ∙ sym (turned_there front back f.bit)
      ∙ ap (slice_get (front ++ not f.bit ∷ back)) (sym at)
      ∙ ap (λ (b : List Bool). slice_get b t) (sym new_bits)
  bit_shown t x y inside place in_x in_y (inr other) =
      turning.kept x y in_x in_y
      (λ q. other (same_bit (lead_bits size) t (codeword * codeword_width size)
      (place_apart size (lead_bits size + t) (lead_bits size + codeword * codeword_width size) x y place q)))
      ∙ shown.bits t x y inside place
      ∙ ap (λ (b : List Bool). slice_get b t) old_bits
      ∙ sym (kept_elsewhere front back f.bit t (λ e. other (e ∙ first_at)))
      ∙ ap (λ (b : List Bool). slice_get b t) (sym new_bits)

  pub new_shown : AreCodewords size h new_words
  new_shown = record {
    counted = omega (arith, length-append p.front (f.other ∷ p.back), length-append p.front (p.word ∷ p.back), ap length p.is, shown.counted);
    each = all_replaced (λ (w : ℕ). w < 2 ^ codeword_width size) p.front p.back p.word f.other
        (subst (λ (ws : List ℕ). All (λ (w : ℕ). w < 2 ^ codeword_width size) ws) p.is shown.each) f.below;
    bits = λ t x y inside place.
        let free : IsDataModule size x y = place_free size (lead_bits size + t) x y place in
        bit_shown t x y inside place (subst (λ (n : ℕ). x < n) (sym side.width) free.column) (subst (λ (n : ℕ). y < n) (sym side.rows) free.row)
        (cases_eq t (codeword * codeword_width size));
  }

  pub new_near : (codewords : List ℕ) (count : ℕ) → apart words codewords ≤ count → apart new_words codewords ≤ count + 1
  new_near codewords count near =
      omega (arith, near, apart_replaced p.front p.back codewords p.word f.other, ap (λ (ws : List ℕ). apart ws codewords) p.is)

pub near_next : (size : Size) (codeword : ℕ) (g h : Picture) → HasSide g size → codeword < codewords_of size → IsTurned g h (IsFirstBit size codeword)
    → (codewords : List ℕ) (count : ℕ) → ShowsCodewordsNear size g codewords count → ShowsCodewordsNear size h codewords (count + 1)
near_next size codeword g h side inside turning codewords count near =
    let p : Parted near.words codeword = parted near.words codeword (omega (arith, inside, near.shown.counted)) in
    let small : p.word < 2 ^ codeword_width size =
    all_middle (λ (w : ℕ). w < 2 ^ codeword_width size) p.front p.back p.word
    (subst (λ (ws : List ℕ). All (λ (w : ℕ). w < 2 ^ codeword_width size) ws) p.is near.shown.each) in
    let f : FirstTurned (codeword_width size) p.word = first_turned (codeword_width size) p.word (width_some size) small in
    record {
      words = new_words size codeword g h side turning near.words near.shown p f;
      shown = new_shown size codeword g h side turning near.words near.shown p f;
      near = new_near size codeword g h side turning near.words near.shown p f codewords count near.near;
    }

same_number : (n : ℕ) → (n == n) ≡ true
same_number n = grind (arith, nat_tests)

pub apart_self : (words : List ℕ) → apart words words ≡ 0
unfolding distance
apart_self [] = refl
apart_self (w ∷ words) =
    ap (λ (b : Bool). (if b then 0 else 1) + apart words words) (same_number w) ∙ ap (λ (n : ℕ). 0 + n) (apart_self words)

-- a picture shows its own codewords
pub near_none : (size : Size) (g : Picture) (codewords : List ℕ) → AreCodewords size g codewords → ShowsCodewordsNear size g codewords 0
near_none size g codewords shown = record { words = codewords; shown = shown; near = omega (arith, apart_self codewords) }
