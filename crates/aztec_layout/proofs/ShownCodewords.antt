-- The codewords that a picture shows: one bit and one codeword more, and that there is one list of them.
use Rattle.std.proofs.Common.{◌≡◌, ℕ, suc, ◌+◌, ◌-◌, ◌*◌, ◌^◌, ◌<◌, ◌≤◌, ◌⊎◌, Bool, List, [], ◌∷◌, ◌++◌, Some, length, refl, sym, ap, subst, ◌∙◌, arith, inl, inr}
use Rattle.std.specs.Prelude.{All, Option, slice_get, nat_lt, if◌then◌else◌}
use Rattle.std.specs.Int.{from_bool}
use Rattle.std.proofs.Math.Nat.{suc-mul}
use Rattle.std.proofs.Math.Pow.{pow_mono}
use Rattle.std.proofs.lemmas.Bool.{cases_lt, cond-true, cond-false, lt-ltb, le-ltb}
use Rattle.std.proofs.lemmas.List.{append-nil, length-append}
use Rattle.std.proofs.lemmas.List.Concat.{flat_map-append}
use Rattle.std.proofs.lemmas.List.Elements.{All-nil, All-push}
use Rattle.bar_base.specs.Bits.{to_bits}
use Rattle.bar_base.specs.Picture.{Picture, module_at}
use Rattle.aztec_layout.specs.declared.sizes.Size.{Size}
use Rattle.aztec_layout.specs.DataReading.{AreCodewords, ShowsNumber}
use Rattle.aztec_layout.specs.ModeMessage.{word_bits}
use Rattle.aztec_layout.specs.Places.{IsBitPlace}
use Rattle.aztec_layout.specs.Sizes.{codeword_width, codewords_of, layer_bits, lead_bits}
use Rattle.aztec_layout.proofs.BitLemmas.{codewords_fit, length-word_bits}
use Rattle.bar_base.proofs.ListLemmas.{slice_get-append_left, slice_get-append_right}
use Rattle.aztec_layout.proofs.ReadLemmas.{ReadsAs, reads_more, same_items, words_from_bits}
use Rattle.aztec_layout.proofs.SizeLemmas.{width_few}
use Rattle.aztec_layout.proofs.Spots.{place_there}

-- The first codewords that a picture shows.
pub record ShowsWords (size : Size) (picture : Picture) (count : ℕ) (words : List ℕ) : Type 0 where
  pub counted : length words ≡ count
  pub each : All (λ word. word < 2 ^ codeword_width size) words
  pub bits : (t x y : ℕ) → t < count * codeword_width size → IsBitPlace size (lead_bits size + t) x y
      → module_at picture x y ≡ slice_get (word_bits (codeword_width size) words) t

-- A number of fewer bits than a codeword has is small.
pub number_small : (size : Size) (i number : ℕ) → number < 2 ^ i → i < codeword_width size → number < 2048
number_small size i number below inside =
    let power : 2 ^ i ≤ 2 ^ 11 = pow_mono (let e : i ≤ 11 = omega (arith, inside, width_few size) in e) in omega (arith, power, below)

pub shows_none : (size : Size) (picture : Picture) (first : ℕ) → ShowsNumber size picture first 0 0
shows_none size picture first = record { below = omega arith; bits = λ i x y inside. absurd (omega (arith, inside)) }

pub shows_more : (size : Size) (picture : Picture) (first count number digit u v : ℕ) (bit : Bool) → ShowsNumber size picture first count number
    → ((x y : ℕ) → IsBitPlace size (first + count) x y → (x ≡ u) × (y ≡ v)) → module_at picture u v ≡ Some bit → digit ≡ from_bool bit
    → ShowsNumber size picture first (count + 1) (number * 2 + digit)
shows_more size picture first count number digit u v bit known only here is_digit = record {
  below = more.below;
  bits = λ i x y inside place. bits_at i x y (cases_lt i count) inside place ∙ sym (more.each i inside);
}
  where
    source : ℕ → Option Bool
    source i = if nat_lt i count then slice_get (to_bits count number) i else Some bit

    front : (i : ℕ) → i < count → source i ≡ slice_get (to_bits count number) i
    front i h = cond-true (nat_lt i count) (slice_get (to_bits count number) i) (Some bit) (lt-ltb i count h)

    last : (i : ℕ) → count ≤ i → source i ≡ Some bit
    last i h = cond-false (nat_lt i count) (slice_get (to_bits count number) i) (Some bit) (le-ltb i count h)

    more : ReadsAs source (count + 1) (number * 2 + digit)
    more = reads_more source count number digit bit (record { below = known.below; each = λ i h. sym (front i h) }) (last count (let e : count ≤ count = omega arith in e)) is_digit

    bits_at : (i x y : ℕ) → (i < count) ⊎ (count ≤ i) → i < count + 1 → IsBitPlace size (first + i) x y → module_at picture x y ≡ source i
    bits_at i x y (inl h) inside place = known.bits i x y h place ∙ sym (front i h)
    bits_at i x y (inr h) inside place =
        let same : i ≡ count = omega (arith, h, inside) in
        let at = only x y (subst (λ (k : ℕ). IsBitPlace size (first + k) x y) same place) in
        ap (λ (a : ℕ). module_at picture a y) at.0 ∙ ap (λ (b : ℕ). module_at picture u b) at.1 ∙ here ∙ sym (last i h)

pub words_none : (size : Size) (picture : Picture) → ShowsWords size picture 0 []
words_none size picture = record { counted = refl; each = All-nil (λ word. word < 2 ^ codeword_width size); bits = λ t x y inside. absurd (omega (arith, inside)) }

pub words_more : (size : Size) (picture : Picture) (first k word : ℕ) (words more : List ℕ) → ShowsWords size picture k words
    → first ≡ lead_bits size + k * codeword_width size → ShowsNumber size picture first (codeword_width size) word → more ≡ words ++ word ∷ [] → ShowsWords size picture (k + 1) more
words_more size picture first k word words more known first_is here pushed =
    subst (λ (ws : List ℕ). ShowsWords size picture (k + 1) ws) (sym pushed) (record {
      counted = length-append words (word ∷ []) ∙ ap (λ (n : ℕ). n + 1) known.counted;
      each = All-push (λ w. w < 2 ^ codeword_width size) words word known.each here.below;
      bits = λ t x y inside place. at t x y (cases_lt t (k * codeword_width size)) inside place ∙ ap (λ (s : List Bool). slice_get s t) (sym whole);
    })
  where
    whole : word_bits (codeword_width size) (words ++ word ∷ []) ≡ word_bits (codeword_width size) words ++ to_bits (codeword_width size) word
    whole = flat_map-append (to_bits (codeword_width size)) words (word ∷ []) ∙ ap (λ (s : List Bool). word_bits (codeword_width size) words ++ s) (append-nil (to_bits (codeword_width size) word))

    long : length (word_bits (codeword_width size) words) ≡ k * codeword_width size
    long = length-word_bits (codeword_width size) words ∙ ap (λ (n : ℕ). n * codeword_width size) known.counted

    behind : (w a t : ℕ) → a ≤ t → t < a + w → t - a < w
    behind w a t past inside = omega (arith, past, inside)

    next : (k w : ℕ) → (k + 1) * w ≡ k * w + w
    next k w = ap (λ (n : ℕ). n * w) (let e : k + 1 ≡ suc k = omega arith in e) ∙ suc-mul k w

    place_is : (lead a t : ℕ) → a ≤ t → lead + t ≡ lead + a + (t - a)
    place_is lead a t past = omega (arith, past)

    at : (t x y : ℕ) → (t < k * codeword_width size) ⊎ (k * codeword_width size ≤ t) → t < (k + 1) * codeword_width size → IsBitPlace size (lead_bits size + t) x y
        → module_at picture x y ≡ slice_get (word_bits (codeword_width size) words ++ to_bits (codeword_width size) word) t
    at t x y (inl h) inside place =
        known.bits t x y h place ∙ sym (slice_get-append_left (word_bits (codeword_width size) words) (to_bits (codeword_width size) word) t (subst (λ (n : ℕ). t < n) (sym long) h))
    at t x y (inr h) inside place =
        let few : t - k * codeword_width size < codeword_width size = behind (codeword_width size) (k * codeword_width size) t h (subst (λ (n : ℕ). t < n) (next k (codeword_width size)) inside) in
        here.bits (t - k * codeword_width size) x y few
        (subst (λ (q : ℕ). IsBitPlace size q x y) (place_is (lead_bits size) (k * codeword_width size) t h ∙ ap (λ (n : ℕ). n + (t - k * codeword_width size)) (sym first_is)) place)
        ∙ sym (slice_get-append_right (word_bits (codeword_width size) words) (to_bits (codeword_width size) word) (t - k * codeword_width size))
        ∙ ap (slice_get (word_bits (codeword_width size) words ++ to_bits (codeword_width size) word))
        (ap (λ (n : ℕ). n + (t - k * codeword_width size)) long ∙ (let e : k * codeword_width size + (t - k * codeword_width size) ≡ t = omega (arith, h) in e))

pub words_all : (size : Size) (picture : Picture) (k : ℕ) (words : List ℕ) → codewords_of size ≤ k → k ≤ codewords_of size → ShowsWords size picture k words → AreCodewords size picture words
words_all size picture k words all most h =
    let same : k ≡ codewords_of size = omega (arith, all, most) in
    let g : ShowsWords size picture (codewords_of size) words = subst (λ (n : ℕ). ShowsWords size picture n words) same h in
    record { counted = g.counted; each = g.each; bits = g.bits }

-- A picture shows one list of codewords.
pub codewords_once : (picture : Picture) (s : Size) (vs ws : List ℕ) → AreCodewords s picture vs → AreCodewords s picture ws → vs ≡ ws
codewords_once picture s vs ws v w =
    let counted : length vs ≡ length ws = v.counted ∙ sym w.counted in
    let long : length (word_bits (codeword_width s) vs) ≡ codewords_of s * codeword_width s = length-word_bits (codeword_width s) vs ∙ ap (λ (n : ℕ). n * codeword_width s) v.counted in
    let long' : length (word_bits (codeword_width s) ws) ≡ codewords_of s * codeword_width s = length-word_bits (codeword_width s) ws ∙ ap (λ (n : ℕ). n * codeword_width s) w.counted in
    words_from_bits (codeword_width s) vs ws v.each w.each counted
    (same_items (word_bits (codeword_width s) vs) (word_bits (codeword_width s) ws) (long ∙ sym long')
    (λ t inside.
    let below : t < codewords_of s * codeword_width s = subst (λ (n : ℕ). t < n) long inside in
    let p = place_there s (lead_bits s + t) (within (layer_bits s) (codewords_of s * codeword_width s) t (codewords_fit s) below) in
    sym (v.bits t p.0 p.1 below p.2) ∙ w.bits t p.0 p.1 below p.2))
  where
    within : (all used t : ℕ) → used ≤ all → t < used → all - used + t < all
    within all used t fit below = omega (arith, fit, below)
