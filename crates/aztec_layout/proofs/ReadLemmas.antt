-- Words that are read bit by bit.
use Rattle.std.proofs.Common.{◌≡◌, ℕ, ◌+◌, ◌-◌, ◌*◌, ◌/◌, ◌%◌, ◌^◌, ◌<◌, ◌≤◌, ◌⊎◌, Bool, List, [], ◌∷◌, ◌++◌, Option, Some, length, add-one, suc, refl, ap, subst, sym, ◌∙◌, ⊎_elim, length-append, append-nil, arith}
use Rattle.std.specs.Prelude.{◌==◌, All, slice_get}
use Rattle.std.specs.Int.{from_bool}
use Rattle.std.proofs.lemmas.Bool.{cases_lt}
use Rattle.std.proofs.lemmas.List.Concat.{flat_map-append}
use Rattle.std.proofs.lemmas.List.Elements.{All-head, All-nil, All-push, All-tail}
use Rattle.bar_base.specs.Bits.{to_bits}
use Rattle.bar_base.specs.Picture.{Picture, module_at}
use Rattle.aztec_layout.specs.Core.{mode_place, mode_run}
use Rattle.aztec_layout.specs.CoreReading.{Agrees, AreModeWords, middle_of}
use Rattle.aztec_layout.specs.ModeMessage.{word_bits}
use Rattle.bar_base.proofs.ListLemmas.{slice_get-append_left, slice_get-append_right}
use Rattle.bar_base.proofs.NumberBits.{SameNumber, length-to_bits, to_bits-half, to_bits_once}
use Rattle.aztec_layout.proofs.BitLemmas.{last_digit, length-word_bits, small_digit}

-- The first bits of a source, as a number.
pub record ReadsAs (source : ℕ → Option Bool) (count number : ℕ) : Type 0 where
  pub below : number < 2 ^ count
  pub each : (i : ℕ) → i < count → slice_get (to_bits count number) i ≡ source i

pub reads_none : (source : ℕ → Option Bool) → ReadsAs source 0 0
reads_none source = record { below = omega arith; each = λ i inside. absurd (omega arith) }

pub reads_more : (source : ℕ → Option Bool) (count number digit : ℕ) (bit : Bool) → ReadsAs source count number →
    source count ≡ Some bit → digit ≡ from_bool bit → ReadsAs source (count + 1) (number * 2 + digit)
reads_more source count number digit bit known here is-digit =
    let small : digit < 2 = small_digit digit bit is-digit in
    let below : number < 2 ^ count = known.below in
    let bits : to_bits (suc count) (number * 2 + digit) ≡ to_bits count number ++ bit ∷ [] =
    to_bits-half count (number * 2 + digit)
    ∙ ap (λ (k : ℕ). to_bits count k ++ ((number * 2 + digit) % 2 == 1) ∷ []) (let e : (number * 2 + digit) / 2 ≡ number = omega arith in e)
    ∙ ap (λ (b : Bool). to_bits count number ++ b ∷ []) (last_digit number digit bit is-digit) in
    rw add-one (record {
      below = omega arith;
      each = λ i inside. ap (λ (s : List Bool). slice_get s i) bits ∙ at i inside (cases_lt i count);
    })
  where
    at : (i : ℕ) → i < suc count → (i < count) ⊎ (count ≤ i) → slice_get (to_bits count number ++ bit ∷ []) i ≡ source i
    at i inside cases = ⊎_elim
        (λ h. let in' : i < length (to_bits count number) = omega (arith, h, length-to_bits count number) in
        slice_get-append_left (to_bits count number) (bit ∷ []) i in' ∙ known.each i h)
        (λ h. let le : count ≤ i = h in
        let e : i ≡ length (to_bits count number) + 0 = omega (arith, length-to_bits count number) in
        ap (slice_get (to_bits count number ++ bit ∷ [])) e ∙ slice_get-append_right (to_bits count number) (bit ∷ []) 0
        ∙ sym (ap source (let same : i ≡ count = omega arith in same) ∙ here)) cases

-- The first words of a source.
pub record ReadWords (source : ℕ → Option Bool) (count : ℕ) (words : List ℕ) : Type 0 where
  pub counted : length words ≡ count
  pub each : All (λ word. word < 16) words
  pub bits : (t : ℕ) → t < 4 * count → slice_get (word_bits 4 words) t ≡ source t

pub read_words_none : (source : ℕ → Option Bool) → ReadWords source 0 []
read_words_none source = record { counted = refl; each = All-nil (λ word. word < 16); bits = λ t inside. absurd (omega arith) }

pub read_words_more : (source : ℕ → Option Bool) (count word : ℕ) (words more : List ℕ) → ReadWords source count words → word < 16 →
    ((i : ℕ) → i < 4 → slice_get (to_bits 4 word) i ≡ source (4 * count + i)) → more ≡ words ++ word ∷ [] → ReadWords source (count + 1) more
read_words_more source count word words more known small here pushed =
    subst (λ (ws : List ℕ). ReadWords source (count + 1) ws) (sym pushed) (record {
      counted = length-append words (word ∷ []) ∙ ap (λ (n : ℕ). n + 1) known.counted;
      each = All-push (λ w. w < 16) words word known.each small;
      bits = λ t inside. ap (λ (s : List Bool). slice_get s t) whole ∙ at t inside (cases_lt t (4 * count));
    })
  where
    whole : word_bits 4 (words ++ word ∷ []) ≡ word_bits 4 words ++ to_bits 4 word
    whole = flat_map-append (to_bits 4) words (word ∷ []) ∙ ap (λ (s : List Bool). word_bits 4 words ++ s) (append-nil (to_bits 4 word))

    long : length (word_bits 4 words) ≡ 4 * count
    long = let counted : length words ≡ count = known.counted in omega (arith, length-word_bits 4 words)

    at : (t : ℕ) → t < 4 * (count + 1) → (t < 4 * count) ⊎ (4 * count ≤ t) → slice_get (word_bits 4 words ++ to_bits 4 word) t ≡ source t
    at t inside cases = ⊎_elim
        (λ h. let in' : t < length (word_bits 4 words) = omega (arith, h, long) in
        slice_get-append_left (word_bits 4 words) (to_bits 4 word) t in' ∙ known.bits t h)
        (λ h. let le : 4 * count ≤ t = h in
        let e : t ≡ length (word_bits 4 words) + (t - 4 * count) = omega (arith, long) in
        ap (slice_get (word_bits 4 words ++ to_bits 4 word)) e ∙ slice_get-append_right (word_bits 4 words) (to_bits 4 word) (t - 4 * count)
        ∙ here (t - 4 * count) (omega arith) ∙ ap source (let same : 4 * count + (t - 4 * count) ≡ t = omega arith in same)) cases

-- the module at the place of a bit of the mode message
pub mode_module : (full : Bool) (g : Picture) (width t x y : ℕ) (dark : Bool) → width ≡ g.width → x ≡ (mode_place full (width / 2) t).0 →
    y ≡ (mode_place full (width / 2) t).1 → module_at g x y ≡ Some dark →
    module_at g (mode_place full (middle_of g) t).0 (mode_place full (middle_of g) t).1 ≡ Some dark
mode_module full g width t x y dark is-width is-x is-y here =
    ap (λ (w : ℕ). module_at g (mode_place full (w / 2) t).0 (mode_place full (w / 2) t).1) (sym is-width)
    ∙ ap (λ (a : ℕ). module_at g a (mode_place full (width / 2) t).1) (sym is-x) ∙ ap (λ (b : ℕ). module_at g x b) (sym is-y) ∙ here

-- one row more that agrees
pub rows_more : (full : Bool) (g : Picture) (y : ℕ) → ((a b : ℕ) → a < g.width → b < y → Agrees full g a b) →
    ((a : ℕ) → a < g.width → Agrees full g a y) → (a b : ℕ) → a < g.width → b < y + 1 → Agrees full g a b
rows_more full g y above here a b in_a in_b = ⊎_elim
    (λ h. above a b in_a h)
    (λ h. let le : y ≤ b = h in subst (λ (r : ℕ). Agrees full g a r) (let e : y ≡ b = omega arith in e) (here a in_a))
    (cases_lt b y)

-- one module more that agrees
pub columns_more : (full : Bool) (g : Picture) (x y : ℕ) → ((a : ℕ) → a < x → Agrees full g a y) → Agrees full g x y →
    (a : ℕ) → a < x + 1 → Agrees full g a y
columns_more full g x y before here a in_a = ⊎_elim
    (λ h. before a h)
    (λ h. let le : x ≤ a = h in subst (λ (k : ℕ). Agrees full g k y) (let e : x ≡ a = omega arith in e) here)
    (cases_lt a x)

-- lists of one length with the same items are one list
pub same_items : (xs ys : List Bool) → length xs ≡ length ys → ((t : ℕ) → t < length xs → slice_get xs t ≡ slice_get ys t) → xs ≡ ys
same_items [] [] lengths each = refl
same_items [] (y ∷ ys) lengths each = absurd (omega arith)
same_items (x ∷ xs) [] lengths each = absurd (omega arith)
same_items (x ∷ xs) (y ∷ ys) lengths each =
    let first : Some x ≡ Some y = each 0 (omega arith) in
    let rest : xs ≡ ys = same_items xs ys (omega arith) (λ t inside. each (suc t) (omega arith)) in
    ap (λ (b : Bool). b ∷ xs) (some_once x y first) ∙ ap (λ (bs : List Bool). y ∷ bs) rest
  where
    some_once : (a b : Bool) → Some a ≡ Some b → a ≡ b
    some_once a b e = cc

-- Words of a width are told by their bits.
pub words_from_bits : (width : ℕ) (vs ws : List ℕ) → All (λ w. w < 2 ^ width) vs → All (λ w. w < 2 ^ width) ws → length vs ≡ length ws → word_bits width vs ≡ word_bits width ws → vs ≡ ws
words_from_bits width [] [] small-v small-w lengths bits = refl
words_from_bits width [] (w ∷ ws) small-v small-w lengths bits = absurd (omega (arith, lengths))
words_from_bits width (v ∷ vs) [] small-v small-w lengths bits = absurd (omega (arith, lengths))
words_from_bits width (v ∷ vs) (w ∷ ws) small-v small-w lengths bits =
    let h : SameNumber v w (word_bits width vs) (word_bits width ws) =
    to_bits_once width v w (word_bits width vs) (word_bits width ws) (All-head (λ k. k < 2 ^ width) v vs small-v) (All-head (λ k. k < 2 ^ width) w ws small-w) bits in
    let rest : vs ≡ ws =
    words_from_bits width vs ws (All-tail (λ k. k < 2 ^ width) v vs small-v) (All-tail (λ k. k < 2 ^ width) w ws small-w) (omega (arith, lengths)) h.rest in
    ap (λ (k : ℕ). k ∷ vs) h.number ∙ ap (λ (ks : List ℕ). w ∷ ks) rest

-- the words that a picture shows are one list
pub mode_words_once : (full : Bool) (g : Picture) (vs ws : List ℕ) → AreModeWords full g vs → AreModeWords full g ws → vs ≡ ws
mode_words_once full g vs ws v w =
    let counted : length vs ≡ length ws = v.counted ∙ sym w.counted in
    let run : length vs ≡ mode_run full = v.counted in
    words_from_bits 4 vs ws v.each w.each counted
    (same_items (word_bits 4 vs) (word_bits 4 ws)
    (length-word_bits 4 vs ∙ ap (λ (n : ℕ). n * 4) counted ∙ sym (length-word_bits 4 ws))
    (λ t inside. let below : t < 4 * mode_run full = omega (arith, inside, length-word_bits 4 vs, run) in
    v.bits t below ∙ sym (w.bits t below)))

-- all words of a mode message
pub read_all : (full : Bool) (g : Picture) (count : ℕ) (words : List ℕ) → count ≡ mode_run full →
    ReadWords (λ t. module_at g (mode_place full (middle_of g) t).0 (mode_place full (middle_of g) t).1) count words → AreModeWords full g words
read_all full g count words all h = record {
  counted = h.counted ∙ all;
  each = h.each;
  bits = λ t inside. h.bits t (omega (arith, inside, all));
}
