-- Words of which one has its first bit turned.
use Rattle.std.proofs.Common.{◌≡◌, ◌≢◌, ℕ, zero, suc, ◌+◌, ◌-◌, ◌*◌, ◌^◌, ◌<◌, ◌≤◌, Bool, true, false, not, List, [], ◌∷◌, ◌++◌, length, refl, sym, ap, subst, ◌∙◌, inl, inr, arith}
use Rattle.std.specs.Prelude.{All, option_map, slice_get, ◌==◌, if◌then◌else◌}
use Rattle.std.proofs.Math.Nat.{pow-suc}
use Rattle.std.proofs.lemmas.Bool.{cases_lt}
use Rattle.std.proofs.lemmas.List.Concat.{flat_map-append}
use Rattle.std.proofs.lemmas.List.Elements.{All-cons, All-head, All-tail}
use Rattle.bar_base.specs.Bits.{to_bits}
use Rattle.bar_base.proofs.NumberBits.{to_bits-parts}
use Rattle.galois.specs.CheckNumbers.{apart}
use Rattle.galois.specs.CheckWord.{distance}
use Rattle.aztec_layout.specs.ModeMessage.{word_bits}

-- A word, and the one that differs from it in the first bit.
pub record FirstTurned (width word : ℕ) : Type 0 where
  pub other : ℕ
  pub below : other < 2 ^ width
  pub bit : Bool
  pub rest : List Bool
  pub old : to_bits width word ≡ bit ∷ rest
  pub new : to_bits width other ≡ not bit ∷ rest

bits_one : to_bits 1 1 ≡ true ∷ []
unfolding to_bits
bits_one = refl

bits_nought : to_bits 1 0 ≡ false ∷ []
unfolding to_bits
bits_nought = refl

with_first : (k low : ℕ) → low < 2 ^ k → to_bits (1 + k) (1 * 2 ^ k + low) ≡ true ∷ to_bits k low
with_first k low small = to_bits-parts 1 k 1 low small ∙ ap (λ (b : List Bool). b ++ to_bits k low) bits_one

without_first : (k low : ℕ) → low < 2 ^ k → to_bits (1 + k) (0 * 2 ^ k + low) ≡ false ∷ to_bits k low
without_first k low small = to_bits-parts 1 k 0 low small ∙ ap (λ (b : List Bool). b ++ to_bits k low) bits_nought

twice : (k : ℕ) → 2 ^ (1 + k) ≡ 2 ^ k + 2 ^ k
twice k = ap (λ (n : ℕ). 2 ^ n) (let e : 1 + k ≡ suc k = omega arith in e) ∙ pow-suc 2 k ∙ (let e : 2 ^ k * 2 ≡ 2 ^ k + 2 ^ k = omega arith in e)

first_turned_at : (k word : ℕ) → word < 2 ^ (1 + k) → FirstTurned (1 + k) word
first_turned_at k word below = elim (cases_lt word (2 ^ k)) [
  | inl low ↦ record {
    other = 1 * 2 ^ k + word;
    below = omega (arith, low, twice k);
    bit = false;
    rest = to_bits k word;
    old = ap (to_bits (1 + k)) (let e : word ≡ 0 * 2 ^ k + word = omega arith in e) ∙ without_first k word low;
    new = with_first k word low;
  }
  | inr high ↦
      let small : word - 2 ^ k < 2 ^ k = omega (arith, high, below, twice k) in
      record {
        other = 0 * 2 ^ k + (word - 2 ^ k);
        below = omega (arith, small, twice k);
        bit = true;
        rest = to_bits k (word - 2 ^ k);
        old = ap (to_bits (1 + k)) (let e : word ≡ 1 * 2 ^ k + (word - 2 ^ k) = omega (arith, high) in e) ∙ with_first k (word - 2 ^ k) small;
        new = without_first k (word - 2 ^ k) small;
      }
]

pub first_turned : (width word : ℕ) → 1 ≤ width → word < 2 ^ width → FirstTurned width word
first_turned width word some below =
    let e : 1 + (width - 1) ≡ width = omega (arith, some) in
    subst (λ (w : ℕ). FirstTurned w word) e (first_turned_at (width - 1) word (subst (λ (w : ℕ). word < 2 ^ w) (sym e) below))

-- A list parted at one of its places.
pub record Parted (words : List ℕ) (place : ℕ) : Type 0 where
  pub front : List ℕ
  pub word : ℕ
  pub back : List ℕ
  pub is : words ≡ front ++ word ∷ back
  pub counted : length front ≡ place

pub parted : (words : List ℕ) (place : ℕ) → place < length words → Parted words place
parted [] place inside = absurd (omega (arith, inside))
parted (w ∷ words) zero inside = record { front = []; word = w; back = words; is = refl; counted = refl }
parted (w ∷ words) (suc place) inside =
    let more = parted words place (omega (arith, inside)) in
    record { front = w ∷ more.front; word = more.word; back = more.back; is = ap (λ (ws : List ℕ). w ∷ ws) more.is; counted = ap suc more.counted }

-- what holds of each word, where one is replaced
pub all_replaced : (P : ℕ → Type 0) (front back : List ℕ) (word other : ℕ) → All P (front ++ word ∷ back) → P other → All P (front ++ other ∷ back)
all_replaced P [] back word other all here = All-cons P other back here (All-tail P word back all)
all_replaced P (w ∷ front) back word other all here =
    All-cons P w (front ++ other ∷ back) (All-head P w (front ++ word ∷ back) all) (all_replaced P front back word other (All-tail P w (front ++ word ∷ back) all) here)

-- what holds of each word, holds of one among them
pub all_middle : (P : ℕ → Type 0) (front back : List ℕ) (word : ℕ) → All P (front ++ word ∷ back) → P word
all_middle P [] back word all = All-head P word back all
all_middle P (w ∷ front) back word all = all_middle P front back word (All-tail P w (front ++ word ∷ back) all)

one_at_most : (b c : Bool) (d : ℕ) → (if b then 0 else 1) + d ≤ (if c then 0 else 1) + d + 1
one_at_most true true d = omega arith
one_at_most true false d = omega arith
one_at_most false true d = omega arith
one_at_most false false d = omega arith

-- words of which one is replaced are at most one further from others
pub apart_replaced : (front back others : List ℕ) (word other : ℕ) → apart (front ++ other ∷ back) others ≤ apart (front ++ word ∷ back) others + 1
unfolding distance
apart_replaced [] back [] word other = omega arith
apart_replaced [] back (o ∷ others) word other = one_at_most (other == o) (word == o) (apart back others)
apart_replaced (w ∷ front) back [] word other = omega arith
apart_replaced (w ∷ front) back (o ∷ others) word other = omega (arith, apart_replaced front back others word other)

-- a list of bits where one is turned: there, and elsewhere
pub turned_there : (front back : List Bool) (bit : Bool) → slice_get (front ++ not bit ∷ back) (length front) ≡ option_map not (slice_get (front ++ bit ∷ back) (length front))
turned_there [] back bit = refl
turned_there (b ∷ front) back bit = turned_there front back bit

pub kept_elsewhere : (front back : List Bool) (bit : Bool) (t : ℕ) → t ≢ length front → slice_get (front ++ not bit ∷ back) t ≡ slice_get (front ++ bit ∷ back) t
kept_elsewhere [] back bit zero other = absurd (other refl)
kept_elsewhere [] back bit (suc t) other = refl
kept_elsewhere (b ∷ front) back bit zero other = refl
kept_elsewhere (b ∷ front) back bit (suc t) other = kept_elsewhere front back bit t (λ e. other (ap suc e))

-- the bits of words around one of them
pub bits_around : (width : ℕ) (front back : List ℕ) (word : ℕ) (bit : Bool) (rest : List Bool) → to_bits width word ≡ bit ∷ rest
    → word_bits width (front ++ word ∷ back) ≡ word_bits width front ++ bit ∷ (rest ++ word_bits width back)
bits_around width front back word bit rest here =
    flat_map-append (to_bits width) front (word ∷ back)
    ∙ ap (λ (b : List Bool). word_bits width front ++ (b ++ word_bits width back)) here
