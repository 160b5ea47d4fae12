-- The first size by numbers of codewords is the smallest that holds the bits, and its data codewords fit its mode message.
use Rattle.std.proofs.Common.{◌≡◌, ℕ, ◌+◌, ◌*◌, ◌/◌, ◌<◌, ◌≤◌, Bool, true, false, List, length, nat_le, refl, subst, ⊎_elim, if◌then◌else◌, arith}
use Rattle.std.proofs.lemmas.Bool.{cases_lt}
use Rattle.std.proofs.lemmas.Bool.Decides.{nat_tests}
use Rattle.std.proofs.lemmas.Nat.{mul-le}
use Rattle.aztec_layout.specs.declared.sizes.Size.{Size}
use Rattle.aztec_layout.specs.declared.allowed.Allowed.{Allowed}
use Rattle.aztec_layout.specs.declared.choice.NoFit.{NoFit}
use Rattle.aztec_layout.specs.declared.fitting.Needs.{Needs}
use Rattle.aztec_layout.specs.Allowed.{IsFirstSize, IsLast, NoSize, counted_share}
use Rattle.aztec_layout.specs.Sizes.{IsSize, codeword_width, codewords_of, holds_of, layer_bits}
use Rattle.aztec_layout.specs.Smallest.{AreBoundedNeeds, CountsUpTo, HasNoFit, HoldsBits, HoldsNeeds, IsSmallest, Takes, needed_at}
use Rattle.aztec_layout.specs.Stuffing.{CountsStuffed}
use Rattle.aztec_layout.proofs.SizeLemmas.{holds_few_at}
use Rattle.aztec_layout.proofs.SizeParts.{size_at}

-- The most codewords of any size with codewords of the width of a size.
abbrev most_at : Size → ℕ
most_at size = if nat_le size.layers 2 then 48 else if nat_le size.layers 8 then 240 else if nat_le size.layers 22 then 1020 else 1664

-- A size of so many layers has no more bits than one of the most layers.
layer_bits_few : (f : Bool) (n most : ℕ) → n ≤ most → layer_bits (size_at f n) ≤ (112 + 16 * most) * most
layer_bits_few true n most few = mul-le (112 + 16 * n) n (112 + 16 * most) most (omega arith) few
layer_bits_few false n most few = mul-le (88 + 16 * n) n (112 + 16 * most) most (omega arith) few

codewords_few : (a b c : Bool) (f : Bool) (n : ℕ) → n ≤ 32 → (a ≡ true → n ≤ 2) → (b ≡ true → n ≤ 8) → (c ≡ true → n ≤ 22)
    → layer_bits (size_at f n) / (if a then 6 else if b then 8 else if c then 10 else 12)
    ≤ (if a then 48 else if b then 240 else if c then 1020 else 1664)
codewords_few true b c f n sized a-few b-few c-few = let few : layer_bits (size_at f n) ≤ 288 = layer_bits_few f n 2 (a-few refl) in omega (arith, few)
codewords_few false true c f n sized a-few b-few c-few = let few : layer_bits (size_at f n) ≤ 1920 = layer_bits_few f n 8 (b-few refl) in omega (arith, few)
codewords_few false false true f n sized a-few b-few c-few = let few : layer_bits (size_at f n) ≤ 10208 = layer_bits_few f n 22 (c-few refl) in omega (arith, few)
codewords_few false false false f n sized a-few b-few c-few = let few : layer_bits (size_at f n) ≤ 19968 = layer_bits_few f n 32 sized in omega (arith, few)

layers_few : (f : Bool) (n : ℕ) → IsSize (size_at f n) → n ≤ 32
layers_few true n sized = sized.1
layers_few false n sized = omega (arith, sized.1)

-- What a size holds is at most that.
held_few : (size : Size) (share : ℕ) → IsSize size → holds_of size share ≤ most_at size
held_few size share sized =
    let few : codewords_of size ≤ most_at size =
    codewords_few (nat_le size.layers 2) (nat_le size.layers 8) (nat_le size.layers 22) size.full size.layers
    (layers_few size.full size.layers sized) (λ h. grind (arith, nat_tests)) (λ h. grind (arith, nat_tests)) (λ h. grind (arith, nat_tests)) in
    omega (arith, few, holds_few_at size.full size.layers share (holds_of size share) (omega arith))

counted_by : (a b c : Bool) (bits : List Bool) (needs : Needs) → AreBoundedNeeds bits needs
    → CountsUpTo (if a then 6 else if b then 8 else if c then 10 else 12) bits
    (if a then 48 else if b then 240 else if c then 1020 else 1664)
    (if a then needs.w6 else if b then needs.w8 else if c then needs.w10 else needs.w12)
counted_by true b c bits needs h = h.w6
counted_by false true c bits needs h = h.w8
counted_by false false true bits needs h = h.w10
counted_by false false false bits needs h = h.w12

counted_at : (bits : List Bool) (needs : Needs) (size : Size) → AreBoundedNeeds bits needs
    → CountsUpTo (codeword_width size) bits (most_at size) (needed_at needs size)
counted_at bits needs size h = counted_by (nat_le size.layers 2) (nat_le size.layers 8) (nat_le size.layers 22) bits needs h

takes_counted : (bits : List Bool) (size : Size) (count : ℕ) → CountsStuffed (codeword_width size) bits count → Takes bits size count
takes_counted bits size count counts = record { words = counts.words; stuffed = counts.stuffed; counted = counts.counted }

pub takes_at : (bits : List Bool) (size : Size) (width count : ℕ) → width ≡ codeword_width size → CountsStuffed width bits count → Takes bits size count
takes_at bits size width count same counts =
    takes_counted bits size count (subst (λ (n : ℕ). CountsStuffed n bits count) same counts)

-- A size that holds the bits holds the numbers of their codewords.
holds_needed : (bits : List Bool) (needs : Needs) (allowed : Allowed) (size : Size) → AreBoundedNeeds bits needs → IsSize size
    → HoldsBits bits allowed size → HoldsNeeds needs allowed size
holds_needed bits needs allowed size h sized holds =
    let counts : CountsUpTo (codeword_width size) bits (most_at size) (needed_at needs size) = counted_at bits needs size h in
    let few : holds_of size (counted_share allowed) ≤ most_at size = held_few size (counted_share allowed) sized in
    ⊎_elim
    (λ more. let many : most_at size < length holds.takes.words = counts.more more holds.takes.words holds.takes.stuffed in
    absurd (omega (arith, few, many, holds.takes.counted, holds.enough)))
    (λ less. let only : length holds.takes.words ≡ needed_at needs size = (counts.exact less).only holds.takes.words holds.takes.stuffed in
    omega (arith, only, holds.takes.counted, holds.enough))
    (cases_lt (most_at size) (needed_at needs size))

pub smallest_of : (bits : List Bool) (needs : Needs) (allowed : Allowed) (size : Size) → AreBoundedNeeds bits needs
    → IsFirstSize allowed (HoldsNeeds needs allowed) size → IsSmallest bits allowed size
smallest_of bits needs allowed size h first = record {
  is_allowed = first.is_allowed;
  holds = record {
    count = needed_at needs size;
    takes = takes_counted bits size (needed_at needs size)
        ((counted_at bits needs size h).exact (omega (arith, first.holds, held_few size (counted_share allowed) first.is_allowed.0)));
    enough = first.holds;
  };
  first = λ other allowed_other holds. first.first other allowed_other (holds_needed bits needs allowed other h allowed_other.0 holds);
}

pub no_fit_of : (bits : List Bool) (needs : Needs) (allowed : Allowed) (fault : NoFit) → AreBoundedNeeds bits needs → NoSize allowed (HoldsNeeds needs allowed)
    → IsLast allowed fault.last → Takes bits fault.last fault.needed → fault.held ≡ holds_of fault.last (counted_share allowed) → HasNoFit bits allowed fault
no_fit_of bits needs allowed fault h none last takes held = record {
  none = λ other allowed_other holds. none other allowed_other (holds_needed bits needs allowed other h allowed_other.0 holds);
  last = last;
  takes = takes;
  holds = held;
}
