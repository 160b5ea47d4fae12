-- Bounds on the numbers of a size, and that its kind and its side tell it.
use Rattle.std.proofs.Common.{◌≡◌, ℕ, ◌≤◌, Bool, true, false, List, length, ap, sym, ◌∙◌, arith}
use Rattle.std.proofs.lemmas.Bool.Decides.{nat_tests}
use Rattle.aztec_layout.specs.declared.sizes.Size.{Size}
use Rattle.aztec_layout.specs.declared.allowed.Allowed.{Allowed}
use Rattle.aztec_layout.specs.Allowed.{counted_share}
use Rattle.aztec_layout.specs.ModeMessage.{CanHold}
use Rattle.aztec_layout.specs.Sizes.{IsSize, codeword_width, codewords_of, holds_of, side_of}
use Rattle.aztec_layout.specs.Smallest.{IsSmallest}
use Rattle.aztec_layout.specs.Stuffing.{IsStuffed}
use Rattle.aztec_layout.proofs.SizeParts.{size_at}
use Rattle.aztec_layout.proofs.StuffingLemmas.{stuffed_once}

-- A codeword has at most 12 bits.
pub width_few : (size : Size) → codeword_width size ≤ 12
width_few size = grind (arith, nat_tests)

-- A side has at most 151 modules, and at least 15.
side_few_at : (f : Bool) (n : ℕ) → IsSize (size_at f n) → side_of (size_at f n) ≤ 151
side_few_at true n sized = omega (arith, sized.1)
side_few_at false n sized = omega (arith, sized.1)

pub side_few : (size : Size) → IsSize size → side_of size ≤ 151
side_few size = side_few_at size.full size.layers

side_some_at : (f : Bool) (n : ℕ) → 1 ≤ n → 15 ≤ side_of (size_at f n)
side_some_at true n some = omega (arith, some)
side_some_at false n some = omega (arith, some)

pub side_some : (size : Size) → IsSize size → 15 ≤ side_of size
side_some size sized = side_some_at size.full size.layers sized.0

-- Sizes of one kind and one side are one size.
same_layers : (f : Bool) (m n : ℕ) → side_of (size_at f m) ≡ side_of (size_at f n) → m ≡ n
same_layers true m n same = omega (arith, same)
same_layers false m n same = omega (arith, same)

same_size_at : (f : Bool) (m n : ℕ) (g : Bool) → f ≡ g → side_of (size_at f m) ≡ side_of (size_at g n) → size_at f m ≡ size_at g n
same_size_at f m n g kinds sides =
    ap (λ (k : ℕ). size_at f k) (same_layers f m n (sides ∙ ap (λ (h : Bool). side_of (size_at h n)) (sym kinds)))
    ∙ ap (λ (h : Bool). size_at h n) kinds

pub same_size : (s t : Size) → s.full ≡ t.full → side_of s ≡ side_of t → s ≡ t
same_size s t = same_size_at s.full s.layers t.layers t.full

-- What a size holds, it has as codewords, and a compact one holds at most 64.
pub holds_few_at : (f : Bool) (n share held : ℕ) → held ≤ holds_of (size_at f n) share → held ≤ codewords_of (size_at f n)
holds_few_at true n share held h = omega (arith, h)
holds_few_at false n share held h = omega (arith, h)

holds_compact_at : (f : Bool) (n share held : ℕ) → held ≤ holds_of (size_at f n) share → f ≡ false → held ≤ 64
holds_compact_at true n share held h is = absurd (cc)
holds_compact_at false n share held h is = omega (arith, h)

pub can_hold_of : (size : Size) (share held : ℕ) → 1 ≤ held → held ≤ holds_of size share → CanHold size held
can_hold_of size share held some few = record {
  some = some;
  few = holds_few_at size.full size.layers share held few;
  compact = holds_compact_at size.full size.layers share held few;
}

-- The stuffed codewords of bits can be named in the mode message of the smallest size that holds the bits.
pub can_hold : (bits : List Bool) (words : List ℕ) (allowed : Allowed) (size : Size) → IsSmallest bits allowed size
    → IsStuffed (codeword_width size) bits words → 1 ≤ length words → CanHold size (length words)
can_hold bits words allowed size smallest stuffed some =
    let count : length words ≡ smallest.holds.count =
    ap length (stuffed_once (codeword_width size) bits words smallest.holds.takes.words stuffed smallest.holds.takes.stuffed) ∙ smallest.holds.takes.counted in
    can_hold_of size (counted_share allowed) (length words) some (omega (arith, count, smallest.holds.enough))
