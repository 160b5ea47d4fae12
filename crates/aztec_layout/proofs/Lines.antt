-- The columns and rows of data: apart from each other, inside the symbol, off the reference lines, and beyond the core.
use Rattle.std.proofs.Common.{◌≡◌, ◌≢◌, ℕ, ◌+◌, ◌*◌, ◌%◌, ◌<◌, ◌≤◌, ◌⊎◌, Bool, true, false, arith}
use Rattle.std.proofs.lemmas.Bool.Decides.{nat_tests}
use Rattle.std.specs.Int.{abs_diff}
use Rattle.aztec_layout.specs.declared.sizes.Size.{Size}
use Rattle.aztec_layout.specs.Sizes.{base_side, side_of}
use Rattle.aztec_layout.specs.Places.{centre_of, data_line}
use Rattle.aztec_layout.specs.Core.{rim_of}
use Rattle.aztec_layout.proofs.SizeParts.{size_at}

line_once_at : (f : Bool) (n i j : ℕ) → i < base_side (size_at f n) → j < base_side (size_at f n) →
    data_line (size_at f n) i ≡ data_line (size_at f n) j → i ≡ j
line_once_at true n i j in_i in_j same = grind (arith, nat_tests)
line_once_at false n i j in_i in_j same = same

pub line_once : (s : Size) (i j : ℕ) → i < base_side s → j < base_side s → data_line s i ≡ data_line s j → i ≡ j
line_once s = line_once_at s.full s.layers

line_inside_at : (f : Bool) (n i : ℕ) → i < base_side (size_at f n) → data_line (size_at f n) i < side_of (size_at f n)
line_inside_at true n i inside = grind (arith, nat_tests)
line_inside_at false n i inside = omega arith

pub line_inside : (s : Size) (i : ℕ) → i < base_side s → data_line s i < side_of s
line_inside s = line_inside_at s.full s.layers

line_off_at : (f : Bool) (n i : ℕ) → f ≡ true → i < base_side (size_at f n) →
    abs_diff (data_line (size_at f n) i) (centre_of (size_at f n)) % 16 ≢ 0
line_off_at true n i full inside = grind (arith, nat_tests)
line_off_at false n i full inside = cc

pub line_off : (s : Size) (i : ℕ) → s.full ≡ true → i < base_side s → abs_diff (data_line s i) (centre_of s) % 16 ≢ 0
line_off s = line_off_at s.full s.layers

line_beyond_at : (f : Bool) (n i : ℕ) → i < base_side (size_at f n) → (i < 2 * n) ⊎ (base_side (size_at f n) ≤ i + 2 * n) →
    rim_of f < abs_diff (data_line (size_at f n) i) (centre_of (size_at f n))
line_beyond_at true n i inside beyond = grind (arith, nat_tests)
line_beyond_at false n i inside beyond = grind arith

pub line_beyond : (s : Size) (i : ℕ) → i < base_side s → (i < 2 * s.layers) ⊎ (base_side s ≤ i + 2 * s.layers) →
    rim_of s.full < abs_diff (data_line s i) (centre_of s)
line_beyond s = line_beyond_at s.full s.layers
