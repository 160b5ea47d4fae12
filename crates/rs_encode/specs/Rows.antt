-- multiples of the generator polynomial, as numbers in rows of 512
use Rattle.std.specs.Prelude.{◌≡◌, ℕ, ◌+◌, ◌-◌, ◌*◌, ◌<◌, ◌≤◌, List, length, nat_lt, slice_index_or, if◌then◌else◌}

-- The number of the element whose multiples are in a row: 0 to 15, then 16 times these, then 256 times these.
unfoldable pub row_number : ℕ → ℕ
row_number k = if nat_lt k 16 then k else if nat_lt k 32 then (k - 16) * 16 else (k - 32) * 256

-- A row has the numbers of the products of an element with the generator's coefficients, whose exponents are given.
abbrev pub IsProduct : {A : Type 0} (times : A → A → A) (power : ℕ → A) (value : A → ℕ) (exponents rows : List ℕ) (row : ℕ) (x : A) → Type 0
IsProduct times power value exponents rows row x =
    (i : ℕ) → i < length exponents → slice_index_or rows (row * 512 + i) 0 ≡ value (times x (power (slice_index_or exponents i 0)))

-- A row has them for the element that is its own, if there is one, and in any case numbers of elements.
pub record HasRow {A : Type 0} (times : A → A → A) (power : ℕ → A) (value : A → ℕ) (order : ℕ) (exponents rows : List ℕ) (row : ℕ) : Type 0 where
  pub products : (x : A) → value x ≡ row_number row → IsProduct times power value exponents rows row x
  pub below : (i : ℕ) → i < length exponents → slice_index_or rows (row * 512 + i) 0 ≤ order

-- Each of the first rows has them.
pub record HasRows {A : Type 0} (times : A → A → A) (power : ℕ → A) (value : A → ℕ) (order : ℕ) (exponents rows : List ℕ) (bound : ℕ) : Type 0 where
  pub each : (row : ℕ) → row < bound → HasRow times power value order exponents rows row
