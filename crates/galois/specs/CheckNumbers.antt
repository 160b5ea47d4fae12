-- check words over the numbers of elements: for whoever speaks of codewords and mode words as numbers
use Rattle.std.specs.Prelude.{◌≡◌, ℕ, ◌+◌, ◌*◌, ◌^◌, ◌<◌, ◌≤◌, ◌==◌, bit_xor, Bool, List, All, length, take, if◌then◌else◌}
use Rattle.galois.specs.Polynomials.{product_of, power_of}
use Rattle.galois.specs.CheckWord.{IsCheckWord, distance, known_distance, lost_count}

-- The polynomial of the field of words of so many bits: 4 in the mode message, 6, 8, 10 or 12 in the codewords
-- (ISO/IEC 24778, Reed-Solomon error correction).
abbrev pub polynomial_of : (bits : ℕ) → ℕ
polynomial_of bits =
    if bits == 4 then 0x13 else if bits == 6 then 0x43 else if bits == 8 then 0x12D else if bits == 10 then 0x409 else 0x1069

-- Numbers of so many bits that, as elements of the field of a polynomial, are a check word with `count` check elements
-- (ISO/IEC 24778, Reed-Solomon error correction).
pub record IsCheckWordIn (bits poly : ℕ) (word : List ℕ) (count : ℕ) : Type 0 where
  pub each : All (λ number. number < 2 ^ bits) word
  pub check : IsCheckWord 0 bit_xor (product_of bits poly) (power_of bits poly 2) word count

-- A check word that begins with these numbers and goes on with `count` check elements.
pub record Continues (bits poly : ℕ) (front : List ℕ) (count : ℕ) (word : List ℕ) : Type 0 where
  pub begins : take (length front) word ≡ front
  pub counted : length word ≡ length front + count
  pub check : IsCheckWordIn bits poly word count

-- The only such check word (ISO/IEC 24778, Reed-Solomon error correction: the check codewords of data codewords).
pub record IsContinuation (bits poly : ℕ) (front : List ℕ) (count : ℕ) (word : List ℕ) : Type 0 where
  pub continues : Continues bits poly front count word
  pub only : (other : List ℕ) → Continues bits poly front count other → other ≡ word

-- The number of places at which two words of numbers differ.
abbrev pub apart : (word other : List ℕ) → ℕ
apart word other = distance (λ a b. a == b) word other

-- The number of known places at which they differ, where a list tells which places are lost.
abbrev pub known_apart : (lost : List Bool) (word other : List ℕ) → ℕ
known_apart lost word other = known_distance (λ a b. a == b) lost word other

-- A check word of a word's length, where twice the number of known places at which it differs and the number of lost places
-- are together at most the number of its check elements (ISO/IEC 24778, Reed-Solomon error correction: errors and erasures).
pub record IsNearIn (bits poly count : ℕ) (lost : List Bool) (word other : List ℕ) : Type 0 where
  pub long : length other ≡ length word
  pub check : IsCheckWordIn bits poly other count
  pub near : 2 * known_apart lost word other + lost_count lost ≤ count
