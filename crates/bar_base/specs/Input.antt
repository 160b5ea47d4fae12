-- What reading a whole input gives.
use Rattle.std.specs.Prelude.{ℕ, ◌≡◌, ◌<◌, List, ◌++◌, Option, length, nat_eq, codes, if◌then◌else◌, IfSome}
use Rattle.std.specs.List.{starts_with}
use Rattle.std.specs.Io.KnownBytes.{Consumes, IsAtEnd}

-- The limit that counts for an input, in bytes: that of BMP pictures where it begins with `BM`, else the other.
abbrev pub limit_for : (limit bmp_limit : ℕ) → (input : List ℕ) → ℕ
limit_for limit bmp_limit input = if starts_with nat_eq input (codes "BM") then bmp_limit else limit

-- a prefix of the known bytes was taken, perhaps nothing
pub record TakesPrefix (old new : Option (List ℕ)) : Type 0 where
  pub prefix : List ℕ
  pub taken : Consumes old new prefix

-- An input is longer than the limit that counts for it, which is this one: so is what was taken of it, and so is the whole, where it
-- is known.
pub record IsTooLong (limit bmp_limit : ℕ) (old new : Option (List ℕ)) (counts : ℕ) : Type 0 where
  pub prefix : List ℕ
  pub taken : Consumes old new prefix
  pub counts_for_prefix : counts ≡ limit_for limit bmp_limit prefix
  pub longer : counts < length prefix
  pub whole : IfSome old (λ input. (counts ≡ limit_for limit bmp_limit input) × (counts < length input))

-- one read put so many bytes behind those that are there; none is the end of the input
pub record TakesMore (old new : Option (List ℕ)) (before after : List ℕ) (count : ℕ) : Type 0 where
  pub more : List ℕ
  pub grown : after ≡ before ++ more
  pub counted : length more ≡ count
  pub taken : Consumes old new more
  pub ended : count ≡ 0 → IsAtEnd new
