-- The place of a symbol in a structured append set (ISO/IEC 24778, Structured append).
use Rattle.std.specs.Prelude.{◌≤◌, ℕ, List, All, length}

-- The index is 1 to the count, the count 2 to 26; the identifier has at most 32 bytes from 33 to 126.
pub record IsSetPlace (index count : ℕ) (id : List ℕ) : Type 0 where
  pub from_one : 1 ≤ index
  pub to_count : index ≤ count
  pub some : 2 ≤ count
  pub letters : count ≤ 26
  pub few : length id ≤ 32
  pub graphic : All (λ byte. (33 ≤ byte) × (byte ≤ 126)) id
