-- Counts of faults, and what a refused call owes to them.
use Rattle.std.specs.Prelude.{ℕ, ◌≡◌, ◌<◌, ◌≤◌, ◌⊎◌, ◌+◌, ◌-◌, ◌^◌, min, Result, IsErr, if◌then◌else◌, is_err}

-- The last value of a count of faults, the greatest number of 64 bits: a count that has come to it stays there.
abbrev pub last_count : ℕ
last_count = 2 ^ 64 - 1

-- the count with one fault more
abbrev pub one_more : ℕ → ℕ
one_more count = min (count + 1) last_count

-- A fault was counted: the count rose, or it is at its last value.
abbrev pub Rose : (old new : ℕ) → Type 0
Rose old new = (old < new) ⊎ (new ≡ last_count)

-- A count of faults never falls, and a call is refused only where a fault was counted.
pub record HasCause {T E : Type 0} (old new : ℕ) (result : Result T E) : Type 0 where
  pub later : old ≤ new
  pub failed : IsErr result → Rose old new

-- the count after a call that counts a fault exactly where it is refused
abbrev pub count_after : {T E : Type 0} → Result T E → ℕ → ℕ
count_after result count = if is_err result then one_more count else count

-- the two counts of files: of faults in opening and reading, and of faults in creating and writing
pub record FaultCounts : Type 0 where
  pub reading : ℕ
  pub writing : ℕ
