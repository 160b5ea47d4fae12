-- The readers, writers and files of std, seen as objects of the outside.
use Rattle.std.specs.Prelude.{ℕ, Option}
use Rattle.bar_base.specs.Faults.{FaultCounts}

-- a reader or a writer, and its count of faults
pub record Adapted (Inner : Type 0) : Type 0 where
  pub inner : Inner
  pub faults : ℕ

-- the file that is open to be read, the file that is open to be written, and the two counts of faults
pub record OpenFiles (File : Type 0) : Type 0 where
  pub reading : Option File
  pub writing : Option File
  pub faults : FaultCounts
