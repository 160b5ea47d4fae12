-- The meaning of a source and a sink: the bytes, the count of faults, and what else no read or write changes.
use Rattle.std.specs.Prelude.{ℕ, List, Option, None, take}
use Rattle.std.specs.Borrow.{GName}
use Rattle.std.specs.Io.KnownBytes.{Appends}
use Rattle.bar_base.specs.Files.{FilesState}

-- What no read or write of a source or a sink changes but its bytes: the files other than the one that is read
-- or written, where they are known, the count of faults that is not its own, and the files object that it is over.
pub record Rest : Type 0 where
  pub files : Option FilesState
  pub faults : ℕ
  pub over : Option GName

-- the rest of an object that is over no files
abbrev pub nothing : Rest
nothing = record { files = None; faults = 0; over = None }

-- Known bytes grew by a prefix of these bytes, the first `count` of them.
pub record AppendsPrefix (old new : Option (List ℕ)) (bytes : List ℕ) : Type 0 where
  pub count : ℕ
  pub prefix : Appends old new (take count bytes)
