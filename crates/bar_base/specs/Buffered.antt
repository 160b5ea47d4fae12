-- Bytes that wait in a buffer until they are written.
use Rattle.std.specs.Prelude.{◌≡◌, ℕ, List, Option, ◌++◌}
use Rattle.std.specs.Io.KnownBytes.{Appends}

-- Of these bytes, which waited or came, a front was written, and the others wait.
pub record WritesFront (old new : Option (List ℕ)) (bytes waiting : List ℕ) : Type 0 where
  pub written : List ℕ
  pub parts : written ++ waiting ≡ bytes
  pub appended : Appends old new written
