-- What several reads, one after the other, have taken.
use Rattle.std.proofs.Common.{◌≡◌, ℕ, ◌≤◌, List, ◌++◌, length}
use Rattle.std.specs.declared.option.Option.{Option}
use Rattle.std.specs.Io.KnownBytes.{Consumes}
use Rattle.std.proofs.KnownBytes.{Consumes-trans}
use Rattle.bar_base.specs.Input.{limit_for, TakesPrefix}
use Rattle.bar_base.specs.Outside.{Rest}

-- these bytes were taken, no more than count, the count of faults has not fallen, and the rest is as it was
pub record TakenSoFar (limit bmp_limit : ℕ) (old new : Option (List ℕ)) (bytes : List ℕ) (faults faults' : ℕ) (rest rest' : Rest) : Type 0 where
  pub taken : Consumes old new bytes
  pub within : length bytes ≤ limit_for limit bmp_limit bytes
  pub later : faults ≤ faults'
  pub same_rest : rest' ≡ rest

-- a prefix of what is left after a front
pub TakesPrefix-after : {old mid new : Option (List ℕ)} (front : List ℕ) → Consumes old mid front → TakesPrefix mid new → TakesPrefix old new
TakesPrefix-after {old} {mid} {new} front taken part = record { prefix = front ++ part.prefix; taken = Consumes-trans old mid new front part.prefix taken part.taken }
