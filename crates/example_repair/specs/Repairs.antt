-- damaged messages, and what a repair gives back
use Rattle.std.specs.Prelude.{◌≡◌, ℕ, ◌*◌, ◌≤◌, List, length, Option, IfSome, IsSomeAnd}
use Rattle.galois.specs.CheckNumbers.{Continues, apart, polynomial_of}
use Rattle.example_repair.specs.declared.Repair.{Repair}

-- Damaged bytes that were a message with its check bytes: so many of them are wrong, at most half as many as there are
-- check bytes.
pub record CameOf (check : ℕ) (damaged message : List ℕ) (wrong : ℕ) : Type 0 where
  pub sent : List ℕ
  pub protects : Continues 8 (polynomial_of 8) message check sent
  pub long : length sent ≡ length damaged
  pub counted : wrong ≡ apart damaged sent
  pub few : 2 * wrong ≤ check

-- Of whatever message the bytes came, that message is found, and how many bytes are wrong.
abbrev pub FindsAll : (check : ℕ) (damaged : List ℕ) → Option Repair → Type 0
FindsAll check damaged outcome = (message : List ℕ) (wrong : ℕ) → CameOf check damaged message wrong
    → IsSomeAnd outcome (λ repair. (repair.message.items ≡ message) × (repair.corrected ≡ wrong))

-- Whatever is found, the bytes came of it.
abbrev pub FindsOnly : (check : ℕ) (damaged : List ℕ) → Option Repair → Type 0
FindsOnly check damaged outcome = IfSome outcome (λ repair. CameOf check damaged repair.message.items repair.corrected)
