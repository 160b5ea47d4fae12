-- Bytes within the limits.
use Rattle.std.proofs.Common.{ℕ, ◌≤◌, Bool, true, false, List, length, if◌then◌else◌, arith}
use Rattle.zint_read.specs.Images.{IsWithin, is_bmp}

-- few bytes are within both limits
pub few_within : (bytes : List ℕ) → length bytes ≤ 65536 → IsWithin bytes
few_within bytes few = elim (is_bmp bytes) as (λ (b : Bool). length bytes ≤ (if b then 33554432 else 65536)) [ true ↦ omega (arith, few) | false ↦ few ]
