-- Which of the 36 sizes a symbol may have, and what share of its codewords is kept for the check.
use Rattle.std.specs.Prelude.{◌≡◌, ℕ, ◌-◌, ◌≤◌, ◌<◌, ◌⊎◌, nat_le, false, true, Option, Some, None, if◌then◌else◌}
use Rattle.aztec_layout.specs.declared.sizes.Size.{Size}
use Rattle.aztec_layout.specs.declared.allowed.Allowed.{Allowed}
use Rattle.aztec_layout.specs.declared.allowed.Allowed.TheVariants.{AtShare, Named}
use Rattle.aztec_layout.specs.Sizes.{IsSize, side_of}

-- The size that a version names: 1 to 4 are the compact sizes, 5 to 36 the full ones (the manual of zint, Aztec Code).
abbrev pub size_of_version : ℕ → Size
size_of_version version =
    if nat_le version 4 then record { full = false; layers = version } else record { full = true; layers = version - 4 }

-- A version names one size; without a version all sizes are allowed, at the share of check codewords in percent.
abbrev pub allowed_of : (share : ℕ) (version : Option ℕ) → Allowed
allowed_of share None = AtShare share
allowed_of share (Some version) = Named (size_of_version version)

-- A share is at most half, and a named size is one of the 36.
abbrev pub CanBeAsked : Allowed → Type 0
CanBeAsked (AtShare share) = share ≤ 50
CanBeAsked (Named size) = IsSize size

-- The share that counts: in a size that is named no share is kept for the check (three codewords are, in every size).
abbrev pub counted_share : Allowed → ℕ
counted_share (AtShare share) = share
counted_share (Named size) = 0

-- A size is the one that is named, where one is.
abbrev pub IsNamed : Allowed → Size → Type 0
IsNamed (AtShare share) size = Unit {0}
IsNamed (Named named) size = size ≡ named

-- A size is allowed where it is one of the 36 and, where a size is named, the named one.
abbrev pub IsAllowed : Allowed → Size → Type 0
IsAllowed allowed size = IsSize size × IsNamed allowed size

-- Sizes are ordered by side, and on equal sides compact comes before full.
abbrev pub ComesBefore : Size → Size → Type 0
ComesBefore s t = (side_of s < side_of t) ⊎ ((side_of s ≡ side_of t) × (s.full ≡ false) × (t.full ≡ true))

-- Of the allowed sizes the last one in that order.
pub record IsLast (allowed : Allowed) (size : Size) : Type 0 where
  pub is_allowed : IsAllowed allowed size
  pub last : (other : Size) → IsAllowed allowed other → (other ≡ size) ⊎ ComesBefore other size

-- Of the allowed sizes of which a fact holds, such as that they hold some data, the first one in that order.
pub record IsFirstSize (allowed : Allowed) (Holds : Size → Type 0) (size : Size) : Type 0 where
  pub is_allowed : IsAllowed allowed size
  pub holds : Holds size
  pub first : (other : Size) → IsAllowed allowed other → Holds other → (other ≡ size) ⊎ ComesBefore size other

-- The fact holds of no allowed size.
abbrev pub NoSize : (allowed : Allowed) (Holds : Size → Type 0) → Type 0
NoSize allowed Holds = (size : Size) → IsAllowed allowed size → ¬ (Holds size)
