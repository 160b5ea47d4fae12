-- A size by its two parts, so that a proof can go by the kind.
use Rattle.std.proofs.Common.{ℕ, Bool}
use Rattle.aztec_layout.specs.declared.sizes.Size.{Size}

abbrev pub size_at : Bool → ℕ → Size
size_at f n = record { full = f; layers = n }
