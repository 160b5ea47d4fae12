-- The places of the bits of layers, in columns and rows without reference lines.
use Rattle.std.proofs.Common.{◌≡◌, ℕ, ◌+◌, ◌-◌, ◌*◌, ◌<◌, ◌≤◌, ◌⊎◌, zero, suc, arith}
use Rattle.aztec_layout.specs.Places.{corner_of}

-- the corner of layer i, where a side has `base` places
abbrev pub corner_in : (base i round j k : ℕ) → ℕ × ℕ
corner_in base i round j k = corner_of (2 * i) (base - 1 - 2 * i) round j k

-- one place, one layer, side, pair and bit
pub record SameCorner (i i' r r' j j' k k' : ℕ) : Type 0 where
  pub layer : i ≡ i'
  pub round : r ≡ r'
  pub pair : j ≡ j'
  pub bit : k ≡ k'

pub corner_once : (r r' base i i' j j' k k' : ℕ) → r < 4 → r' < 4 → j + 4 * i + 2 < base → j' + 4 * i' + 2 < base → k < 2 → k' < 2 →
    (corner_in base i r j k).0 ≡ (corner_in base i' r' j' k').0 → (corner_in base i r j k).1 ≡ (corner_in base i' r' j' k').1 →
    SameCorner i i' r r' j j' k k'
corner_once zero zero base i i' j j' k k' p p' q q' l l' e e' = record { layer = omega arith; round = omega arith; pair = omega arith; bit = omega arith }
corner_once zero (suc zero) base i i' j j' k k' p p' q q' l l' e e' = absurd (omega arith)
corner_once zero (suc (suc zero)) base i i' j j' k k' p p' q q' l l' e e' = absurd (omega arith)
corner_once zero (suc (suc (suc zero))) base i i' j j' k k' p p' q q' l l' e e' = absurd (omega arith)
corner_once zero (suc (suc (suc (suc r')))) base i i' j j' k k' p p' q q' l l' e e' = absurd (omega arith)
corner_once (suc zero) zero base i i' j j' k k' p p' q q' l l' e e' = absurd (omega arith)
corner_once (suc zero) (suc zero) base i i' j j' k k' p p' q q' l l' e e' = record { layer = omega arith; round = omega arith; pair = omega arith; bit = omega arith }
corner_once (suc zero) (suc (suc zero)) base i i' j j' k k' p p' q q' l l' e e' = absurd (omega arith)
corner_once (suc zero) (suc (suc (suc zero))) base i i' j j' k k' p p' q q' l l' e e' = absurd (omega arith)
corner_once (suc zero) (suc (suc (suc (suc r')))) base i i' j j' k k' p p' q q' l l' e e' = absurd (omega arith)
corner_once (suc (suc zero)) zero base i i' j j' k k' p p' q q' l l' e e' = absurd (omega arith)
corner_once (suc (suc zero)) (suc zero) base i i' j j' k k' p p' q q' l l' e e' = absurd (omega arith)
corner_once (suc (suc zero)) (suc (suc zero)) base i i' j j' k k' p p' q q' l l' e e' = record { layer = omega arith; round = omega arith; pair = omega arith; bit = omega arith }
corner_once (suc (suc zero)) (suc (suc (suc zero))) base i i' j j' k k' p p' q q' l l' e e' = absurd (omega arith)
corner_once (suc (suc zero)) (suc (suc (suc (suc r')))) base i i' j j' k k' p p' q q' l l' e e' = absurd (omega arith)
corner_once (suc (suc (suc zero))) zero base i i' j j' k k' p p' q q' l l' e e' = absurd (omega arith)
corner_once (suc (suc (suc zero))) (suc zero) base i i' j j' k k' p p' q q' l l' e e' = absurd (omega arith)
corner_once (suc (suc (suc zero))) (suc (suc zero)) base i i' j j' k k' p p' q q' l l' e e' = absurd (omega arith)
corner_once (suc (suc (suc zero))) (suc (suc (suc zero))) base i i' j j' k k' p p' q q' l l' e e' = record { layer = omega arith; round = omega arith; pair = omega arith; bit = omega arith }
corner_once (suc (suc (suc zero))) (suc (suc (suc (suc r')))) base i i' j j' k k' p p' q q' l l' e e' = absurd (omega arith)
corner_once (suc (suc (suc (suc r)))) r' base i i' j j' k k' p p' q q' l l' e e' = absurd (omega arith)

-- a corner lies in the square without reference lines, and outside the core, which the layers leave free
pub record IsBeyond (base layers u v : ℕ) : Type 0 where
  pub column : u < base
  pub row : v < base
  pub outside : ((u < 2 * layers) ⊎ (base ≤ u + 2 * layers)) ⊎ ((v < 2 * layers) ⊎ (base ≤ v + 2 * layers))

pub corner_beyond : (r base layers i j k : ℕ) → r < 4 → i < layers → j + 4 * i + 2 < base → k < 2 →
    IsBeyond base layers (corner_in base i r j k).0 (corner_in base i r j k).1
corner_beyond zero base layers i j k p o q l = record { column = omega arith; row = omega arith; outside = grind arith }
corner_beyond (suc zero) base layers i j k p o q l = record { column = omega arith; row = omega arith; outside = grind arith }
corner_beyond (suc (suc zero)) base layers i j k p o q l = record { column = omega arith; row = omega arith; outside = grind arith }
corner_beyond (suc (suc (suc zero))) base layers i j k p o q l = record { column = omega arith; row = omega arith; outside = grind arith }
corner_beyond (suc (suc (suc (suc r)))) base layers i j k p o q l = absurd (omega arith)
