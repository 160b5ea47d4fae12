-- Numbers as bits, the highest first.
use Rattle.std.specs.Prelude.{ℕ, Bool, List, [], ◌∷◌, ◌++◌, ◌/◌, ◌%◌, ◌+◌, ◌*◌, ◌==◌, zero, suc, if◌then◌else◌}

-- The lowest `width` bits of a number, the highest bit first.
unfoldable pub to_bits : (width number : ℕ) → List Bool
to_bits zero number = []
to_bits (suc width) number = to_bits width (number / 2) ++ (number % 2 == 1) ∷ []

-- The number that a list of bits writes after the bits of `front`, the highest bit first.
unfoldable pub number_after : (front : ℕ) → List Bool → ℕ
number_after front [] = front
number_after front (bit ∷ bits) = number_after (front * 2 + (if bit then 1 else 0)) bits
