-- Pieces of a report.
use Rattle.std.specs.Prelude.{ℕ, List, [], ◌∷◌, ◌++◌, codes, decimal, if◌then◌else◌}
use Rattle.aztec_layout.specs.declared.sizes.Size.{Size}

-- the name of a size: its kind and its layers
abbrev pub size_text : Size → List ℕ
size_text size = (if size.full then codes "full " else codes "compact ") ++ decimal size.layers

-- numbers, each after a space
unfoldable pub spaced_text : List ℕ → List ℕ
spaced_text [] = []
spaced_text (number ∷ numbers) = 32 ∷ decimal number ++ spaced_text numbers

-- numbers with one space between
abbrev pub numbers_text : List ℕ → List ℕ
numbers_text [] = []
numbers_text (number ∷ numbers) = decimal number ++ spaced_text numbers
