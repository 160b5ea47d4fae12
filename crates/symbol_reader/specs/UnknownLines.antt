-- The text of a grid in which the character `?` stands for an unknown module.
use Rattle.std.specs.Prelude.{◌≡◌, ℕ, ◌==◌, ◌||◌, Bool, true, false, List, [], ◌∷◌, map, if◌then◌else◌}
use Rattle.std.specs.List.{flat_map}
use Rattle.symbol_reader.specs.GridLines.{IsPictureOf}
use Rattle.symbol_reader.specs.declared.unknown.Unknown.{Unknown}

-- the character of a light module in the place of `?`
abbrev pub light_byte : ℕ → ℕ
light_byte byte = if byte == 63 then 48 else byte

-- the text with its unknown modules light
abbrev pub light_text : List ℕ → List ℕ
light_text bytes = map light_byte bytes

-- whether the module that a byte is, if it is one, is unknown
abbrev pub lost_byte_modules : ℕ → List Bool
lost_byte_modules byte = if byte == 63 then true ∷ [] else if (byte == 48) || (byte == 49) then false ∷ [] else []

-- which modules of a text are unknown, one behind the other
abbrev pub lost_modules : List ℕ → List Bool
lost_modules bytes = flat_map lost_byte_modules bytes

-- The picture of a text and its unknown modules: the grid that it shows where `?` stands for a light module, and a picture of
-- as many rows and columns whose dark modules are those of `?`.
pub record IsUnknownOf (bytes : List ℕ) (unknown : Unknown) : Type 0 where
  pub picture : IsPictureOf (light_text bytes) unknown.grid
  pub lost : unknown.lost ≡ record unknown.grid { modules = lost_modules bytes }
