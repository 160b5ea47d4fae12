-- Runes: a compact core alone, which names a number from 0 to 255.
use Rattle.std.specs.Prelude.{◌≡◌, ℕ, ◌<◌, ◌↔◌, ◌⊎◌, false, true, List, Some, IsTrue, bit_xor, length, map, take}
use Rattle.bar_base.specs.Bits.{to_bits}
use Rattle.bar_base.specs.Picture.{Picture, module_at}
use Rattle.galois.specs.CheckNumbers.{IsCheckWordIn, polynomial_of}
use Rattle.aztec_layout.specs.Core.{is_dark_fixed}
use Rattle.aztec_layout.specs.ModeMessage.{word_bits}
use Rattle.aztec_layout.specs.SymbolGrid.{IsModeDot, IsSquare}

-- The words of a rune: the value's two and five check words (ISO/IEC 24778, Aztec runes).
pub record IsRuneMessage (value : ℕ) (words : List ℕ) : Type 0 where
  pub front : word_bits 4 (take 2 words) ≡ to_bits 8 value
  pub counted : length words ≡ 7
  pub coded : IsCheckWordIn 4 (polynomial_of 4) words 5

-- The words as they are drawn: every second bit is turned (ISO/IEC 24778, Aztec runes).
abbrev pub masked : List ℕ → List ℕ
masked words = map (λ word. bit_xor word 10) words

-- The dark modules of a rune with these words (ISO/IEC 24778, Aztec runes).
abbrev pub IsDarkInRune : (words : List ℕ) (x y : ℕ) → Type 0
IsDarkInRune words x y = IsTrue (is_dark_fixed false 5 x y) ⊎ IsModeDot false 5 (word_bits 4 (masked words)) x y

-- The picture of a rune: 11 modules on a side (ISO/IEC 24778, Aztec runes).
pub record IsRune (value : ℕ) (picture : Picture) : Type 0 where
  pub words : List ℕ
  pub message : IsRuneMessage value words
  pub square : IsSquare 11 picture
  pub dark : (x y : ℕ) → x < 11 → y < 11 → (module_at picture x y ≡ Some true) ↔ IsDarkInRune words x y
