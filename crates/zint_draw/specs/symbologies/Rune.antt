-- Aztec runes (ISO/IEC 24778): a number from 0 to 255.
use Rattle.std.specs.Prelude.{ℕ, Bool, List, ◌++◌, codes, Option, Some, None, Result, Ok, Err, ◌&&◌, nat_lt, nat_le, length, if◌then◌else◌}
use Rattle.std.specs.Char.{is_ascii_digit}
use Rattle.std.specs.List.{list_all}
use Rattle.std.specs.Str.Parse.{digits_value}
use Rattle.aztec_layout.specs.Rune.{IsRune, IsRuneMessage}
use Rattle.zint_answers.specs.Report.{numbers_text}
use Rattle.bar_base.specs.Steps.{Step, ◌>>=◌, only}
use Rattle.zint_answers.specs.declared.detail.Kind.TheVariants.{Number}
use Rattle.zint_answers.specs.declared.refusal.Refusal.{Refusal}
use Rattle.zint_answers.specs.declared.refusal.Refusal.TheVariants.{BadData}
use Rattle.zint_draw.specs.declared.symbologies.rune.RuneSymbol.{RuneSymbol}
use Rattle.zint_draw.specs.declared.symbologies.Symbol.{Symbol}
use Rattle.zint_draw.specs.declared.symbologies.Symbol.TheVariants.{Rune}

-- 1 to 3 decimal digits
abbrev pub is_short_number : List ℕ → Bool
is_short_number bytes = nat_lt 0 (length bytes) && nat_le (length bytes) 3 && list_all is_ascii_digit bytes

-- the number, at most 255, that 1 to 3 decimal digits write
unfoldable pub rune_number : (bytes : List ℕ) → Option ℕ
rune_number bytes =
    if is_short_number bytes && nat_le (digits_value 10 bytes) 255 then Some (digits_value 10 bytes) else None

-- the number, and else the refusal of data that is no such number
abbrev pub number_or : Option ℕ → Result ℕ Refusal
number_or (Some value) = Ok value
number_or None = Err (BadData Number 0)

-- the value of data
abbrev pub rune_value : (bytes : List ℕ) → Result ℕ Refusal
rune_value bytes = number_or (rune_number bytes)

-- every value has its rune
abbrev pub draws_value : (value : ℕ) → Step Symbol Refusal
draws_value value (Ok (Rune symbol)) = IsRuneMessage value symbol.words × IsRune value symbol.grid
draws_value value (Ok _) = ⊥
draws_value value (Err _) = ⊥

-- the rune of data
unfoldable pub draws_rune : (bytes : List ℕ) → Step Symbol Refusal
draws_rune bytes = do
  value ← only (rune_value bytes)
  draws_value value

-- the lines of the report before the grid: the words of the mode message before the exclusive-or
abbrev pub rune_head : RuneSymbol → List ℕ
rune_head symbol = codes "symbol=128\nwords=" ++ numbers_text symbol.words ++ codes "\nside=11\ngrid:\n"
