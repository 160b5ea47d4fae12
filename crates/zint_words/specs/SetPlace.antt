-- The place of a symbol in a structured append set (ISO/IEC 24778, Structured append).
use Rattle.std.specs.Prelude.{Bool, ◌&&◌, nat_lt, nat_le, [], length, Option, Some, None, if◌then◌else◌}
use Rattle.std.specs.Char.{is_ascii_graphic}
use Rattle.std.specs.List.{list_all}
use Rattle.bar_base.specs.declared.message.Append.{Append}
use Rattle.clap.specs.Words.{Text}
use Rattle.zint_words.specs.Commas.{◌>>=◌, parts_at_comma}
use Rattle.zint_words.specs.Numbers.{whole_number_in}

-- an identifier that is given has 1 to 32 bytes from 33 to 126
abbrev pub is_identifier : Text → Bool
is_identifier t = nat_lt 0 (length t) && nat_le (length t) 32 && list_all is_ascii_graphic t

-- the parts at a comma are the count and an identifier; without a comma the text is the count, and the identifier is empty
abbrev pub identified : Option (Text × Text) → Text → Option (Text × Text)
identified None t = Some (t, [])
identified (Some parts) t = if is_identifier parts.1 then Some parts else None

-- `C` or `C,ID`: the count, and the identifier, which is empty where there is none
unfoldable pub count_and_identifier : Text → Option (Text × Text)
count_and_identifier t = identified (parts_at_comma t) t

-- `I,C` or `I,C,ID`: C is 2 to 26, and I is 1 to C
unfoldable pub set_place_in : Text → Option Append
set_place_in t = do
  index_and_rest ← parts_at_comma t
  count_and_id ← count_and_identifier index_and_rest.1
  count ← whole_number_in 2 26 count_and_id.0
  index ← whole_number_in 1 count index_and_rest.0
  Some (record { index = index; count = count; id = count_and_id.1 })
