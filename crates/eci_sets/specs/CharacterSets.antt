-- The ten character sets, each as pairs of a byte string and a character.
use Rattle.std.specs.Prelude.{ℕ, ◌==◌, ◌/◌, ◌%◌, Bool, List, [], ◌∷◌, Option, Some, None, if◌then◌else◌, encode_utf8, option_map}
use Rattle.std.specs.Option.{is_some, unwrap_or}
use Rattle.std.specs.List.{flat_map}
use Rattle.std.specs.Char.Escape.{encode_utf16}
use Rattle.eci_sets.specs.CodePages.{byte_for}
use Rattle.eci_sets.specs.declared.code_page.CodePage.TheVariants.{Latin1, Cyrillic, Latin5, Latin9, Windows1251, Windows1252, Ascii, Binary}
use Rattle.eci_sets.specs.declared.character_set.CharacterSet.{CharacterSet}
use Rattle.eci_sets.specs.declared.character_set.CharacterSet.TheVariants.{SingleByte, Utf16Be, Utf8}

-- The set that the number of an extended channel interpretation names (AIM, Extended Channel Interpretations, Part 3:
-- character sets).
unfoldable pub set_numbered : ℕ → Option CharacterSet
set_numbered eci =
    if eci == 3 then Some (SingleByte Latin1)
    else (if eci == 7 then Some (SingleByte Cyrillic)
    else (if eci == 11 then Some (SingleByte Latin5)
    else (if eci == 17 then Some (SingleByte Latin9)
    else (if eci == 22 then Some (SingleByte Windows1251)
    else (if eci == 23 then Some (SingleByte Windows1252)
    else (if eci == 25 then Some Utf16Be
    else (if eci == 26 then Some Utf8
    else (if eci == 27 then Some (SingleByte Ascii)
    else (if eci == 899 then Some (SingleByte Binary)
    else None)))))))))

-- A 16-bit unit as two bytes, the high one first.
abbrev pub unit_bytes : ℕ → List ℕ
unit_bytes unit = unit / 256 ∷ unit % 256 ∷ []

-- The bytes that are paired with the character in the set: of UTF-16BE and UTF-8 by their rules (ISO/IEC 10646), else
-- one byte of the code page.
unfoldable pub encoding_of : CharacterSet → ℕ → Option (List ℕ)
encoding_of (SingleByte page) character = option_map (λ byte. byte ∷ []) (byte_for page character)
encoding_of Utf16Be character = Some (flat_map unit_bytes (encode_utf16 character))
encoding_of Utf8 character = Some (encode_utf8 character)

-- The set has the character.
abbrev pub has_character : CharacterSet → ℕ → Bool
has_character set character = is_some (encoding_of set character)

-- The bytes of a character in the set; none where the set lacks it.
abbrev pub character_bytes : CharacterSet → ℕ → List ℕ
character_bytes set character = unwrap_or (encoding_of set character) []
