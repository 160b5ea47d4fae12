-- Code pages, whose characters have one byte each: ISO/IEC 8859-1, 8859-5, 8859-9 and 8859-15, windows-1251 and
-- windows-1252, ISO/IEC 646 and eight-bit binary data.
use Rattle.std.specs.Prelude.{ℕ, zero, suc, ◌+◌, ◌-◌, ◌==◌, ◌&&◌, Bool, List, [], ◌∷◌, find, nat_le, Option, Some, None, if◌then◌else◌, option_map}
use Rattle.std.specs.List.{flat_map}
use Rattle.std.proofs.Math.Utf8.{scalar}
use Rattle.eci_sets.specs.declared.code_page.CodePage.{CodePage}
use Rattle.eci_sets.specs.declared.code_page.CodePage.TheVariants.{Latin1, Cyrillic, Latin5, Latin9, Windows1251, Windows1252, Ascii, Binary}
use Rattle.eci_sets.specs.declared.tables.CodeRange.{CodeRange}
use Rattle.eci_sets.specs.declared.tables.TheConstants.{ASCII, BINARY, CYRILLIC, LATIN_1, LATIN_5, LATIN_9, WINDOWS_1251, WINDOWS_1252}

-- The table of a code page.
unfoldable pub ranges_of : CodePage → List CodeRange
ranges_of Latin1 = LATIN_1
ranges_of Cyrillic = CYRILLIC
ranges_of Latin5 = LATIN_5
ranges_of Latin9 = LATIN_9
ranges_of Windows1251 = WINDOWS_1251
ranges_of Windows1252 = WINDOWS_1252
ranges_of Ascii = ASCII
ranges_of Binary = BINARY

-- So many pairs of a byte and its character, from these on.
abbrev pub pairs_from : ℕ → ℕ → ℕ → List (ℕ × ℕ)
pairs_from zero byte character = []
pairs_from (suc count) byte character = (byte, character) ∷ pairs_from count (byte + 1) (character + 1)

-- The pairs of one range of a table.
abbrev pub range_pairs : CodeRange → List (ℕ × ℕ)
range_pairs range = pairs_from ((range.last + 1) - range.first) range.first range.character

-- A code page as the list of its pairs of a byte and a character.
unfoldable pub page_pairs : List CodeRange → List (ℕ × ℕ)
page_pairs ranges = flat_map range_pairs ranges

-- The byte that is paired with the character.
abbrev pub byte_paired : ℕ → List (ℕ × ℕ) → Option ℕ
byte_paired character pairs = option_map (λ pair. pair.0) (find (λ pair. pair.1 == character) pairs)

-- The byte of a character in the code page, where the page has the character.
unfoldable pub byte_for : CodePage → ℕ → Option ℕ
byte_for page character = byte_paired character (page_pairs (ranges_of page))

-- The range has the character.
abbrev pub covers_character : ℕ → CodeRange → Bool
covers_character character range =
    nat_le range.character character && nat_le (character + range.first) (range.character + range.last)

-- The range has the byte.
abbrev pub covers_byte : ℕ → CodeRange → Bool
covers_byte byte range = nat_le range.first byte && nat_le byte range.last

-- The byte of a character, by the first range that has it.
unfoldable pub byte_by_ranges : List CodeRange → ℕ → Option ℕ
byte_by_ranges ranges character =
    option_map (λ range. range.first + (character - range.character)) (find (covers_character character) ranges)

-- A number as a character, where it is a scalar value of Unicode.
abbrev pub as_character : ℕ → Option ℕ
as_character number = if scalar number then Some number else None

-- The character of a byte by a range that has it, where there is such a range.
abbrev pub character_in : ℕ → Option CodeRange → Option ℕ
character_in byte None = None
character_in byte (Some range) = as_character (range.character + (byte - range.first))

-- The character of a byte by the first range that has it.
unfoldable pub character_by_ranges : List CodeRange → ℕ → Option ℕ
character_by_ranges ranges byte = character_in byte (find (covers_byte byte) ranges)

-- The character of a byte in the code page, where the byte has one.
unfoldable pub character_for : CodePage → ℕ → Option ℕ
character_for page byte = character_by_ranges (ranges_of page) byte
