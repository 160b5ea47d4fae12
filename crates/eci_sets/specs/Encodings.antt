-- Texts, the bytes that encode them, and why a text or bytes are refused.
use Rattle.std.specs.Prelude.{◌≡◌, ◌<◌, ◌+◌, ◌++◌, ℕ, Bool, true, false, List, [], ◌∷◌, drop, length, take, Option, Some, None, Result, Ok, Err, if◌then◌else◌, encode_utf8}
use Rattle.std.specs.Option.{unwrap_or}
use Rattle.std.specs.List.{find, flat_map, list_all}
use Rattle.std.proofs.Math.Utf8.{encodes, scalar, scalars}
use Rattle.eci_sets.specs.CharacterSets.{character_bytes, has_character, set_numbered}
use Rattle.eci_sets.specs.declared.character_set.CharacterSet.{CharacterSet}
use Rattle.eci_sets.specs.declared.fault.SetFault.{SetFault}
use Rattle.eci_sets.specs.declared.fault.SetFault.TheVariants.{NoMemory, UnknownEci, NoCharacter, BadBytes}

-- The place of the first character that the set lacks, counted in bytes of the text (UTF-8), where the first of these
-- characters is at the place given.
unfoldable pub first_lacking : CharacterSet → ℕ → List ℕ → Option ℕ
first_lacking set place [] = None
first_lacking set place (character ∷ more) =
    if has_character set character then first_lacking set (place + length (encode_utf8 character)) more else Some place

-- The bytes of characters, joined.
abbrev pub joined_bytes : CharacterSet → List ℕ → List ℕ
joined_bytes set characters = flat_map (character_bytes set) characters

-- The bytes, or the refusal at the place of a character that is lacking, where there is one.
abbrev pub unless_lacking : Option ℕ → List ℕ → Result (List ℕ) SetFault
unless_lacking None bytes = Ok bytes
unless_lacking (Some place) bytes = Err (NoCharacter place)

-- The refusals among the faults: all but want of memory.
abbrev pub set_refusal : SetFault → Option SetFault
set_refusal NoMemory = None
set_refusal UnknownEci = Some UnknownEci
set_refusal (NoCharacter place) = Some (NoCharacter place)
set_refusal (BadBytes place) = Some (BadBytes place)

-- The bytes encode the text in the set: the text is characters, each of which the set has, and the bytes are theirs,
-- joined.
pub record Encoded (set : CharacterSet) (text bytes : List ℕ) : Type 0 where
  pub characters : List ℕ
  pub scalar : scalars characters ≡ true
  pub text_is : text ≡ encodes characters
  pub all : first_lacking set 0 characters ≡ None
  pub bytes_are : bytes ≡ joined_bytes set characters

-- The same, where the number names a set.
abbrev pub IsEncodedIn : Option CharacterSet → (text bytes : List ℕ) → Type 0
IsEncodedIn None text bytes = ⊥
IsEncodedIn (Some set) text bytes = Encoded set text bytes

-- The bytes of a text of these characters in the set; else refused, because the number names no set, or at the first
-- character that the set lacks.
unfoldable pub text_encoding : Option CharacterSet → List ℕ → Result (List ℕ) SetFault
text_encoding None characters = Err UnknownEci
text_encoding (Some set) characters = unless_lacking (first_lacking set 0 characters) (joined_bytes set characters)

-- The set has every character.
abbrev pub has_characters : List ℕ → Option CharacterSet → Bool
has_characters characters None = false
has_characters characters (Some set) = list_all (has_character set) characters

-- The number of the first of these sets that has every character; UTF-8, 26, has them all.
unfoldable pub chosen_eci : List ℕ → ℕ
chosen_eci characters =
    unwrap_or (find (λ eci. has_characters characters (set_numbered eci)) (3 ∷ 7 ∷ 11 ∷ 17 ∷ 22 ∷ 23 ∷ [])) 26

-- The bytes begin with those of the character.
abbrev pub BeginsWith : CharacterSet → ℕ → List ℕ → Type 0
BeginsWith set character bytes =
    (rest : List ℕ) × (scalar character ≡ true) × (has_character set character ≡ true)
    × (bytes ≡ character_bytes set character ++ rest)

-- The bytes before the place encode a text, and at the place no character begins.
pub record StopsAt (set : CharacterSet) (bytes : List ℕ) (place : ℕ) : Type 0 where
  pub text : List ℕ
  pub within : place < length bytes
  pub before : Encoded set text (take place bytes)
  pub none : (character : ℕ) → BeginsWith set character (drop place bytes) → ⊥

-- Why bytes have no text in the set.
abbrev pub IsDecodingFault : Option CharacterSet → List ℕ → SetFault → Type 0
IsDecodingFault None bytes fault = fault ≡ UnknownEci
IsDecodingFault (Some set) bytes fault = (place : ℕ) × StopsAt set bytes place × (fault ≡ BadBytes place)
