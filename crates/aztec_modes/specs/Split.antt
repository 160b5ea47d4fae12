-- The parts of a message in its elements, computed: the header, FNC1, the ECI.
use Rattle.std.specs.Prelude.{ℕ, zero, suc, Bool, true, false, ◌&&◌, List, [], ◌∷◌, ◌+◌, ◌-◌, ◌==◌, Option, Some, None, nat_le, slice_get, drop, length, if◌then◌else◌}
use Rattle.bar_base.specs.declared.element.Element.{Element}
use Rattle.bar_base.specs.declared.element.Element.TheVariants as element
use Rattle.bar_base.specs.declared.message.Append.{Append}

-- The byte of an element, where it is one.
unfoldable pub as_byte : Option Element → Option ℕ
as_byte None = None
as_byte (Some (element.Byte byte)) = Some byte
as_byte (Some (element.Eci number)) = None
as_byte (Some element.Fnc1) = None

-- The byte at a place of the elements, where the element there is a byte.
unfoldable pub element_byte_at : List Element → (at : ℕ) → Option ℕ
element_byte_at elements at = as_byte (slice_get elements at)

-- A byte of an identifier.
unfoldable pub as_id : Option ℕ → Option ℕ
as_id None = None
as_id (Some byte) = if nat_le 33 byte && nat_le byte 126 then Some byte else None

-- The byte at a place of the elements, where it may be a byte of an identifier: 33 to 126.
unfoldable pub id_in : List Element → (at : ℕ) → Option ℕ
id_in elements at = as_id (element_byte_at elements at)

-- A byte of an identifier and those behind it; none where that byte is not there.
unfoldable pub ids_from : Option ℕ → List ℕ → List ℕ
ids_from None more = []
ids_from (Some byte) more = byte ∷ more

-- The bytes of an identifier from a place on, at most so many.
unfoldable pub ids_in : (most : ℕ) → List Element → (at : ℕ) → List ℕ
ids_in zero elements at = []
ids_in (suc most) elements at = ids_from (id_in elements at) (ids_in most elements (at + 1))

-- Two letters as a place in a set.
unfoldable pub are_letters : (first second : ℕ) → Bool
are_letters first second = nat_le 65 first && (nat_le first second && (nat_le 66 second && nat_le second 90))

-- The place in a structured append set of this identifier by its two letters, A for 1: first the index, then the count.
abbrev pub place_of : List ℕ → (first second : ℕ) → Append
place_of id first second = record { index = first - 64; count = second - 64; id = id }

-- The place in a set that two bytes write, where both are there and are letters of a place.
unfoldable pub letters_of : List ℕ → Option ℕ → Option ℕ → Option Append
letters_of id None second = None
letters_of id (Some first) None = None
letters_of id (Some first) (Some second) = if are_letters first second then Some (place_of id first second) else None

-- The place in a set that the two elements from the place `at` on write, where they do.
unfoldable pub letters_in : List ℕ → List Element → (at : ℕ) → Option Append
letters_in id elements at = letters_of id (element_byte_at elements at) (element_byte_at elements (at + 1))

-- Whether a byte is there and is a space.
unfoldable pub is_space : Option ℕ → Bool
is_space None = false
is_space (Some byte) = byte == 32

-- What follows an identifier: a space and two letters.
unfoldable pub named_by : List ℕ → List Element → Option Append
named_by [] elements = None
named_by (byte ∷ id) elements =
    if is_space (element_byte_at elements (length (byte ∷ id) + 1)) then letters_in (byte ∷ id) elements (length (byte ∷ id) + 2) else None

-- The header that elements begin with.
unfoldable pub header_in : List Element → Option Append
header_in elements = if is_space (element_byte_at elements 0) then named_by (ids_in 32 elements 1) elements else letters_in [] elements 0

-- How many elements a header has.
unfoldable pub header_length : List ℕ → ℕ
header_length [] = 2
header_length (byte ∷ id) = length (byte ∷ id) + 4

-- Whether an element is FNC1; the number of an ECI.
unfoldable pub is_fnc1 : Option Element → Bool
is_fnc1 None = false
is_fnc1 (Some (element.Byte byte)) = false
is_fnc1 (Some (element.Eci number)) = false
is_fnc1 (Some element.Fnc1) = true

-- The number of an ECI, where an element is there and is one.
unfoldable pub as_eci : Option Element → Option ℕ
as_eci None = None
as_eci (Some (element.Byte byte)) = None
as_eci (Some (element.Eci number)) = Some number
as_eci (Some element.Fnc1) = None

-- How many elements a part has that is there or not.
unfoldable pub part_size : Bool → ℕ
part_size true = 1
part_size false = 0
