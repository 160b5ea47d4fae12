-- The front of elements, on which it rests which codes spell it.
use Rattle.std.specs.Prelude.{ℕ, List, [], ◌∷◌, ◌+◌, min, slice_get}
use Rattle.bar_base.specs.declared.element.Element.{Element}
use Rattle.bar_base.specs.declared.element.Element.TheVariants as element
use Rattle.aztec_best.specs.declared.front.Front.{Front}

-- How many bytes there are at the front of elements.
unfoldable pub bytes_ahead : List Element → ℕ
bytes_ahead [] = 0
bytes_ahead (element.Byte byte ∷ elements) = bytes_ahead elements + 1
bytes_ahead (element.Eci number ∷ elements) = 0
bytes_ahead (element.Fnc1 ∷ elements) = 0

-- The first two elements, and how many bytes are in front, up to the longest run.
abbrev pub front_of : List Element → Front
front_of elements = record { first = slice_get elements 0; second = slice_get elements 1; ahead = min (bytes_ahead elements) 2078 }
