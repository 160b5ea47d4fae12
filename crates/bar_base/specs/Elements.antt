-- What an element of a message may be.
use Rattle.std.specs.Prelude.{◌≤◌, ◌<◌}
use Rattle.bar_base.specs.declared.element.Element.{Element}
use Rattle.bar_base.specs.declared.element.Element.TheVariants.{Byte, Eci, Fnc1}

-- A byte is below 256, and the number of an extended channel interpretation has at most six digits (ISO/IEC 24778, FLG(n)).
abbrev pub IsElement : Element → Type 0
IsElement (Byte byte) = byte < 256
IsElement (Eci number) = number ≤ 999999
IsElement Fnc1 = Unit {0}
