-- Texts and the bytes that they stand for: the relation of a whole text and its bytes, and the first
-- backslash that begins no piece.
use Rattle.std.specs.Prelude.{◌≡◌, ℕ, ◌<◌, List, length, take, drop}
use Rattle.std.specs.List.{All, flat_map}
use Rattle.input_escapes.specs.Escapes.{Bytes, Head, head, piece, unknown, short, out_of_range}
use Rattle.input_escapes.specs.declared.fault.EscapeFault.{EscapeFault}
use Rattle.input_escapes.specs.declared.fault.EscapeFault.TheVariants.{NoMemory, UnknownEscape, ShortEscape, OutOfRange}

-- the text, which is the first part, is one piece, and stands for the bytes, which are the second
abbrev pub IsPiece : Bytes × Bytes → Type 0
IsPiece p = head p.0 ≡ piece (length p.0) p.1

-- the text is pieces joined, and the bytes are what they stand for
pub record StandsFor (text bytes : Bytes) : Type 0 where
  pub pieces : List (Bytes × Bytes)
  pub each : All IsPiece pieces
  pub text_is : text ≡ flat_map (λ p. p.0) pieces
  pub bytes_are : bytes ≡ flat_map (λ p. p.1) pieces

-- the text before the place is pieces joined, and at the place a backslash begins none
pub record Stops (text : Bytes) (place : ℕ) (here : Head) : Type 0 where
  pub within : place < length text
  pub bytes : Bytes
  pub before : StandsFor (take place text) bytes
  pub at_place : head (drop place text) ≡ here

-- the fault is that of the first backslash that begins no piece; want of memory may come at any text
abbrev pub IsFaultOf : Bytes → EscapeFault → Type 0
IsFaultOf text NoMemory = Unit {0}
IsFaultOf text (UnknownEscape place) = Stops text place unknown
IsFaultOf text (ShortEscape place) = Stops text place short
IsFaultOf text (OutOfRange place) = Stops text place out_of_range

-- the fault is that of what stands at the place
abbrev pub IsFaultAt : ℕ → Head → EscapeFault → Type 0
IsFaultAt place here NoMemory = ⊥
IsFaultAt place here (UnknownEscape k) = (k ≡ place) × (here ≡ unknown)
IsFaultAt place here (ShortEscape k) = (k ≡ place) × (here ≡ short)
IsFaultAt place here (OutOfRange k) = (k ≡ place) × (here ≡ out_of_range)
