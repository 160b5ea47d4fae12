-- The reading of bits: codes from Upper mode on, and ones that fill the last codeword (ISO/IEC 24778, Character encodation, bit stuffing).
use Rattle.std.specs.Prelude.{◌≡◌, ◌⊎◌, ◌+◌, ◌<◌, ◌≤◌, ℕ, Bool, true, false, ◌&&◌, List, [], ◌∷◌, ◌++◌, All, length, drop, nat_lt, IfSome, Option, Some, None, is_some}
use Rattle.bar_base.specs.declared.element.Element.{Element}
use Rattle.bar_base.specs.declared.element.Element.TheVariants as element
use Rattle.bar_base.specs.declared.message.Append.{Append}
use Rattle.bar_base.specs.declared.message.Message.{Message}
use Rattle.aztec_modes.specs.declared.mode.Mode.{Mode}
use Rattle.aztec_modes.specs.declared.mode.Mode.TheVariants.{Upper}
use Rattle.aztec_modes.specs.declared.code.Code.{Code}
use Rattle.aztec_modes.specs.declared.reading.ReadFault.{ReadFault}
use Rattle.aztec_modes.specs.declared.reading.ReadFault.TheVariants.{BadSpelling, NoMemory}
use Rattle.aztec_modes.specs.Entry.{Entry}
use Rattle.aztec_modes.specs.Spelling.{IsMarked}
use Rattle.aztec_modes.specs.Message.{IsAppendPlace, header_elements, gs1_elements, eci_elements, message_elements}

-- Whether bits are all ones.
unfoldable pub all_ones : List Bool → Bool
all_ones [] = true
all_ones (bit ∷ bits) = bit && all_ones bits

-- Whether bits are what fills a last codeword: fewer ones than a codeword has bits, or none.
unfoldable pub fills : (width : ℕ) (bits : List Bool) → Bool
fills width bits = nat_lt (length bits) width && all_ones bits

-- `Reads width mode bits elements`: from `mode` on the bits are codes that spell the elements, followed by bits that fill the last
-- codeword. The codes end at the first code boundary from which on only such bits are left.
pub data Reads (width : ℕ) : Mode → List Bool → List Element → Type 0 where
  ends : {mode : Mode} {bits : List Bool} → fills width bits ≡ true → Reads width mode bits []
  onward : {mode next : Mode} {code : Code} {bits rest : List Bool} {spelled elements : List Element}
      → fills width (bits ++ rest) ≡ false → Entry mode code bits spelled next → Reads width next rest elements
      → Reads width mode (bits ++ rest) (spelled ++ elements)

-- No code of a mode begins the bits.
abbrev pub NoEntry : Mode → List Bool → Type 0
NoEntry mode bits = (code : Code) (front back : List Bool) (spelled : List Element) (next : Mode)
    → Entry mode code front spelled next → bits ≡ front ++ back → ⊥

-- `HasNoCodeAt width mode bits place`: from `mode` on the bits are codes up to a place at which no code begins them, and at no code
-- boundary up to there are they such as fill the last codeword.
pub data HasNoCodeAt (width : ℕ) : Mode → List Bool → ℕ → Type 0 where
  here : {mode : Mode} {bits : List Bool} → fills width bits ≡ false → NoEntry mode bits → HasNoCodeAt width mode bits 0
  later : {mode next : Mode} {code : Code} {bits rest : List Bool} {spelled : List Element} {place : ℕ}
      → fills width (bits ++ rest) ≡ false → Entry mode code bits spelled next → HasNoCodeAt width next rest place
      → HasNoCodeAt width mode (bits ++ rest) (length bits + place)

-- The place of a symbol in a set, with an identifier that a header can carry: up to 32 bytes from 33 to 126.
pub record IsHeader (append : Append) : Type 0 where
  pub place : IsAppendPlace append
  pub identifier : All (λ byte. (33 ≤ byte) × (byte ≤ 126)) append.id
  pub short : length append.id ≤ 32

-- A message whose parts can be told from its elements: the header is one, FNC1 stands in front only in GS1 data, and an ECI in front
-- of the body only behind the ECI of the message.
pub record IsProper (message : Message) : Type 0 where
  pub header : IfSome message.append IsHeader
  pub gs1 : message.gs1 ≡ false → (rest : List Element) → eci_elements message.eci ++ message.body ≡ element.Fnc1 ∷ rest → ⊥
  pub eci : message.eci ≡ None → (number : ℕ) (rest : List Element) → message.body ≡ element.Eci number ∷ rest → ⊥

-- FNC1, ECI and body of a message are these elements, each part taken where it stands in front.
pub record SplitsSo (message : Message) (elements : List Element) : Type 0 where
  pub whole : elements ≡ gs1_elements message.gs1 ++ (eci_elements message.eci ++ message.body)
  pub gs1 : message.gs1 ≡ false → (rest : List Element) → eci_elements message.eci ++ message.body ≡ element.Fnc1 ∷ rest → ⊥
  pub eci : message.eci ≡ None → (number : ℕ) (rest : List Element) → message.body ≡ element.Eci number ∷ rest → ⊥

-- Bits read as a message: their codes spell its elements, and it has a header exactly where the bits begin with the mark of a set.
pub record IsReading (width : ℕ) (bits : List Bool) (message : Message) : Type 0 where
  pub reads : Reads width Upper bits (message_elements message)
  pub marked : is_some message.append ≡ true → IsMarked bits
  pub unmarked : is_some message.append ≡ false → IsMarked bits → ⊥
  pub proper : IsProper message

-- Elements that begin with no header.
abbrev pub NoHeader : List Element → Type 0
NoHeader elements = (append : Append) (rest : List Element) → IsHeader append → elements ≡ header_elements (Some append) ++ rest → ⊥

-- Bits of a set all of whose codes stand, but spell no header.
pub record HasNoHeader (width : ℕ) (bits : List Bool) : Type 0 where
  pub elements : List Element
  pub reads : Reads width Upper bits elements
  pub marked : IsMarked bits
  pub none : NoHeader elements

-- The place, in bits, of what keeps bits from being read: the first code that can't stand, or, where all codes stand, the header that
-- is to follow the ten bits of the mark.
abbrev pub IsBadAt : (width : ℕ) (bits : List Bool) (place : ℕ) → Type 0
IsBadAt width bits place = HasNoCodeAt width Upper bits place ⊎ ((place ≡ 10) × HasNoHeader width bits)

-- What a refusal to read says: the place of what keeps the bits from being read, or that memory is wanting.
abbrev pub IsRefusal : (width : ℕ) (bits : List Bool) → ReadFault → Type 0
IsRefusal width bits NoMemory = Unit {0}
IsRefusal width bits (BadSpelling place) = IsBadAt width bits place

-- The same for the codes alone.
abbrev pub IsStop : (width : ℕ) (bits : List Bool) → ReadFault → Type 0
IsStop width bits NoMemory = Unit {0}
IsStop width bits (BadSpelling place) = HasNoCodeAt width Upper bits place

-- Where a reading stands behind some codes: what the rest of the bits reads as goes behind the elements so far.
pub record OnReading (width : ℕ) (bits : List Bool) (at : ℕ) (mode : Mode) (elements : List Element) : Type 0 where
  pub within : at ≤ length bits
  pub reads : (more : List Element) → Reads width mode (drop at bits) more → Reads width Upper bits (elements ++ more)
  pub stops : (place : ℕ) → HasNoCodeAt width mode (drop at bits) place → HasNoCodeAt width Upper bits (at + place)

-- Elements of a set with no header: refused at the bit behind the mark.
abbrev pub IsNoHeader : (marked : Bool) (elements : List Element) → ReadFault → Type 0
IsNoHeader marked elements NoMemory = Unit {0}
IsNoHeader marked elements (BadSpelling place) = (place ≡ 10) × (marked ≡ true) × NoHeader elements
