-- The read report: what a reading says, line by line.
use Rattle.std.specs.Prelude.{◌≡◌, ℕ, ◌+◌, ◌/◌, ◌%◌, ◌<◌, ◌^◌, Bool, List, [], ◌∷◌, ◌++◌, All, IfSome, Option, Some, None, option_map, MatchBool, MatchOption, codes, decimal, if◌then◌else◌}
use Rattle.std.specs.List.{flat_map}
use Rattle.bar_base.specs.Elements.{IsElement}
use Rattle.bar_base.specs.declared.element.Element.{Element}
use Rattle.bar_base.specs.declared.element.Element.TheVariants.{Byte, Eci, Fnc1}
use Rattle.bar_base.specs.declared.message.Append.{Append}
use Rattle.bar_base.specs.declared.message.Message.{Message}
use Rattle.aztec_layout.specs.declared.sizes.Size.{Size}
use Rattle.eci_sets.specs.JoinedTexts.{IsJoinedText}
use Rattle.gs1_check.specs.LeadingStrings.{HasNoText, IsOnlyText}
use Rattle.input_escapes.specs.Escapes.{escaped, escaped_in_text}
use Rattle.symbol_reader.specs.declared.reading.LostReading.{LostReading}
use Rattle.zint_answers.specs.Report.{size_text}

-- bytes as a text of ASCII characters
abbrev pub escaped_bytes : List ℕ → List ℕ
escaped_bytes bytes = flat_map escaped bytes

-- the identifier of a set, where it has one
unfoldable pub identifier_text : List ℕ → List ℕ
identifier_text [] = []
identifier_text (byte ∷ bytes) = codes "," ++ escaped_bytes (byte ∷ bytes)

-- the place of a symbol in a set: the how-many-eth it is, of how many, and the set's identifier
abbrev pub place_text : Append → List ℕ
place_text append = decimal append.index ++ codes "," ++ decimal append.count ++ identifier_text append.id

-- the place in a set, or a hyphen where there is no set
abbrev pub append_text : Option Append → List ℕ
append_text None = codes "-"
append_text (Some append) = place_text append

-- whether the data is GS1 element strings
abbrev pub fnc1_text : Bool → List ℕ
fnc1_text gs1 = if gs1 then codes "yes" else codes "no"

-- the ECI, or a hyphen where there is none
abbrev pub eci_text : Option ℕ → List ℕ
eci_text None = codes "-"
eci_text (Some number) = decimal number

-- the digit of a number that counts for so much, as a character
abbrev pub digit_for : (number weight : ℕ) → ℕ
digit_for number weight = 48 + number / weight % 10

-- the last six digits of a number
unfoldable pub six_digits : ℕ → List ℕ
six_digits number =
    digit_for number 100000 ∷ digit_for number 10000 ∷ digit_for number 1000 ∷ digit_for number 100
    ∷ digit_for number 10 ∷ digit_for number 1 ∷ []

-- an element as a text: a byte as it is escaped, FNC1 as `\F`, an ECI as `\K` and six digits
unfoldable pub element_text : Element → List ℕ
element_text (Byte byte) = escaped byte
element_text (Eci number) = codes "\\K" ++ six_digits number
element_text Fnc1 = codes "\\F"

-- a body as a text
unfoldable pub body_text : List Element → List ℕ
body_text body = flat_map element_text body

-- the line `append=`
unfoldable pub append_line : Option Append → List ℕ
append_line append = codes "append=" ++ append_text append ++ codes "\n"

-- the line `fnc1=`
unfoldable pub fnc1_line : Bool → List ℕ
fnc1_line gs1 = codes "fnc1=" ++ fnc1_text gs1 ++ codes "\n"

-- the line `eci=`
unfoldable pub eci_line : Option ℕ → List ℕ
eci_line eci = codes "eci=" ++ eci_text eci ++ codes "\n"

-- the line `data=`
unfoldable pub body_line : List Element → List ℕ
body_line body = codes "data=" ++ body_text body ++ codes "\n"

-- the four lines that tell the message
abbrev pub message_lines : Message → List ℕ
message_lines message = append_line message.append ++ fnc1_line message.gs1 ++ eci_line message.eci ++ body_line message.body

-- the line `size=`
unfoldable pub size_line : Size → List ℕ
size_line size = codes "size=" ++ size_text size ++ codes "\n"

-- the line `codewords=`: the data codewords and the check codewords
unfoldable pub codewords_line : (held check : ℕ) → List ℕ
codewords_line held check = codes "codewords=" ++ decimal held ++ codes "+" ++ decimal check ++ codes "\n"

-- the line `corrected=`: the codewords that were wrong
unfoldable pub corrected_line : ℕ → List ℕ
corrected_line corrected = codes "corrected=" ++ decimal corrected ++ codes "\n"

-- the line `lost=`: the codewords that were lost
unfoldable pub lost_line : ℕ → List ℕ
lost_line lost = codes "lost=" ++ decimal lost ++ codes "\n"

-- the same line, where it is to be told
abbrev pub lost_lines : (tells_lost : Bool) → ℕ → List ℕ
lost_lines tells_lost lost = if tells_lost then lost_line lost else []

-- the lines that tell the symbol
abbrev pub symbol_lines : (tells_lost : Bool) → LostReading → List ℕ
symbol_lines tells_lost read =
    ((size_line read.reading.size ++ codewords_line read.reading.held read.reading.check) ++ corrected_line read.reading.corrected)
    ++ lost_lines tells_lost read.lost

-- What stands behind `gs1=`: in GS1 data the text of the element strings in square brackets, where there is one (GS1 General Specifications).
abbrev pub IsGs1Text : Message → Option (List ℕ) → Type 0
IsGs1Text message shown =
    MatchBool message.gs1 (MatchOption shown (HasNoText message.body) (λ text. IsOnlyText text message.body)) (shown ≡ None)

-- The text of a message: that of the parts of its body between extended channel interpretations, joined. Each part is
-- read by the one before it, the first by the message's own, or by 3 where it has none (AIM ITS/04-001).
abbrev pub IsMessageText : Message → List ℕ → Type 0
IsMessageText message text = IsJoinedText message.eci message.body text

-- What stands behind `text=`, before it is escaped: the text of the message, where it has one.
abbrev pub IsDecoded : Message → Option (List ℕ) → Type 0
IsDecoded message shown = MatchOption shown ((text : List ℕ) → IsMessageText message text → ⊥) (IsMessageText message)

-- a line that stands only where there is something to say
abbrev pub line_where : (name : List ℕ) → Option (List ℕ) → List ℕ
line_where name None = []
line_where name (Some text) = name ++ text ++ codes "\n"

-- the line `gs1=`
abbrev pub gs1_line : Option (List ℕ) → List ℕ
gs1_line shown = line_where (codes "gs1=") shown

-- the line `text=`
abbrev pub text_line : Option (List ℕ) → List ℕ
text_line shown = line_where (codes "text=") (option_map (λ text. flat_map escaped_in_text text) shown)

-- The lines of a message and of its texts, behind some others.
pub record IsToldBehind (front : List ℕ) (message : Message) (report : List ℕ) : Type 0 where
  pub gs1 : Option (List ℕ)
  pub shown : IsGs1Text message gs1
  pub text : Option (List ℕ)
  pub decoded : IsDecoded message text
  pub lines : report ≡ ((front ++ message_lines message) ++ gs1_line gs1) ++ text_line text

-- The read report of a reading.
abbrev pub IsReportOf : (tells_lost : Bool) (read : LostReading) (report : List ℕ) → Type 0
IsReportOf tells_lost read report = IsToldBehind (symbol_lines tells_lost read) read.reading.message report

-- The numbers of a message are such as its type holds: bytes below 256, an ECI below 2 to the 32.
pub record HoldsNumbers (message : Message) : Type 0 where
  pub place : IfSome message.append (λ append. (append.index < 256) × (append.count < 256) × All (λ byte. byte < 256) append.id)
  pub eci : IfSome message.eci (λ number. number < 2 ^ 32)
  pub body : All IsElement message.body

-- Two messages have the same four lines `append=`, `fnc1=`, `eci=` and `data=`.
pub record HasSameLines (one other : Message) : Type 0 where
  pub append : append_line one.append ≡ append_line other.append
  pub fnc1 : fnc1_line one.gs1 ≡ fnc1_line other.gs1
  pub eci : eci_line one.eci ≡ eci_line other.eci
  pub body : body_line one.body ≡ body_line other.body
