-- The parts of a message that is drawn can be told from its elements: its body begins with a byte.
use Rattle.std.proofs.Common.{◌≡◌, ◌==◌, ◌≤◌, ◌<◌, ◌+◌, ℕ, suc, zero, List, [], ◌∷◌, ◌++◌, Bool, true, false, Option, Some, None, Ok, Err, IfSome, length, length-append, map, drop, nat_lt, take, take_all, if◌then◌else◌, subst, sym, ap, ◌∙◌, refl, arith}
use Rattle.std.specs.List.{before_first, position_or_len}
use Rattle.std.specs.Option.{option_or}
use Rattle.std.specs.Str.{IsUtf8, chars, is_utf8}
use Rattle.std.specs.Str.Lossy.{utf8_valid_len, valid_len_up_to}
use Rattle.std.proofs.lemmas.Bool.{ltb-false}
use Rattle.std.proofs.lemmas.Str.{IsUtf8-from_is_utf8, chars-encodes}
use Rattle.bar_base.specs.declared.element.Element.{Element}
use Rattle.bar_base.specs.declared.element.Element.TheVariants as element
use Rattle.bar_base.specs.declared.message.Append.{Append}
use Rattle.bar_base.specs.declared.message.Message.{Message}
use Rattle.aztec_modes.specs.Entry.{bytes_as_elements}
use Rattle.aztec_modes.specs.Message.{IsAppendPlace, IsMessage, eci_elements, gs1_elements, header_elements, message_elements}
use Rattle.aztec_modes.specs.Reading.{IsHeader, IsProper}
use Rattle.eci_sets.specs.CharacterSets.{set_numbered}
use Rattle.eci_sets.specs.Encodings.{Encoded, IsEncodedIn, first_lacking, joined_bytes, text_encoding, unless_lacking}
use Rattle.eci_sets.specs.declared.character_set.CharacterSet.{CharacterSet}
use Rattle.gs1_check.specs.ElementStrings.{ElementString, body_behind, body_of, brackets_of, first_fault, section_string, sections, separator, text_body, text_fault, unless_faulty}
use Rattle.gs1_check.specs.Identifiers.{identifier_format, identifier_number, numbered_format}
use Rattle.gs1_check.specs.Sections.{identified_fault, is_no_digit, opening_bracket, section_fault, sized_fault}
use Rattle.gs1_check.specs.declared.brackets.Brackets.{Brackets}
use Rattle.gs1_check.specs.declared.brackets.Brackets.TheVariants.{Round, Square}
use Rattle.gs1_check.specs.declared.fault.Gs1Fault.{Gs1Fault}
use Rattle.gs1_check.specs.declared.fault.Gs1Fault.TheVariants.{BadBracket}
use Rattle.gs1_check.specs.declared.identifiers.Format.{Format}
use Rattle.bar_base.specs.Steps.{only}
use Rattle.zint_answers.specs.declared.detail.Kind.TheVariants.{Text}
use Rattle.zint_answers.specs.declared.refusal.Refusal.{Refusal}
use Rattle.zint_answers.specs.declared.refusal.Refusal.TheVariants.{BadData}
use Rattle.zint_settings.specs.SetPlace.{IsSetPlace}
use Rattle.zint_settings.specs.Settings.{DrawingRequest}
use Rattle.zint_draw.specs.Message.{CanBeDrawn, data_kind, encoded_in, gs1_message, latin1_message, message_for, message_with, text_message, whole_text}
use Rattle.zint_draw.specs.Segments.{continued, message_of}
use Rattle.zint_draw.specs.declared.message.DataKind.{DataKind}
use Rattle.zint_draw.specs.declared.message.DataKind.TheVariants as kind
use Rattle.zint_draw.proofs.Messages.{some_encoded}

-- The first of some elements is a byte.
abbrev pub StartsWithByte : List Element → Type 0
StartsWithByte elements = (byte : ℕ) × (rest : List Element) × (elements ≡ element.Byte byte ∷ rest)

bytes_start : (bytes : List ℕ) → 0 < length bytes → StartsWithByte (bytes_as_elements bytes)
unfolding bytes_as_elements
bytes_start [] some = absurd (omega (arith, some))
bytes_start (byte ∷ bytes) some = (byte, bytes_as_elements bytes, refl)

-- a body of element strings begins with a digit of the first identifier
string_starts : (identifier value : List ℕ) (more : List Element) (format : Format) → identifier_format identifier ≡ Some format
    → StartsWithByte (separator false ++ map (λ byte. element.Byte byte) (identifier ++ value) ++ more)
unfolding identifier_format identifier_number numbered_format
string_starts [] value more format is = cc
string_starts (digit ∷ digits) value more format is = (digit, map (λ byte. element.Byte byte) (digits ++ value) ++ more, refl)

strings_start : (string : ElementString) (more : List ElementString) (format : Format) → identifier_format string.identifier ≡ Some format
    → StartsWithByte (body_of (string ∷ more))
unfolding body_behind
strings_start string more format known = string_starts string.identifier string.value _ format known

-- and a text without a fault has one
first_of : (former latter : Option Gs1Fault) → option_or former latter ≡ None → former ≡ None
first_of None latter is = refl
first_of (Some fault) latter is = cc

closed : (test : Bool) (former : Option Gs1Fault) (fault : Gs1Fault) → (if test then former else Some fault) ≡ None → former ≡ None
closed true former fault is = is
closed false former fault is = cc

known_of : (brackets : Brackets) (place size : ℕ) (format : Option Format) (value : List ℕ) → identified_fault brackets place format size value ≡ None
    → (given : Format) × (format ≡ Some given)
known_of brackets place size None value is = cc
known_of brackets place size (Some format) value is = (format, refl)

sized_known : (brackets : Brackets) (place : ℕ) (section : List ℕ) (size : ℕ) → sized_fault brackets place section size ≡ None
    → (format : Format) × (identifier_format (take size section) ≡ Some format)
unfolding sized_fault
sized_known brackets place section size is =
    known_of brackets place size (identifier_format (take size section)) (drop (size + 1) section) (closed _ _ _ is)

section_known : (brackets : Brackets) (place : ℕ) (section : List ℕ) → section_fault brackets place section ≡ None
    → (format : Format) × (identifier_format (section_string section).identifier ≡ Some format)
unfolding section_fault section_string
section_known brackets place section is = sized_known brackets place section (position_or_len is_no_digit section) is

unless_given : (fault : Option Gs1Fault) (whole body : List Element) → unless_faulty fault whole ≡ Ok body → (fault ≡ None) × (body ≡ whole)
unless_given None whole body is = (refl, cc)
unless_given (Some fault) whole body is = cc

sections_start : (brackets : Brackets) (section : List ℕ) (rest : List (List ℕ)) (body : List Element)
    → unless_faulty (first_fault brackets 0 (section ∷ rest)) (body_of (map section_string (section ∷ rest))) ≡ Ok body → StartsWithByte body
unfolding first_fault
sections_start brackets section rest body is =
    let parts = unless_given (first_fault brackets 0 (section ∷ rest)) (body_of (map section_string (section ∷ rest))) body is in
    let known = section_known brackets 0 section
    (first_of (section_fault brackets 0 section) (first_fault brackets (0 + (1 + length section)) rest) parts.0) in
    subst StartsWithByte (sym parts.1) (strings_start (section_string section) (map section_string rest) known.0 known.1)

text_starts : (brackets : Brackets) (text : List ℕ) (body : List Element) → text_body brackets text ≡ Ok body → StartsWithByte body
unfolding text_body text_fault sections
text_starts Square [] body is = cc
text_starts Round [] body is = cc
text_starts brackets (byte ∷ text) body is =
    let mark : ℕ = opening_bracket brackets in
    let section : List ℕ = before_first (λ d. d == mark) text in
    elim (byte == mark) as (λ test. unless_faulty
    (if test then first_fault brackets 0 (if test then section ∷ sections mark text else sections mark text) else Some (BadBracket 0))
    (body_of (map section_string (if test then section ∷ sections mark text else sections mark text))) ≡ Ok body → StartsWithByte body) [
      | true ↦ λ given. sections_start brackets section (sections mark text) body given
      | false ↦ λ given. cc
    ] is

-- bytes that are UTF-8 up to their end are a text
valid_within : (bytes : List ℕ) (n : ℕ) → valid_len_up_to bytes n ≤ n
valid_within bytes zero = omega arith
valid_within bytes (suc n) = elim (is_utf8 (take (suc n) bytes)) as (λ b. (if b then suc n else valid_len_up_to bytes n) ≤ suc n) [
  | true ↦ omega arith
  | false ↦ omega (arith, valid_within bytes n)
]

valid_whole : (bytes : List ℕ) (n : ℕ) → suc n ≤ valid_len_up_to bytes (suc n) → is_utf8 (take (suc n) bytes) ≡ true
valid_whole bytes n all =
    elim (is_utf8 (take (suc n) bytes)) as (λ b. suc n ≤ (if b then suc n else valid_len_up_to bytes n) → b ≡ true) [
      | true ↦ λ within. refl
      | false ↦ λ within. absurd (omega (arith, within, valid_within bytes n))
    ] all

valid_text : (bytes : List ℕ) (n : ℕ) → n ≡ length bytes → n ≤ valid_len_up_to bytes n → 0 < n → IsUtf8 bytes
valid_text bytes zero is all some = absurd (omega (arith, some))
valid_text bytes (suc n) is all some =
    IsUtf8-from_is_utf8 bytes (subst (λ (front : List ℕ). is_utf8 front ≡ true) (take_all (suc n) bytes (omega (arith, is))) (valid_whole bytes n all))

whole_when : (shorter : Bool) (bytes text : List ℕ) (refusal : Refusal) → Ok text ≡ (if shorter then Err refusal else Ok bytes)
    → (shorter ≡ false) × (text ≡ bytes)
whole_when true bytes text refusal is = cc
whole_when false bytes text refusal is = (refl, cc)

whole_is : (bytes text : List ℕ) → 0 < length bytes → Ok text ≡ whole_text bytes → (text ≡ bytes) × IsUtf8 bytes
unfolding whole_text utf8_valid_len
whole_is bytes text some is =
    let parts = whole_when (nat_lt (utf8_valid_len bytes) (length bytes)) bytes text (BadData Text (utf8_valid_len bytes)) is in
    (parts.1, valid_text bytes (length bytes) refl (ltb-false (utf8_valid_len bytes) (length bytes) parts.0) some)

-- a text with bytes in a set is encoded by them
text_encoded : (set : CharacterSet) (text bytes : List ℕ) → IsUtf8 text → first_lacking set 0 (chars text) ≡ None → bytes ≡ joined_bytes set (chars text)
    → Encoded set text bytes
text_encoded set text bytes utf8 none is =
    let same : chars text ≡ utf8.0 = ap chars (sym utf8.1.1) ∙ chars-encodes utf8.0 utf8.1.0 in
    record {
      characters = utf8.0;
      scalar = utf8.1.0;
      text_is = sym utf8.1.1;
      all = subst (λ (cs : List ℕ). first_lacking set 0 cs ≡ None) same none;
      bytes_are = is ∙ ap (joined_bytes set) same;
    }

encoded_of : (set : Option CharacterSet) (text bytes : List ℕ) → IsUtf8 text → text_encoding set (chars text) ≡ Ok bytes → IsEncodedIn set text bytes
unfolding text_encoding
encoded_of None text bytes utf8 is = cc
encoded_of (Some set) text bytes utf8 is =
    elim (first_lacking set 0 (chars text)) as (λ lacking. first_lacking set 0 (chars text) ≡ lacking
    → unless_lacking lacking (joined_bytes set (chars text)) ≡ Ok bytes → Encoded set text bytes) [
      | None ↦ λ none same. text_encoded set text bytes utf8 none cc
      | Some place ↦ λ lacks same. cc
    ] refl is

encoded_start : (eci : ℕ) (bytes text encoded : List ℕ) → 0 < length bytes → Ok text ≡ whole_text bytes → encoded_in eci text (Ok encoded)
    → StartsWithByte (bytes_as_elements encoded)
encoded_start eci bytes text encoded some is_text is =
    let whole = whole_is bytes text some is_text in
    let utf8 : IsUtf8 text = subst IsUtf8 (sym whole.0) whole.1 in
    bytes_start encoded
    (some_encoded (set_numbered eci) text encoded (encoded_of (set_numbered eci) text encoded utf8 is)
    (subst (λ (t : List ℕ). 0 < length t) (sym whole.0) some))

same_start : (message other : Message) → only {E = Refusal} (Ok other) (Ok message) → StartsWithByte other.body → StartsWithByte message.body
same_start message other is starts =
    let same : message ≡ other = cc in
    subst (λ (m : Message). StartsWithByte m.body) (sym same) starts

-- the body of the message of data
pub body_starts : (kind_of : DataKind) (bytes : List ℕ) (message : Message) → 0 < length bytes → message_for kind_of bytes (Ok message)
    → StartsWithByte message.body
unfolding message_for gs1_message text_message latin1_message
body_starts (kind.Gs1 parens) bytes message some (body, is_body, is) =
    same_start message (message_with true None body) is (text_starts (brackets_of parens) bytes body is_body)
body_starts (kind.Bytes eci) bytes message some is =
    same_start message (message_with false eci (bytes_as_elements bytes)) is (bytes_start bytes some)
body_starts (kind.Text eci) bytes message some (text, is_text, (encoded, is_encoded, is)) =
    same_start message (message_with false _ (bytes_as_elements encoded)) is (encoded_start _ bytes text encoded some is_text is_encoded)
body_starts kind.Latin1 bytes message some (text, is_text, (encoded, is_encoded, is)) =
    same_start message (message_with false None (bytes_as_elements encoded)) is (encoded_start _ bytes text encoded some is_text is_encoded)

-- more elements behind such a body don't change how it begins
more_start : (body more : List Element) → StartsWithByte body → StartsWithByte (body ++ more)
more_start body more (byte, rest, is) = (byte, rest ++ more, ap (λ (front : List Element). front ++ more) is)

no_fnc1 : (eci : Option ℕ) (body rest : List Element) → StartsWithByte body → eci_elements eci ++ body ≡ element.Fnc1 ∷ rest → ⊥
unfolding eci_elements
no_fnc1 None body rest (byte, behind, starts) is = cc
no_fnc1 (Some number) body rest starts is = cc

no_eci : (body : List Element) (number : ℕ) (rest : List Element) → StartsWithByte body → body ≡ element.Eci number ∷ rest → ⊥
no_eci body number rest (byte, behind, starts) is = cc

continued_proper : (plain : Message) (append : Option Append) (more : List Element) → IfSome append IsHeader → StartsWithByte plain.body
    → IsProper (continued plain append more)
continued_proper plain append more header starts = record {
  header = header;
  gs1 = λ outside rest is. no_fnc1 plain.eci (plain.body ++ more) rest (more_start plain.body more starts) is;
  eci = λ none number rest is. no_eci (plain.body ++ more) number rest (more_start plain.body more starts) is;
}

-- a place in a set is one of a header
header_of : (append : Option Append) → IfSome append (λ a. IsSetPlace a.index a.count a.id) → IfSome append IsHeader
header_of None placed = tt
header_of (Some append) placed = record {
  place = record { from_one = placed.from_one; to_count = placed.to_count; some = placed.some; letters = placed.letters };
  identifier = placed.graphic;
  short = placed.few;
}

-- the message of data and segments is proper, and stands in the place that is asked for
pub message_proper : (request : DrawingRequest) (bytes : List ℕ) (message : Message) → 0 < length bytes
    → IfSome request.append (λ a. IsSetPlace a.index a.count a.id) → message_of request bytes (Ok message)
    → IsProper message × (message.append ≡ request.append)
unfolding message_of
message_proper request bytes message some placed (plain, is_plain, (more, are_more, is)) =
    let same : message ≡ continued plain request.append more = cc in (
      subst IsProper (sym same)
          (continued_proper plain request.append more (header_of request.append placed)
          (body_starts (data_kind request.options) bytes plain some is_plain)),
      ap (λ (m : Message). m.append) same,
    )

some_elements : (plain : Message) (append : Option Append) (more : List Element) → StartsWithByte plain.body
    → 0 < length (message_elements (continued plain append more))
unfolding message_elements
some_elements plain append more starts =
    let (byte, rest, is) = more_start plain.body more starts in
    omega (
      arith,
      length-append (header_elements append) (gs1_elements plain.gs1 ++ (eci_elements plain.eci ++ (plain.body ++ more))),
      length-append (gs1_elements plain.gs1) (eci_elements plain.eci ++ (plain.body ++ more)),
      length-append (eci_elements plain.eci) (plain.body ++ more),
      ap (λ (elements : List Element). length elements) is,
    )

-- and it has elements
pub continued_drawable : (kind_of : DataKind) (bytes : List ℕ) (plain message : Message) (append : Option Append) (more : List Element)
    → message ≡ continued plain append more → 0 < length bytes → message_for kind_of bytes (Ok plain) → IsMessage plain → IfSome append IsAppendPlace
    → CanBeDrawn message
continued_drawable kind_of bytes plain message append more is some is_plain of in_set =
    subst CanBeDrawn (sym is)
    (record { place = in_set; eci = of.eci }, some_elements plain append more (body_starts kind_of bytes plain some is_plain))
