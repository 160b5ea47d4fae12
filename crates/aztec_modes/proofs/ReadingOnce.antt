-- Bits have one reading at most, and where they have none they stop at one place.
use Rattle.std.proofs.Common.{◌≡◌, ℕ, ◌+◌, ◌<◌, ◌≤◌, inl, inr, Bool, true, false, List, [], ◌∷◌, ◌++◌, length, refl, sym, ap, subst, ◌∙◌, arith}
use Rattle.bar_base.specs.declared.element.Element.{Element}
use Rattle.aztec_modes.specs.declared.mode.Mode.{Mode}
use Rattle.aztec_modes.specs.declared.mode.Mode.TheVariants.{Upper}
use Rattle.aztec_modes.specs.declared.code.Code.{Code}
use Rattle.aztec_modes.specs.Entry.{Entry}
use Rattle.aztec_modes.specs.Reading.{fills, Reads, ends, onward, NoEntry, HasNoCodeAt, here, later, IsBadAt}
use Rattle.aztec_modes.proofs.OneReading.{one_reading}

-- The first code of a reading, and the rest.
record FirstRead (width : ℕ) (mode : Mode) (bits : List Bool) (elements : List Element) : Type 0 where
  code : Code
  first : List Bool
  rest : List Bool
  spelled : List Element
  others : List Element
  next : Mode
  entry : Entry mode code first spelled next
  reads : Reads width next rest others
  bits_split : bits ≡ first ++ rest
  elements_split : elements ≡ spelled ++ others

reads_code : (width : ℕ) {mode : Mode} {bits : List Bool} {elements : List Element} → Reads width mode bits elements → fills width bits ≡ false
    → FirstRead width mode bits elements
reads_code width (ends is) not = absurd (cc)
reads_code width (onward {next = next} {code = code} {bits = first} {rest = rest} {spelled = spelled} {elements = others} is entry reads) not =
    record { code = code; first = first; rest = rest; spelled = spelled; others = others; next = next; entry = entry; reads = reads; bits_split = refl; elements_split = refl }

reads_end : (width : ℕ) {mode : Mode} {bits : List Bool} {elements : List Element} → Reads width mode bits elements → fills width bits ≡ true → elements ≡ []
reads_end width (ends is) full = refl
reads_end width (onward is entry reads) full = absurd (cc)

-- The first code of bits that stop behind it, and the rest.
record FirstStop (width : ℕ) (mode : Mode) (bits : List Bool) (place : ℕ) : Type 0 where
  code : Code
  first : List Bool
  rest : List Bool
  spelled : List Element
  next : Mode
  further : ℕ
  entry : Entry mode code first spelled next
  stops : HasNoCodeAt width next rest further
  bits_split : bits ≡ first ++ rest
  place_split : place ≡ length first + further

stops_code : (width : ℕ) {mode next : Mode} {bits : List Bool} {place : ℕ} {code : Code} {front : List Bool} {spelled : List Element} (back : List Bool)
    → HasNoCodeAt width mode bits place → Entry mode code front spelled next → bits ≡ front ++ back → FirstStop width mode bits place
stops_code width {next = next} {code = code} {front = front} {spelled = spelled} back (here is none) entry splits = absurd (none code front back spelled next entry splits)
stops_code width back (later {next = next} {code = code} {bits = first} {rest = rest} {spelled = spelled} {place = further} is entry stops) _ splits =
    record { code = code; first = first; rest = rest; spelled = spelled; next = next; further = further; entry = entry; stops = stops; bits_split = refl; place_split = refl }

stops_short : (width : ℕ) {mode : Mode} {bits : List Bool} {place : ℕ} → HasNoCodeAt width mode bits place → NoEntry mode bits → place ≡ 0
stops_short width (here is none) _ = refl
stops_short width (later {next = next} {code = code} {bits = first} {rest = rest} {spelled = spelled} is entry stops) none =
    absurd (none code first rest spelled next entry refl)

-- Bits have one reading.
pub reads_once : (width : ℕ) {mode : Mode} {bits : List Bool} {elements elements' : List Element}
    → Reads width mode bits elements → Reads width mode bits elements' → elements ≡ elements'
reads_once width (ends is) latter = sym (reads_end width latter is)
reads_once width {elements' = elements'} (onward {next = next} {rest = rest} {spelled = spelled} {elements = elements} is entry reads) latter =
    let b = reads_code width latter is in
    let alike = one_reading rest b.rest entry b.entry b.bits_split in
    let same : Reads width next rest b.others =
    subst (λ (m : Mode). Reads width m rest b.others) (sym alike.3) (subst (λ (xs : List Bool). Reads width b.next xs b.others) (sym alike.4) b.reads) in
    ap (λ (es : List Element). spelled ++ es) (reads_once width reads same) ∙ ap (λ (es : List Element). es ++ b.others) alike.2 ∙ sym b.elements_split

-- Bits that stop have no reading.
pub stops_apart : (width : ℕ) {mode : Mode} {bits : List Bool} {place : ℕ} {elements : List Element}
    → HasNoCodeAt width mode bits place → Reads width mode bits elements → ⊥
stops_apart width (here is none) reads =
    let b = reads_code width reads is in
    none b.code b.first b.rest b.spelled b.next b.entry b.bits_split
stops_apart width (later {next = next} {rest = rest} is entry stops) reads =
    let b = reads_code width reads is in
    let alike = one_reading rest b.rest entry b.entry b.bits_split in
    stops_apart width stops
    (subst (λ (m : Mode). Reads width m rest b.others) (sym alike.3) (subst (λ (xs : List Bool). Reads width b.next xs b.others) (sym alike.4) b.reads))

-- Bits stop at one place.
pub stops_once : (width : ℕ) {mode : Mode} {bits : List Bool} {place place' : ℕ}
    → HasNoCodeAt width mode bits place → HasNoCodeAt width mode bits place' → place ≡ place'
stops_once width (here is none) latter = sym (stops_short width latter none)
stops_once width (later {next = next} {bits = first} {rest = rest} {place = further} is entry stops) latter =
    let b = stops_code width rest latter entry refl in
    let alike = one_reading rest b.rest entry b.entry b.bits_split in
    let same : HasNoCodeAt width next rest b.further =
    subst (λ (m : Mode). HasNoCodeAt width m rest b.further) (sym alike.3) (subst (λ (xs : List Bool). HasNoCodeAt width b.next xs b.further) (sym alike.4) b.stops) in
    ap (λ (n : ℕ). length first + n) (stops_once width stops same) ∙ ap (λ (xs : List Bool). length xs + b.further) alike.1 ∙ sym b.place_split

-- What keeps bits from being read stands at one place.
pub bad_once : (width : ℕ) (bits : List Bool) (place place' : ℕ) → IsBadAt width bits place → IsBadAt width bits place' → place ≡ place'
bad_once width bits place place' (inl stops) (inl stops') = stops_once width stops stops'
bad_once width bits place place' (inl stops) (inr (at, none)) = absurd (stops_apart width stops none.reads)
bad_once width bits place place' (inr (at, none)) (inl stops) = absurd (stops_apart width stops none.reads)
bad_once width bits place place' (inr (at, none)) (inr (at', none')) = at ∙ sym at'
