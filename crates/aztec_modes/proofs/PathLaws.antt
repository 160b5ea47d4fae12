-- A path, code by code: where it stands in the elements, and that it has one list of bits.
use Rattle.std.proofs.Common.{◌≡◌, ℕ, ◌+◌, ◌-◌, ◌<◌, ◌≤◌, Bool, true, false, List, [], ◌∷◌, ◌++◌, length, drop, take, get_or, refl, sym, ap, subst, ◌∙◌, arith}
use Rattle.std.proofs.lemmas.List.{append_assoc, append-nil, drop_more, drop_all, drop_at, take_at, drop-drop, length-append, length-drop}
use Rattle.bar_base.specs.declared.element.Element.{Element}
use Rattle.aztec_modes.specs.declared.mode.Mode.{Mode}
use Rattle.aztec_modes.specs.declared.mode.Mode.TheVariants.{Upper, Lower, Mixed, Punct, Digit}
use Rattle.aztec_modes.specs.declared.code.Code.{Code}
use Rattle.aztec_modes.specs.declared.code.Code.TheVariants.{Latch, Plain, Shift, Fnc1, Eci, Run}
use Rattle.aztec_modes.specs.declared.table.Symbol.TheVariants.{LatchTo, ShiftTo}
use Rattle.aztec_modes.specs.Codes.{table_symbol, mode_width}
use Rattle.aztec_modes.specs.Entry.{Entry, SpellsFront, code_bits, code_next, code_count, code_length, flag_width, latch_number, shift_number}
use Rattle.aztec_modes.specs.Spelling.{Spells, nothing, onward, IsPathOf}
use Rattle.aztec_modes.proofs.TableFacts.{number_few}
use Rattle.aztec_modes.proofs.EntryLaws.{entry_len, entry_spelled, entry_same}
use Rattle.aztec_modes.proofs.OneReading.{one_reading}

-- The table has the latch of a path.
pub latch_there : {mode to : Mode} {elements : List Element} → SpellsFront mode (Latch to) elements
    → (number : ℕ) × (number < 32) × (table_symbol mode number ≡ LatchTo to)
latch_there {mode} {to} fits =
    (latch_number mode to, number_few mode (latch_number mode to) (LatchTo to) fits.entry.has (λ h. absurd (cc)), fits.entry.has)

-- The table has the shift of a path.
pub shift_there : {mode to : Mode} {second : ℕ} {elements : List Element} → SpellsFront mode (Shift to second) elements
    → (number : ℕ) × (number < 32) × (table_symbol mode number ≡ ShiftTo to)
shift_there {mode} {to} fits =
    (shift_number mode to, number_few mode (shift_number mode to) (ShiftTo to) fits.entry.has (λ h. absurd (cc)), fits.entry.has)

-- What a code spells is there.
pub count_there : {mode : Mode} {code : Code} (elements : List Element) (at : ℕ) → at ≤ length elements → SpellsFront mode code (drop at elements)
    → at + code_count mode code ≤ length elements
count_there elements at within fits =
    omega (arith, length-drop at elements, ap length fits.splits, length-append fits.spelled fits.rest, entry_spelled fits.entry)

-- The first code of a path, and the rest.
pub record FirstCode (mode : Mode) (code : Code) (codes : List Code) (bits : List Bool) (elements : List Element) : Type 0 where
  pub first : List Bool
  pub rest : List Bool
  pub spelled : List Element
  pub others : List Element
  pub next : Mode
  pub entry : Entry mode code first spelled next
  pub rest_spells : Spells next codes rest others
  pub bits_split : bits ≡ first ++ rest
  pub elements_split : elements ≡ spelled ++ others

pub first_code : {mode : Mode} {code : Code} {codes : List Code} {bits : List Bool} {elements : List Element} → Spells mode (code ∷ codes) bits elements
    → FirstCode mode code codes bits elements
first_code (onward {next = next} {bits = first} {rest = rest} {spelled = spelled} {elements = others} entry spells) =
    record { first = first; rest = rest; spelled = spelled; others = others; next = next; entry = entry; rest_spells = spells; bits_split = refl; elements_split = refl }

-- A path without codes has no bits.
no_codes : {mode : Mode} {bits : List Bool} {elements : List Element} → Spells mode [] bits elements → bits ≡ []
no_codes nothing = refl

-- A path has one list of bits.
pub spells_once : (codes : List Code) {mode : Mode} {bits bits' : List Bool} {elements : List Element}
    → Spells mode codes bits elements → Spells mode codes bits' elements → bits ≡ bits'
spells_once [] former latter = no_codes former ∙ sym (no_codes latter)
spells_once (code ∷ codes) {mode} {bits} {bits'} {elements} former latter =
    let a = first_code former in
    let b = first_code latter in
    let alike = entry_same a.others b.others a.entry b.entry (sym a.elements_split ∙ b.elements_split) in
    let rest : a.rest ≡ b.rest =
    spells_once codes a.rest_spells
    (subst (λ (m : Mode). Spells m codes b.rest a.others) (sym alike.3) (subst (λ (es : List Element). Spells b.next codes b.rest es) (sym alike.2) b.rest_spells)) in
    a.bits_split ∙ ap (λ (xs : List Bool). xs ++ a.rest) alike.0 ∙ ap (λ (xs : List Bool). b.first ++ xs) rest ∙ sym b.bits_split

width_positive : (mode : Mode) → 1 ≤ mode_width mode
unfolding mode_width
width_positive Upper = omega arith
width_positive Lower = omega arith
width_positive Mixed = omega arith
width_positive Punct = omega arith
width_positive Digit = omega arith

flag_width-positive : (mode : Mode) → 1 ≤ flag_width mode
unfolding flag_width
flag_width-positive Upper = omega arith
flag_width-positive Lower = omega arith
flag_width-positive Mixed = omega arith
flag_width-positive Punct = omega arith
flag_width-positive Digit = omega arith

-- Each code has bits.
pub cost_positive : (mode : Mode) (code : Code) → 1 ≤ code_length mode code
unfolding code_length
cost_positive mode (Latch to) = width_positive mode
cost_positive mode (Plain number) = width_positive mode
cost_positive mode (Shift to number) = omega (arith, width_positive mode)
cost_positive mode Fnc1 = flag_width-positive mode
cost_positive mode (Eci number count) = omega (arith, flag_width-positive mode)
cost_positive mode (Run count true) = omega arith
cost_positive mode (Run count false) = omega arith

codes_have_bits : {mode : Mode} {code : Code} {codes : List Code} {elements : List Element} {bits : List Bool} → Spells mode (code ∷ codes) bits elements → bits ≡ [] → ⊥
codes_have_bits {mode} {code} spells none =
    let first = first_code spells in
    absurd (omega (arith, entry_len first.entry, cost_positive mode code, ap length (sym none ∙ first.bits_split), length-append first.first first.rest))

no_codes_spell : {mode : Mode} {bits : List Bool} {elements : List Element} → Spells mode [] bits elements → elements ≡ []
no_codes_spell nothing = refl

-- No other path has the bits of a path.
pub path_only : (codes codes' : List Code) {mode : Mode} {bits : List Bool} {elements elements' : List Element}
    → Spells mode codes bits elements → Spells mode codes' bits elements' → (codes' ≡ codes) × (elements' ≡ elements)
path_only [] [] former latter = (refl, no_codes_spell latter ∙ sym (no_codes_spell former))
path_only [] (code ∷ codes') former latter = absurd (codes_have_bits latter (no_codes former))
path_only (code ∷ codes) [] former latter = absurd (codes_have_bits former (no_codes latter))
path_only (code ∷ codes) (code' ∷ codes') {mode} {bits} {elements} {elements'} former latter =
    let a = first_code former in
    let b = first_code latter in
    let alike = one_reading a.rest b.rest a.entry b.entry (sym a.bits_split ∙ b.bits_split) in
    let onward = path_only codes codes' a.rest_spells
    (subst (λ (m : Mode). Spells m codes' a.rest b.others) (sym alike.3) (subst (λ (xs : List Bool). Spells b.next codes' xs b.others) (sym alike.4) b.rest_spells)) in (
      ap (λ (c : Code). c ∷ codes') (sym alike.0) ∙ ap (λ (cs : List Code). code ∷ cs) onward.0,
      b.elements_split ∙ ap (λ (es : List Element). es ++ b.others) (sym alike.2) ∙ ap (λ (es : List Element). a.spelled ++ es) onward.1 ∙ sym a.elements_split,
    )

-- Where a path stands after some of its codes: the bits so far, the mode, and the place in the elements.
pub record OnPath (codes : List Code) (elements : List Element) (bits : List Bool) (mode : Mode) (at place : ℕ) : Type 0 where
  pub rest : List Bool
  pub within : at ≤ length elements
  pub ahead : Spells mode (drop place codes) rest (drop at elements)
  pub whole : Spells Upper codes (bits ++ rest) elements

pub path_begins : (codes : List Code) (elements : List Element) → IsPathOf Upper codes elements → OnPath codes elements [] Upper 0 0
path_begins codes elements path = record { rest = path.0; within = omega arith; ahead = path.1; whole = path.1 }

pub path_ends : (codes : List Code) (elements : List Element) (bits : List Bool) (mode : Mode) (at place : ℕ) → length codes ≤ place
    → OnPath codes elements bits mode at place → Spells Upper codes bits elements
path_ends codes elements bits mode at place past path =
    let none : Spells mode [] path.rest (drop at elements) =
    subst (λ (cs : List Code). Spells mode cs path.rest (drop at elements)) (drop_all place codes past) path.ahead in
    subst (λ (xs : List Bool). Spells Upper codes xs elements) (ap (λ (xs : List Bool). bits ++ xs) (no_codes none) ∙ append-nil bits) path.whole

-- The same under equal names.
pub path_spelled : (codes codes' : List Code) (elements elements' : List Element) (bits : List Bool) (mode : Mode) (at place : ℕ) → codes ≡ codes'
    → elements ≡ elements' → length codes ≤ place → OnPath codes elements bits mode at place → Spells Upper codes' bits elements'
path_spelled codes codes' elements elements' bits mode at place same_codes same_elements past path =
    subst (λ (cs : List Code). Spells Upper cs bits elements') same_codes
    (subst (λ (es : List Element). Spells Upper codes bits es) same_elements (path_ends codes elements bits mode at place past path))

module _ (codes : List Code) (elements : List Element) (bits : List Bool) (mode : Mode) (at place : ℕ) (d : Code)
    (below : place < length codes) (path : OnPath codes elements bits mode at place) where
  next_code : FirstCode mode (get_or codes place d) (drop (place + 1) codes) path.rest (drop at elements)
  next_code =
      first_code (subst (λ (cs : List Code). Spells mode cs path.rest (drop at elements)) (drop_more codes place d below) path.ahead)

  -- The next code of a path spells the front of the elements there.
  pub path_fits : SpellsFront mode (get_or codes place d) (drop at elements)
  path_fits =
      let first = next_code in
      record { bits = first.first; spelled = first.spelled; rest = first.others; next = first.next; entry = first.entry; splits = first.elements_split }

  -- One code further on the path.
  path_steps : (more : List Bool) → more ≡ bits ++ code_bits mode (get_or codes place d) (take (code_count mode (get_or codes place d)) (drop at elements))
      → OnPath codes elements more (code_next mode (get_or codes place d)) (at + code_count mode (get_or codes place d)) (place + 1)
  path_steps more written =
      let first = next_code in
      let front : take (code_count mode (get_or codes place d)) (drop at elements) ≡ first.spelled =
      ap (take (code_count mode (get_or codes place d))) first.elements_split ∙ take_at first.spelled first.others (code_count mode (get_or codes place d)) (entry_spelled first.entry) in
      let own : first.first ≡ code_bits mode (get_or codes place d) (take (code_count mode (get_or codes place d)) (drop at elements)) = first.entry.written ∙ ap (code_bits mode (get_or codes place d)) (sym front) in
      let others : first.others ≡ drop (at + code_count mode (get_or codes place d)) elements =
      sym (drop_at first.spelled first.others (code_count mode (get_or codes place d)) (entry_spelled first.entry))
      ∙ ap (drop (code_count mode (get_or codes place d))) (sym first.elements_split) ∙ drop-drop (code_count mode (get_or codes place d)) at elements in
      record {
        rest = first.rest;
        within = count_there elements at path.within path_fits;
        ahead = subst (λ (m : Mode). Spells m (drop (place + 1) codes) first.rest (drop (at + code_count mode (get_or codes place d)) elements)) first.entry.leads
            (subst (λ (es : List Element). Spells first.next (drop (place + 1) codes) first.rest es) others first.rest_spells);
        whole = subst (λ (xs : List Bool). Spells Upper codes xs elements)
            (ap (λ (xs : List Bool). bits ++ xs) first.bits_split ∙ sym (append_assoc bits first.first first.rest)
            ∙ ap (λ (xs : List Bool). (bits ++ xs) ++ first.rest) own ∙ ap (λ (xs : List Bool). xs ++ first.rest) (sym written)) path.whole;
      }

  -- The same, with the mode, the count and the bits that a caller has computed.
  pub path_goes_on : (more : List Bool) (next : Mode) (count : ℕ)
      → more ≡ bits ++ code_bits mode (get_or codes place d) (take (at + count - at) (drop at elements))
      → next ≡ code_next mode (get_or codes place d) → count ≡ code_count mode (get_or codes place d) → OnPath codes elements more next (at + count) (place + 1)
  path_goes_on more next count written next_is count_is =
      let size : at + count - at ≡ code_count mode (get_or codes place d) = omega (arith, count_is) in
      subst (λ (m : Mode). OnPath codes elements more m (at + count) (place + 1)) (sym next_is)
      (subst (λ (n : ℕ). OnPath codes elements more (code_next mode (get_or codes place d)) (at + n) (place + 1)) (sym count_is)
      (path_steps more (written ∙ ap (λ (n : ℕ). bits ++ code_bits mode (get_or codes place d) (take n (drop at elements))) size)))
