-- The steps of reading.
use Rattle.std.proofs.Common.{◌≡◌, ℕ, zero, suc, ◌+◌, ◌-◌, ◌*◌, ◌^◌, ◌<◌, ◌≤◌, Bool, true, false, ◌&&◌, List, [], ◌∷◌, ◌++◌, length, take, drop, slice_get, refl, sym, ap, subst, ◌∙◌, arith}
use Rattle.std.specs.Prelude.{Option, Some, None}
use Rattle.std.proofs.Math.Nat.{pow-le-pow_right}
use Rattle.std.proofs.lemmas.List.{append_assoc, append-nil, drop_at, drop-drop, drop_all, length-append, length-drop}
use Rattle.bar_base.proofs.ListLemmas.{drop_here}
use Rattle.bar_base.specs.Bits.{number_after}
use Rattle.bar_base.specs.declared.element.Element.{Element}
use Rattle.bar_base.specs.declared.element.Element.TheVariants as element
use Rattle.aztec_modes.specs.declared.mode.Mode.{Mode}
use Rattle.aztec_modes.specs.declared.mode.Mode.TheVariants.{Upper}
use Rattle.aztec_modes.specs.declared.code.Code.{Code}
use Rattle.aztec_modes.specs.declared.code.Code.TheVariants.{Latch, Plain, Shift, Fnc1, Eci, Run}
use Rattle.aztec_modes.specs.Entry.{Entry, bytes_as_elements, code_length, code_next, run_head}
use Rattle.aztec_modes.specs.Ahead.{bytes_in, code_ahead, spelled_ahead}
use Rattle.aztec_modes.specs.Reading.{all_ones, fills, Reads, ends, onward, NoEntry, HasNoCodeAt, here, later, OnReading}
use Rattle.aztec_modes.proofs.EntryLaws.{entry_len}
use Rattle.aztec_modes.proofs.PathLaws.{cost_positive}
use Rattle.aztec_modes.proofs.AheadLaws.{entry_ahead}
use Rattle.aztec_modes.proofs.AheadFound.{IsAhead, code_found}

-- All ones from a bit on.
pub ones_here : (bits : List Bool) (i : ℕ) (bit : Bool) → slice_get bits i ≡ Some bit → all_ones (drop i bits) ≡ (bit && all_ones (drop (i + 1) bits))
unfolding all_ones
ones_here bits i bit is = ap all_ones (drop_here bits i bit is)

pub ones_past : (bits : List Bool) (i : ℕ) → length bits ≤ i → all_ones (drop i bits) ≡ true
unfolding all_ones
ones_past bits i past = ap all_ones (drop_all i bits past)

eci_small : {mode : Mode} {number count : ℕ} {bits : List Bool} {spelled : List Element} {next : Mode} → Entry mode (Eci number count) bits spelled next → number ≤ 999999
eci_small {count = count} entry =
    let power : 10 ^ count ≤ 10 ^ 6 = pow-le-pow_right (let h : 0 < 10 = omega arith in h) entry.has.2 in omega (arith, power, entry.has.3)

-- An ECI in front has at most six digits.
pub ahead_eci : (mode : Mode) (number count : ℕ) (bits : List Bool) → code_ahead mode bits ≡ Some (Eci number count) → number ≤ 999999
ahead_eci mode number count bits is = eci_small (code_found mode (Eci number count) bits is).entry

-- A code in front is there whole.
pub ahead_there : (mode : Mode) (code : Code) (bits : List Bool) → code_ahead mode bits ≡ Some code → code_length mode code ≤ length bits
ahead_there mode code bits is =
    let found = code_found mode code bits is in
    omega (arith, ap length found.splits, length-append found.front found.rest, entry_len found.entry)

pub ahead_run : (mode : Mode) (count : ℕ) (long : Bool) (bits : List Bool) → code_ahead mode bits ≡ Some (Run count long) → run_head long + 8 * count ≤ length bits
unfolding code_length
ahead_run mode count true bits is = ahead_there mode (Run count true) bits is
ahead_run mode count false bits is = ahead_there mode (Run count false) bits is

-- One byte more.
pub bytes_put : (a b d : List Element) (bits rest : List Bool) (count byte : ℕ) → 1 ≤ count → byte ≡ number_after 0 (take 8 bits) → rest ≡ drop 8 bits
    → b ≡ a ++ element.Byte byte ∷ [] → d ≡ b ++ bytes_as_elements (bytes_in (count - 1) rest) → d ≡ a ++ bytes_as_elements (bytes_in count bits)
unfolding bytes_in bytes_as_elements
bytes_put a b d bits rest zero byte some is rest_is first more = absurd (omega arith)
bytes_put a b d bits rest (suc count) byte some is rest_is first more =
    let less : suc count - 1 ≡ count = omega arith in
    more ∙ ap (λ (k : ℕ). b ++ bytes_as_elements (bytes_in k rest)) less ∙ ap (λ (es : List Element). es ++ bytes_as_elements (bytes_in count rest)) first
    ∙ append_assoc a (element.Byte byte ∷ []) (bytes_as_elements (bytes_in count rest))
    ∙ ap (λ (n : ℕ). a ++ element.Byte n ∷ bytes_as_elements (bytes_in count rest)) is
    ∙ ap (λ (xs : List Bool). a ++ element.Byte (number_after 0 (take 8 bits)) ∷ bytes_as_elements (bytes_in count xs)) rest_is

-- The reading begins.
pub reading_begins : (width : ℕ) (bits : List Bool) → OnReading width bits 0 Upper []
reading_begins width bits = record {
  within = omega arith;
  reads = λ more reads. reads;
  stops = λ place stops. subst (λ (n : ℕ). HasNoCodeAt width Upper bits n) (let e : place ≡ 0 + place = omega arith in e) stops;
}

-- The reading ends.
pub reading_ends : (width : ℕ) (bits : List Bool) (at : ℕ) (mode : Mode) (elements : List Element) → OnReading width bits at mode elements → fills width (drop at bits) ≡ true
    → Reads width Upper bits elements
reading_ends width bits at mode elements on full = subst (λ (es : List Element). Reads width Upper bits es) (append-nil elements) (on.reads [] (ends full))

-- The reading stops.
pub reading_stops : (width : ℕ) (bits : List Bool) (at : ℕ) (mode : Mode) (elements : List Element) → OnReading width bits at mode elements → fills width (drop at bits) ≡ false
    → code_ahead mode (drop at bits) ≡ None → HasNoCodeAt width Upper bits at
reading_stops width bits at mode elements on going none =
    subst (λ (n : ℕ). HasNoCodeAt width Upper bits n) (let e : at + 0 ≡ at = omega arith in e) (on.stops 0 (here going no_entry))
  where
    no_entry : NoEntry mode (drop at bits)
    no_entry code front back spelled next entry splits =
        let is : Some code ≡ None = sym (entry_ahead back entry) ∙ ap (code_ahead mode) (sym splits) ∙ none in cc

-- One code further.
pub reading_steps : (width : ℕ) (bits : List Bool) (at further : ℕ) (mode next : Mode) (code : Code) (elements more : List Element) → OnReading width bits at mode elements
    → fills width (drop at bits) ≡ false → code_ahead mode (drop at bits) ≡ Some code → more ≡ elements ++ spelled_ahead mode code (drop at bits)
    → further ≡ at + code_length mode code → next ≡ code_next mode code → OnReading width bits further next more
reading_steps width bits at further mode next code elements more on going is more_is further_is next_is =
    let found = code_found mode code (drop at bits) is in
    let size : length found.front ≡ code_length mode code = entry_len found.entry in
    let rest_is : found.rest ≡ drop further bits =
    sym (drop_at found.front found.rest (code_length mode code) size) ∙ ap (drop (code_length mode code)) (sym found.splits) ∙ drop-drop (code_length mode code) at bits
    ∙ ap (λ (n : ℕ). drop n bits) (sym further_is) in
    let still : fills width (found.front ++ found.rest) ≡ false = ap (fills width) (sym found.splits) ∙ going in
    let entry : Entry mode code found.front (spelled_ahead mode code (drop at bits)) next = subst (λ (m : Mode). Entry mode code found.front (spelled_ahead mode code (drop at bits)) m) (sym next_is) found.entry in
    record {
      within = omega (arith, further_is, size, on.within, length-drop at bits, ap length found.splits, length-append found.front found.rest);
      reads = λ es reads.
          subst (λ (xs : List Element). Reads width Upper bits xs)
          (sym (append_assoc elements (spelled_ahead mode code (drop at bits)) es) ∙ ap (λ (xs : List Element). xs ++ es) (sym more_is))
          (on.reads (spelled_ahead mode code (drop at bits) ++ es)
          (subst (λ (xs : List Bool). Reads width mode xs (spelled_ahead mode code (drop at bits) ++ es)) (sym found.splits)
          (onward still entry (subst (λ (xs : List Bool). Reads width next xs es) (sym rest_is) reads))));
      stops = λ place stops.
          subst (λ (n : ℕ). HasNoCodeAt width Upper bits n) (let e : at + (length found.front + place) ≡ further + place = omega (arith, further_is, size) in e)
          (on.stops (length found.front + place)
          (subst (λ (xs : List Bool). HasNoCodeAt width mode xs (length found.front + place)) (sym found.splits)
          (later still entry (subst (λ (xs : List Bool). HasNoCodeAt width next xs place) (sym rest_is) stops))));
    }

-- It goes on.
pub reading_lessens : (bits : List Bool) (at further : ℕ) (mode : Mode) (code : Code) → code_ahead mode (drop at bits) ≡ Some code → at ≤ length bits → further ≡ at + code_length mode code
    → length bits - further < length bits - at
reading_lessens bits at further mode code is within further_is =
    omega (arith, ahead_there mode code (drop at bits) is, length-drop at bits, cost_positive mode code, further_is, within)
