-- Elements split into a message.
use Rattle.std.proofs.Common.{◌≡◌, ℕ, zero, suc, ◌+◌, ◌-◌, ◌<◌, ◌≤◌, inl, inr, Bool, true, false, List, [], ◌∷◌, ◌++◌, length, take, drop, refl, sym, ap, subst, ◌∙◌, arith}
use Rattle.std.specs.Prelude.{Option, Some, None, is_some, IfSome, Result, Ok, Err, IfOk, IfErr}
use Rattle.aztec_modes.proofs.FilledReadings.{reading_once}
use Rattle.std.proofs.lemmas.List.{append_assoc, take-append-drop, length-append, length-drop, length-take-le}
use Rattle.bar_base.specs.Bits.{to_bits, number_after}
use Rattle.bar_base.specs.declared.element.Element.{Element}
use Rattle.bar_base.specs.declared.message.Append.{Append}
use Rattle.bar_base.specs.declared.message.Message.{Message}
use Rattle.aztec_modes.specs.declared.reading.ReadFault.{ReadFault}
use Rattle.aztec_modes.specs.declared.reading.ReadFault.TheVariants.{BadSpelling, NoMemory}
use Rattle.aztec_modes.specs.declared.mode.Mode.TheVariants.{Upper}
use Rattle.aztec_modes.specs.Entry.{bytes_as_elements}
use Rattle.aztec_modes.specs.Message.{header_elements, header_bytes, identifier_bytes, gs1_elements, eci_elements, message_elements}
use Rattle.aztec_modes.specs.Reading.{IsHeader, NoHeader, SplitsSo, IsProper, IsReading, IsRefusal, IsNoHeader, IsBadAt, IsStop, HasNoHeader, Reads, HasNoCodeAt}
use Rattle.aztec_modes.specs.Spelling.{append_mark, IsMarked}
use Rattle.aztec_modes.specs.Split.{header_in, header_length}
use Rattle.aztec_modes.proofs.AheadFound.{to_bits-number}
use Rattle.aztec_modes.proofs.EntryLaws.{length-bytes_as_elements}
use Rattle.aztec_modes.proofs.ReadingOnce.{reads_once, stops_apart}
use Rattle.aztec_modes.proofs.SplitLaws.{HeaderHere, header_here, header_there}

-- THE MARK

mark_number : append_mark ≡ to_bits 10 957
unfolding append_mark to_bits
mark_number = refl

pub mark_here : (bits : List Bool) → 10 ≤ length bits → number_after 0 (take 10 (drop 0 bits)) ≡ 957 → IsMarked bits
mark_here bits long is =
    let front : take 10 bits ≡ append_mark =
    sym (to_bits-number (take 10 bits)) ∙ ap (λ (w : ℕ). to_bits w (number_after 0 (take 10 bits))) (length-take-le 10 bits long) ∙ ap (to_bits 10) is ∙ sym mark_number in
    (drop 10 bits, sym (take-append-drop 10 bits) ∙ ap (λ (xs : List Bool). xs ++ drop 10 bits) front)

mark_front : (rest : List Bool) → (number_after 0 (take 10 (append_mark ++ rest)) ≡ 957) × (10 ≤ length (append_mark ++ rest))
unfolding append_mark number_after
mark_front rest = (refl, omega arith)

pub mark_value : (bits : List Bool) → IsMarked bits → number_after 0 (take 10 (drop 0 bits)) ≡ 957
mark_value bits (rest, is) = ap (λ (xs : List Bool). number_after 0 (take 10 xs)) is ∙ (mark_front rest).0

pub mark_long : (bits : List Bool) → IsMarked bits → 10 ≤ length bits
mark_long bits (rest, is) = omega (arith, ap length is, (mark_front rest).1)

-- THE SPLIT

-- What a split is to say: the elements, whether there is a header, and that the parts can be told.
pub plain_split : (es : List Element) (message : Message) → message.append ≡ None → SplitsSo message es
    → (message_elements message ≡ es) × (is_some message.append ≡ false) × IsProper message
unfolding message_elements header_elements
plain_split es message none split = (
  ap (λ (a : Option Append). header_elements a ++ (gs1_elements message.gs1 ++ (eci_elements message.eci ++ message.body))) none ∙ sym split.whole,
  ap is_some none,
  record { header = subst (λ (a : Option Append). IfSome a IsHeader) (sym none) tt; gs1 = split.gs1; eci = split.eci },
)

pub header_split : (es : List Element) (append : Append) (message : Message) → header_in es ≡ Some append → message.append ≡ Some append
    → SplitsSo message (drop (header_length append.id) es) → (message_elements message ≡ es) × (is_some message.append ≡ true) × IsProper message
unfolding message_elements
header_split es append message found is split =
    let here = header_here es append found in (
      ap (λ (a : Option Append). header_elements a ++ (gs1_elements message.gs1 ++ (eci_elements message.eci ++ message.body))) is
          ∙ ap (λ (xs : List Element). header_elements (Some append) ++ xs) (sym split.whole) ∙ sym here.splits,
      ap is_some is,
      record { header = subst (λ (a : Option Append). IfSome a IsHeader) (sym is) here.header; gs1 = split.gs1; eci = split.eci },
    )

pub no_header : (es : List Element) → header_in es ≡ None → NoHeader es
no_header es none append rest header is = let e : None ≡ Some append = sym none ∙ header_there append rest es header is in cc

length-header : (i c : ℕ) (id : List ℕ) → length (header_elements (Some (record { index = i; count = c; id = id }))) ≡ header_length id
unfolding header_elements header_bytes identifier_bytes header_length
length-header i c [] = length-bytes_as_elements ((64 + i) ∷ (64 + c) ∷ [])
length-header i c (a ∷ id) =
    length-bytes_as_elements ((32 ∷ (a ∷ id) ++ 32 ∷ []) ++ (64 + i) ∷ (64 + c) ∷ [])
    ∙ (let e : length ((32 ∷ (a ∷ id) ++ 32 ∷ []) ++ (64 + i) ∷ (64 + c) ∷ []) ≡ length (a ∷ id) + 4 =
    omega (arith, length-append (32 ∷ (a ∷ id) ++ 32 ∷ []) ((64 + i) ∷ (64 + c) ∷ []), length-append (32 ∷ a ∷ id) (32 ∷ [])) in e)

pub header_within : (es : List Element) (append : Append) → header_in es ≡ Some append → header_length append.id ≤ length es
header_within es append found =
    let here = header_here es append found in
    omega (arith, ap length here.splits, length-append (header_elements (Some append)) (drop (header_length append.id) es), length-header append.index append.count append.id)

-- THE WHOLE

-- The elements of a reading, split.
pub reading_made : (width : ℕ) (bits : List Bool) (es : List Element) (marked : Bool) (message : Message) → Reads width Upper bits es
    → (marked ≡ true → IsMarked bits) → (marked ≡ false → IsMarked bits → ⊥)
    → (message_elements message ≡ es) × (is_some message.append ≡ marked) × IsProper message → IsReading width bits message
reading_made width bits es marked message reads is_so is_not (whole, kind, proper) = record {
  reads = subst (λ (xs : List Element). Reads width Upper bits xs) (sym whole) reads;
  marked = λ is. is_so (sym kind ∙ is);
  unmarked = λ is. is_not (sym kind ∙ is);
  proper = proper;
}

pub refusal_made : (width : ℕ) (bits : List Bool) (es : List Element) (marked : Bool) (fault : ReadFault) → Reads width Upper bits es
    → (marked ≡ true → IsMarked bits) → IsNoHeader marked es fault → IsRefusal width bits fault
refusal_made width bits es marked NoMemory reads is_so none = tt
refusal_made width bits es marked (BadSpelling place) reads is_so (at, is, none) = inr (at, record { elements = es; reads = reads; marked = is_so is; none = none })

pub refusal_passed : (width : ℕ) (bits : List Bool) (fault : ReadFault) → IsStop width bits fault → IsRefusal width bits fault
refusal_passed width bits NoMemory stop = tt
refusal_passed width bits (BadSpelling place) stop = inl stop

-- No place keeps bits that are read from being read.
pub bad_apart : (width : ℕ) (bits : List Bool) (place : ℕ) (message : Message) → IsBadAt width bits place → IsReading width bits message → ⊥
unfolding message_elements
bad_apart width bits place message (inl stops) reading = stops_apart width stops reading.reads
bad_apart width bits place message (inr (at, none)) reading = by_append message.append refl reading.proper.header (λ is. reading.unmarked is none.marked)
  where
    by_append : (append : Option Append) → message.append ≡ append → IfSome append IsHeader → (is_some append ≡ false → ⊥) → ⊥
    by_append None is header some = some refl
    by_append (Some a) is header some =
        none.none a (gs1_elements message.gs1 ++ (eci_elements message.eci ++ message.body)) header
        (reads_once width none.reads reading.reads ∙ ap (λ (x : Option Append). header_elements x ++ (gs1_elements message.gs1 ++ (eci_elements message.eci ++ message.body))) is)

pub refused_apart : (width : ℕ) (bits : List Bool) (fault : ReadFault) (message : Message) → IsRefusal width bits fault → IsReading width bits message → fault ≡ NoMemory
refused_apart width bits NoMemory message refusal reading = refl
refused_apart width bits (BadSpelling place) message refusal reading = absurd (bad_apart width bits place message refusal reading)

pub only_made : (width : ℕ) (bits : List Bool) (es : List Element) (marked : Bool) (result : Result Message ReadFault) → Reads width Upper bits es
    → (marked ≡ true → IsMarked bits) → (marked ≡ false → IsMarked bits → ⊥)
    → IfOk result (λ message. (message_elements message ≡ es) × (is_some message.append ≡ marked) × IsProper message)
    → IfOk result (λ message. (other : Message) → IsReading width bits other → other ≡ message)
only_made width bits es marked (Ok message) reads is_so is_not split = λ other reading.
    reading_once width bits other message reading (reading_made width bits es marked message reads is_so is_not split)
only_made width bits es marked (Err fault) reads is_so is_not split = tt

pub none_made : (width : ℕ) (bits : List Bool) (es : List Element) (marked : Bool) (result : Result Message ReadFault) → Reads width Upper bits es
    → (marked ≡ true → IsMarked bits) → IfErr result (IsNoHeader marked es)
    → IfErr result (λ fault. (other : Message) → IsReading width bits other → fault ≡ NoMemory)
none_made width bits es marked (Ok message) reads is_so refused = tt
none_made width bits es marked (Err fault) reads is_so refused = λ other reading.
    refused_apart width bits fault other (refusal_made width bits es marked fault reads is_so refused) reading

-- The kind as a caller has it.
pub split_kind : (es : List Element) (message : Message) {b marked : Bool} → b ≡ marked
    → (message_elements message ≡ es) × (is_some message.append ≡ b) × IsProper message → (message_elements message ≡ es) × (is_some message.append ≡ marked) × IsProper message
split_kind es message same (whole, kind, proper) = (whole, kind ∙ same, proper)
