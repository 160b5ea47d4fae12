-- A spelling of a message, filled with ones, reads as the message and as no other.
use Rattle.std.proofs.Common.{◌≡◌, ℕ, zero, suc, ◌+◌, ◌<◌, ◌≤◌, Bool, true, false, List, [], ◌∷◌, ◌++◌, length, refl, sym, ap, subst, ◌∙◌, arith}
use Rattle.std.specs.Prelude.{Option, Some, None, is_some, IfSome, replicate}
use Rattle.std.proofs.lemmas.List.{append_assoc}
use Rattle.bar_base.specs.declared.element.Element.{Element}
use Rattle.bar_base.specs.declared.message.Append.{Append}
use Rattle.bar_base.specs.declared.message.Message.{Message}
use Rattle.aztec_modes.specs.declared.mode.Mode.{Mode}
use Rattle.aztec_modes.specs.declared.mode.Mode.TheVariants.{Upper, Mixed}
use Rattle.aztec_modes.specs.declared.code.Code.{Code}
use Rattle.aztec_modes.specs.declared.code.Code.TheVariants.{Latch}
use Rattle.aztec_modes.specs.Codes.{number_bits, mode_width, table_symbol, code_table}
use Rattle.bar_base.specs.Bits.{to_bits}
use Rattle.aztec_modes.specs.Entry.{Entry}
use Rattle.aztec_modes.proofs.Forms.{latch, entry_of}
use Rattle.aztec_modes.specs.Message.{message_elements, SpellsMessage}
use Rattle.aztec_modes.specs.Spelling.{Spells, nothing, onward, append_mark, IsMarked, IsSpelling}
use Rattle.aztec_modes.specs.Reading.{all_ones, fills, Reads, IsProper, IsReading}
use Rattle.aztec_modes.proofs.Marks.{append_mark-codes}
use Rattle.aztec_modes.proofs.OneReading.{one_reading}
use Rattle.aztec_modes.proofs.ReadingLaws.{spelling_reads, all_ones-front, all_ones-replicate}
use Rattle.aztec_modes.proofs.ReadingOnce.{reads_once}
use Rattle.aztec_modes.proofs.ProperMessages.{proper_once}

-- Neither latch of the mark is all ones.
no_upper : (rest : List Bool) (n : ℕ) → replicate n true ≡ number_bits Upper 29 ++ rest → ⊥
unfolding all_ones number_bits mode_width to_bits
no_upper rest n is =
    let e : all_ones (number_bits Upper 29) ≡ true = all_ones-front (number_bits Upper 29) rest (ap all_ones (sym is) ∙ all_ones-replicate n) in cc

no_mixed : (rest : List Bool) (n : ℕ) → replicate n true ≡ number_bits Mixed 29 ++ rest → ⊥
unfolding all_ones number_bits mode_width to_bits
no_mixed rest n is =
    let e : all_ones (number_bits Mixed 29) ≡ true = all_ones-front (number_bits Mixed 29) rest (ap all_ones (sym is) ∙ all_ones-replicate n) in cc

mark_first : Entry Upper (Latch Mixed) (number_bits Upper 29) [] Mixed
unfolding table_symbol code_table
mark_first = entry_of (latch 29 refl)

mark_second : Entry Mixed (Latch Upper) (number_bits Mixed 29) [] Upper
unfolding table_symbol code_table
mark_second = entry_of (latch 29 refl)

-- A spelling from Mixed that goes on with the second latch of the mark where it is filled does so by itself.
second_marked : (n : ℕ) (back : List Bool) {mode : Mode} {codes : List Code} {bits : List Bool} {elements : List Element} → Spells mode codes bits elements
    → mode ≡ Mixed → bits ++ replicate n true ≡ number_bits Mixed 29 ++ back → (rest : List Bool) × (bits ≡ number_bits Mixed 29 ++ rest)
second_marked n back nothing is same = absurd (no_mixed back n same)
second_marked n back (onward {mode = mode} {next = next} {code = code} {bits = first} {rest = rest} {spelled = spelled} entry spells) is same =
    let alike = one_reading (rest ++ replicate n true) back (subst (λ (m : Mode). Entry m code first spelled next) is entry) mark_second (sym (append_assoc first rest (replicate n true)) ∙ same) in
    (rest, ap (λ (xs : List Bool). xs ++ rest) alike.1)

first_marked : (n : ℕ) (back : List Bool) {mode : Mode} {codes : List Code} {bits : List Bool} {elements : List Element} → Spells mode codes bits elements
    → mode ≡ Upper → bits ++ replicate n true ≡ number_bits Upper 29 ++ (number_bits Mixed 29 ++ back) → (rest : List Bool) × (bits ≡ number_bits Upper 29 ++ (number_bits Mixed 29 ++ rest))
first_marked n back nothing is same = absurd (no_upper (number_bits Mixed 29 ++ back) n same)
first_marked n back (onward {mode = mode} {next = next} {code = code} {bits = first} {rest = rest} {spelled = spelled} entry spells) is same =
    let alike = one_reading (rest ++ replicate n true) (number_bits Mixed 29 ++ back) (subst (λ (m : Mode). Entry m code first spelled next) is entry) mark_first
    (sym (append_assoc first rest (replicate n true)) ∙ same) in
    let more = second_marked n back spells alike.3 alike.4 in
    (more.0, ap (λ (xs : List Bool). xs ++ rest) alike.1 ∙ ap (λ (xs : List Bool). number_bits Upper 29 ++ xs) more.1)

mark_split : (rest : List Bool) → append_mark ++ rest ≡ number_bits Upper 29 ++ (number_bits Mixed 29 ++ rest)
mark_split rest = ap (λ (xs : List Bool). xs ++ rest) append_mark-codes ∙ append_assoc (number_bits Upper 29) (number_bits Mixed 29) rest

-- A spelling begins with the mark where it does so filled.
pub marked_filled : (n : ℕ) {codes : List Code} {bits : List Bool} {elements : List Element} → Spells Upper codes bits elements
    → IsMarked (bits ++ replicate n true) → IsMarked bits
marked_filled n spells (back, is) =
    let found = first_marked n back spells refl (is ∙ mark_split back) in
    (found.0, found.1 ∙ sym (mark_split found.0))

-- A spelling of a proper message, filled with fewer ones than a codeword has bits, reads as the message.
pub message_reads : (width : ℕ) → width ≤ 18 → (ones : ℕ) → ones < width → (message : Message) (bits : List Bool) → IsProper message
    → SpellsMessage message bits → IsReading width (bits ++ replicate ones true) message
message_reads width small ones few message bits proper spells = by_kind (is_some message.append) refl spells
  where
    by_kind : (b : Bool) → is_some message.append ≡ b → IsSpelling b (message_elements message) bits → IsReading width (bits ++ replicate ones true) message
    by_kind false is ((codes, spelled), unmarked) = record {
      reads = spelling_reads width small ones few spelled;
      marked = λ h. absurd (cc);
      unmarked = λ _ marked. unmarked (marked_filled ones spelled marked);
      proper = proper;
    }
    by_kind true is (rest, splits, (codes, spelled)) = record {
      reads = subst (λ (xs : List Bool). Reads width Upper (xs ++ replicate ones true) (message_elements message)) (sym (splits ∙ mark_split rest))
          (spelling_reads width small ones few (onward mark_first (onward mark_second spelled)));
      marked = λ _. (rest ++ replicate ones true, ap (λ (xs : List Bool). xs ++ replicate ones true) splits ∙ append_assoc append_mark rest (replicate ones true));
      unmarked = λ h. absurd (cc);
      proper = proper;
    }

-- Bits read as one message.
pub reading_once : (width : ℕ) (bits : List Bool) (message message' : Message) → IsReading width bits message → IsReading width bits message' → message ≡ message'
reading_once width bits message message' former latter =
    proper_once message message' former.proper latter.proper (alike (is_some message.append) (is_some message'.append) refl refl)
    (reads_once width former.reads latter.reads)
  where
    alike : (b b' : Bool) → is_some message.append ≡ b → is_some message'.append ≡ b' → is_some message.append ≡ is_some message'.append
    alike true true is is' = is ∙ sym is'
    alike false false is is' = is ∙ sym is'
    alike true false is is' = absurd (latter.unmarked is' (former.marked is))
    alike false true is is' = absurd (former.unmarked is (latter.marked is'))
