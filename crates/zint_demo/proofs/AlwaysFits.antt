-- At most 1,500 bytes always fit: one run of bytes spells them, so the drawn spelling has no more bits than that, and the last size holds these.
use Rattle.std.proofs.Common.{◌≡◌, ℕ, ◌+◌, ◌*◌, ◌<◌, ◌≤◌, ◌⊎◌, Bool, true, false, cond, List, [], ◌∷◌, ◌++◌, None, length, refl, sym, ap, subst, inl, inr, length-append, append-nil, arith}
use Rattle.std.specs.Prelude.{All, replicate, if◌then◌else◌}
use Rattle.std.proofs.lemmas.Bool.{cases_lt}
use Rattle.std.proofs.lemmas.List.{length-replicate}
use Rattle.bar_base.specs.Bits.{to_bits}
use Rattle.bar_base.specs.declared.element.Element.{Element}
use Rattle.aztec_modes.specs.declared.code.Code.{Code}
use Rattle.aztec_modes.specs.declared.code.Code.TheVariants.{Run}
use Rattle.aztec_modes.specs.declared.mode.Mode.TheVariants.{Upper}
use Rattle.aztec_modes.specs.Codes.{code_table, mode_width, number_bits, table_symbol}
use Rattle.aztec_modes.specs.Entry.{Entry, bytes_as_elements, code_bits, code_length, code_next}
use Rattle.aztec_modes.specs.Spelling.{IsMarked, Spells, append_mark, nothing, onward}
use Rattle.aztec_modes.proofs.EntryLaws.{entry_len}
use Rattle.aztec_best.specs.Shortest.{IsDrawn, Precedes}
use Rattle.aztec_layout.specs.declared.allowed.Allowed.TheVariants.{AtShare}
use Rattle.aztec_layout.specs.declared.choice.NoFit.{NoFit as Misfit}
use Rattle.aztec_layout.specs.declared.sizes.Size.{Size}
use Rattle.aztec_layout.specs.Allowed.{ComesBefore, IsLast, allowed_of}
use Rattle.aztec_layout.specs.Sizes.{codeword_width, holds_of, side_of}
use Rattle.aztec_layout.specs.Stuffing.{IsStuffed, is_alike, taken, unstuffed}
use Rattle.aztec_layout.proofs.SizeLemmas.{side_few}
use Rattle.aztec_layout.proofs.StuffingLemmas.{length-taken}
use Rattle.aztec_draw.specs.Symbol.{HasNoSymbol}

-- one run of the bytes
run_entry : (bytes : List ℕ) (long : Bool) → All (λ byte. byte < 256) bytes → (if long then 31 else 1) ≤ length bytes → length bytes ≤ (if long then 2078 else 31)
    → Entry Upper (Run (length bytes) long) (code_bits Upper (Run (length bytes) long) (bytes_as_elements bytes)) (bytes_as_elements bytes) Upper
unfolding table_symbol code_table code_next
run_entry bytes true small some few = record {
  has = (refl, some, few);
  spells = (bytes, refl, refl, small);
  written = refl;
  leads = refl;
}
run_entry bytes false small some few = record {
  has = (refl, some, few);
  spells = (bytes, refl, refl, small);
  written = refl;
  leads = refl;
}

-- its bits do not begin with the mark of a set
unmarked : (count : ℕ) (long : Bool) (spelled : List Element) (rest : List Bool) → IsMarked (code_bits Upper (Run count long) spelled ++ rest) → ⊥
unfolding code_bits number_bits mode_width to_bits append_mark
unmarked count long spelled rest marked = let same = marked.1 in cc

-- A spelling of elements with at most so many bits.
record HasShort (elements : List Element) (count : ℕ) : Type 0 where
  codes : List Code
  bits : List Bool
  spelled : Spells Upper codes bits elements
  free : IsMarked bits → ⊥
  few : length bits ≤ count

short_run : (bytes : List ℕ) (long : Bool) → All (λ byte. byte < 256) bytes → (if long then 31 else 1) ≤ length bytes → length bytes ≤ (if long then 2078 else 31)
    → HasShort (bytes_as_elements bytes) (21 + 8 * length bytes)
unfolding code_length
short_run bytes long small some few =
    let entry = run_entry bytes long small some few in
    record {
      codes = Run (length bytes) long ∷ [];
      bits = code_bits Upper (Run (length bytes) long) (bytes_as_elements bytes) ++ [];
      spelled = subst (λ (es : List Element). Spells Upper (Run (length bytes) long ∷ []) (code_bits Upper (Run (length bytes) long) (bytes_as_elements bytes) ++ []) es)
          (append-nil (bytes_as_elements bytes)) (onward entry nothing);
      free = unmarked (length bytes) long (bytes_as_elements bytes) [];
      few = omega (arith, entry_len entry, length-append (code_bits Upper (Run (length bytes) long) (bytes_as_elements bytes)) [], head long);
    }
  where
    head : (long : Bool) → (if long then 21 else 10) ≤ 21
    head true = omega arith
    head false = omega arith

some_run : (bytes : List ℕ) → All (λ byte. byte < 256) bytes → 0 < length bytes → length bytes ≤ 1500 → HasShort (bytes_as_elements bytes) (21 + 8 * length bytes)
some_run bytes small some few = elim (cases_lt (length bytes) 31) [
  | inl short ↦ short_run bytes false small (omega (arith, some)) (omega (arith, short))
  | inr long ↦ short_run bytes true small (omega (arith, long)) (omega (arith, few))
]

precedes_few : (former latter : List Bool) → Precedes former latter → length former ≤ length latter
precedes_few former latter (inl less) = omega (arith, less)
precedes_few former latter (inr same) = omega (arith, same.0)

-- the drawn spelling of at most 1,500 bytes has at most 12,021 bits
drawn_few : (bytes : List ℕ) (bits : List Bool) → All (λ byte. byte < 256) bytes → 0 < length bytes → length bytes ≤ 1500 → IsDrawn false (bytes_as_elements bytes) bits
    → length bits ≤ 12021
drawn_few bytes bits small some few drawn =
    let run = some_run bytes small some few in
    omega (arith, few, run.few, precedes_few bits run.bits (drawn.first run.bits ((run.codes, run.spelled), run.free)))

at_least : (alike : Bool) → 11 ≤ cond alike 11 12
at_least true = omega arith
at_least false = omega arith

-- each codeword of 12 bits carries at least 11
unstuffed_long : (words : List ℕ) → 11 * length words ≤ length (unstuffed 12 words)
unstuffed_long [] = omega arith
unstuffed_long (w ∷ words) =
    omega (arith, length-append (taken 12 w) (unstuffed 12 words), length-taken 12 w (is_alike 12 w) refl, at_least (is_alike 12 w), unstuffed_long words)

stuffed_few : (bits : List Bool) (words : List ℕ) → IsStuffed 12 bits words → 11 * length words ≤ length bits + 11
stuffed_few bits words stuffed =
    omega (
      arith,
      unstuffed_long words,
      ap length stuffed.carried.whole,
      length-append bits (replicate stuffed.carried.ones true),
      length-replicate stuffed.carried.ones true,
      stuffed.carried.few,
    )

abbrev full_32 : Size
full_32 = record { full = true; layers = 32 }

-- the last size is the full one with 32 layers
last_is : (size : Size) → IsLast (AtShare 23) size → full_32 ≡ size
last_is size last = at (last.last full_32 (((let e : 1 ≤ 32 = omega arith in e), (let e : 32 ≤ 32 = omega arith in e)), tt))
  where
    at : (full_32 ≡ size) ⊎ ComesBefore full_32 size → full_32 ≡ size
    at (inl same) = same
    at (inr (inl below)) = let few : side_of size ≤ 151 = side_few size last.is_allowed.0 in absurd (omega (arith, below, few))
    at (inr (inr compact)) = let e : true ≡ false = compact.1 in absurd (cc)

-- so it holds the drawn spelling
pub always_fits : (bytes : List ℕ) (misfit : Misfit) → All (λ byte. byte < 256) bytes → 0 < length bytes → length bytes ≤ 1500
    → HasNoSymbol false (bytes_as_elements bytes) (allowed_of 23 None) misfit → ⊥
always_fits bytes misfit small some few none =
    let short : length none.spelling ≤ 12021 = drawn_few bytes none.spelling small some few none.drawn in
    let same : full_32 ≡ misfit.last = last_is misfit.last none.no_fit.last in
    let stuffed : IsStuffed 12 none.spelling none.no_fit.takes.words = stuffed_at misfit.last none.spelling none.no_fit.takes.words (sym same) none.no_fit.takes.stuffed in
    none.no_fit.none misfit.last none.no_fit.last.is_allowed
    (record {
      count = misfit.needed;
      takes = none.no_fit.takes;
      enough = subst (λ (s : Size). misfit.needed ≤ holds_of s 23) same
          (omega (arith, short, stuffed_few none.spelling none.no_fit.takes.words stuffed, none.no_fit.takes.counted));
    })
  where
    stuffed_at : (size : Size) (bits : List Bool) (words : List ℕ) → size ≡ full_32 → IsStuffed (codeword_width size) bits words → IsStuffed 12 bits words
    stuffed_at size bits words is stuffed = subst (λ (s : Size). IsStuffed (codeword_width s) bits words) is stuffed
