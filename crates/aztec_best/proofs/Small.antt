-- Costs are small: no spelling that the table speaks of has a million bits.
use Rattle.std.proofs.Common.{◌≡◌, ◌∙◌, ℕ, zero, suc, ◌+◌, ◌-◌, ◌*◌, ◌≤◌, ◌<◌, List, [], ◌∷◌, Bool, false, ◌++◌, drop, length, replicate, get_or, All, refl, sym, subst, ap, arith}
use Rattle.std.proofs.lemmas.List.{length-append, length-drop, length-replicate}
use Rattle.std.proofs.lemmas.List.Elements.{All-drop, All-head, All-tail}
use Rattle.bar_base.specs.Elements.{IsElement}
use Rattle.bar_base.specs.declared.element.Element.{Element}
use Rattle.aztec_modes.specs.declared.mode.Mode.{Mode}
use Rattle.aztec_modes.specs.declared.mode.Mode.TheVariants.{Upper, Lower, Mixed, Punct, Digit}
use Rattle.aztec_modes.specs.declared.code.Code.{Code}
use Rattle.aztec_modes.specs.Codes.{mode_width}
use Rattle.aztec_modes.specs.Entry.{SpellsFront, code_count, code_length, code_next, flag_width}
use Rattle.aztec_modes.proofs.Forms.{latch, plain, shift, fnc1, eci, short_run, long_run, Form, form_of}
use Rattle.aztec_modes.specs.Spelling.{Spells, nothing, onward}
use Rattle.aztec_modes.specs.declared.code.Code.TheVariants.{Fnc1, Eci, Run}
use Rattle.bar_base.specs.declared.element.Element.TheVariants as element
use Rattle.aztec_modes.proofs.SpelledAlone.{byte_alone, fnc1_alone, eci_alone}
use Rattle.aztec_best.specs.declared.costs.Costs.{Costs}
use Rattle.aztec_best.specs.Latches.{latch_bits}
use Rattle.aztec_best.specs.Shortest.{IsLeast}
use Rattle.aztec_best.specs.Bench.{mode_cost, no_costs, kept_cost, kept_bytes, padded, IsFilledFrom}
use Rattle.aztec_modes.proofs.EntryLaws.{entry_spelled}
use Rattle.aztec_best.proofs.LatchLaws.{leads, latch_bits-upper, Leads}

-- elements can be spelled from Upper in at most 37 bits each
pub spellable : (es : List Element) → All IsElement es → (codes : List Code) × (bits : List Bool) × Spells Upper codes bits es × (length bits ≤ 37 * length es)
spellable [] valid = ([], [], nothing, omega arith)
spellable (element.Byte byte ∷ es) valid =
    let (bits, entry, few) = byte_alone byte (All-head IsElement (element.Byte byte) es valid) in
    let (codes, more, spells, fewer) = spellable es (All-tail IsElement (element.Byte byte) es valid) in
    (Run 1 false ∷ codes, bits ++ more, onward entry spells, omega (arith, length-append bits more))
spellable (element.Eci number ∷ es) valid =
    let (bits, entry, few) = eci_alone number (All-head IsElement (element.Eci number) es valid) in
    let (codes, more, spells, fewer) = spellable es (All-tail IsElement (element.Eci number) es valid) in
    (Eci number 6 ∷ codes, bits ++ more, onward entry spells, omega (arith, length-append bits more))
spellable (element.Fnc1 ∷ es) valid =
    let (bits, entry, few) = fnc1_alone in
    let (codes, more, spells, fewer) = spellable es (All-tail IsElement element.Fnc1 es valid) in
    (Fnc1 ∷ codes, bits ++ more, onward entry spells, omega (arith, length-append bits more))

-- and from any mode in at most nine more
pub spelled_from : (m : Mode) (es : List Element) → All IsElement es
    → (codes : List Code) × (bits : List Bool) × Spells m codes bits es × (length bits ≤ 37 * length es + 9)
spelled_from m es valid =
    let (codes, bits, spells, few) = spellable es valid in
    let way : Leads m Upper (latch_bits m Upper) = leads m Upper in (
      way.codes ++ codes,
      way.bits ++ bits,
      way.spells codes bits es spells,
      omega (arith, length-append way.bits bits, way.counted, latch_bits-upper m),
    )

pub least_bound : (m : Mode) (es : List Element) (n : ℕ) → All IsElement es → IsLeast m es n → n ≤ 37 * length es + 9
least_bound m es n valid least =
    let (codes, bits, spells, few) = spelled_from m es valid in
    omega (arith, least.least bits (codes, spells))

width_small : (m : Mode) → mode_width m ≤ 5
unfolding mode_width
width_small Upper = omega arith
width_small Lower = omega arith
width_small Mixed = omega arith
width_small Punct = omega arith
width_small Digit = omega arith

flag_small : (m : Mode) → flag_width m ≤ 13
unfolding flag_width mode_width
flag_small Upper = omega arith
flag_small Lower = omega arith
flag_small Mixed = omega arith
flag_small Punct = omega arith
flag_small Digit = omega arith

-- a code has few bits for what it spells
pub form_small : {m next : Mode} {code : Code} {bits : List Bool} {spelled : List Element} → Form m code bits spelled next
    → code_length m code ≤ 37 + 8 * code_count m code
unfolding code_length code_count
form_small {m = m} (latch number is) = omega (arith, width_small m)
form_small {m = m} (plain is) = omega (arith, width_small m)
form_small {m = m} (shift {to = to} number is data_is) = omega (arith, width_small m, width_small to)
form_small {m = m} (fnc1 flag) = omega (arith, flag_small m)
form_small {m = m} (eci flag low high fits) = omega (arith, flag_small m)
form_small (short_run number bytes is size low high ok) = omega arith
form_small (long_run number bytes is size low high ok) = omega arith

-- what the table keeps for a place of the elements
pub cost_small : (table : List Costs) (es : List Element) (from place : ℕ) (m : Mode) → IsFilledFrom table es from → All IsElement es
    → from ≤ place → place ≤ length es → kept_cost table place m ≤ 303113
cost_small table es from place m filled valid late within =
    omega (arith, least_bound m (drop place es) (kept_cost table place m) (All-drop IsElement place es valid) (filled.least place m late within), length-drop place es, filled.fits)

-- what a standing code spells fits the elements
pub stands_within : (m : Mode) (code : Code) (es : List Element) (place : ℕ) → SpellsFront m code (drop place es) → place ≤ length es
    → place + code_count m code ≤ length es
stands_within m code es place stands within =
    omega (arith, entry_spelled stands.entry, ap length stands.splits, length-append stands.spelled stands.rest, length-drop place es)

pub through_small : (table : List Costs) (es : List Element) (place : ℕ) (m : Mode) (code : Code)
    → SpellsFront m code (drop place es) → IsFilledFrom table es (place + code_count m code) → All IsElement es → place ≤ length es
    → (place + code_count m code < 8193) × (code_length m code ≤ 65573) × (kept_cost table (place + code_count m code) (code_next m code) ≤ 303113)
through_small table es place m code stands filled valid within =
    let inside : place + code_count m code ≤ length es = stands_within m code es place stands within in (
      omega (arith, filled.fits),
      omega (arith, form_small (form_of stands.entry), filled.fits),
      cost_small table es (place + code_count m code) (place + code_count m code) (code_next m code) filled valid (omega arith) inside,
    )

-- what holds from a place on holds from a later one on
pub filled_later : (table : List Costs) (es : List Element) (from later : ℕ) → from ≤ later → IsFilledFrom table es from → IsFilledFrom table es later
filled_later table es from later late filled = record {
  fits = filled.fits;
  least = λ place m at_least within. filled.least place m (omega arith) within;
  counted = λ place at_least within. filled.counted place (omega arith) within;
}

pub valid_rest : (es : List Element) (place : ℕ) → All IsElement es → All IsElement (drop place es)
valid_rest es place valid = All-drop IsElement place es valid

pub filled_through : (table : List Costs) (es : List Element) (place : ℕ) → IsFilledFrom table es 0 → IsFilledFrom table es place
filled_through table es place filled = filled_later table es 0 place (omega arith) filled

-- what is kept in the front of a table is kept in the table
kept-padded : (rows : List Costs) (n place : ℕ) → get_or (rows ++ replicate n no_costs) place no_costs ≡ get_or rows place no_costs
kept-padded [] zero place = refl
kept-padded [] (suc n) zero = refl
kept-padded [] (suc n) (suc place) = kept-padded [] n place
kept-padded (row ∷ rows) n zero = refl
kept-padded (row ∷ rows) n (suc place) = kept-padded rows n place

pub kept_cost-padded : (rows : List Costs) (place : ℕ) (m : Mode) → kept_cost (padded rows) place m ≡ kept_cost rows place m
unfolding kept_cost padded
kept_cost-padded rows place m = ap (λ (c : Costs). mode_cost c m) (kept-padded rows (8193 - length rows) place)

pub kept_bytes-padded : (rows : List Costs) (place : ℕ) → kept_bytes (padded rows) place ≡ kept_bytes rows place
unfolding kept_bytes padded
kept_bytes-padded rows place = ap (λ (c : Costs). c.bytes) (kept-padded rows (8193 - length rows) place)

pub filled_padded : (rows : List Costs) (es : List Element) (from : ℕ) → IsFilledFrom rows es from → IsFilledFrom (padded rows) es from
filled_padded rows es from filled = record {
  fits = filled.fits;
  least = λ place m late inside. subst (λ (n : ℕ). IsLeast m (drop place es) n) (sym (kept_cost-padded rows place m)) (filled.least place m late inside);
  counted = λ place late inside. kept_bytes-padded rows place ∙ filled.counted place late inside;
}

pub filled_rows : (rows table : List Costs) (es : List Element) (from : ℕ) → padded rows ≡ table → IsFilledFrom table es from → IsFilledFrom rows es from
filled_rows rows table es from is whole =
    let filled : IsFilledFrom (padded rows) es from = subst (λ (t : List Costs). IsFilledFrom t es from) (sym is) whole in
    record {
      fits = filled.fits;
      least = λ place m late inside. subst (λ (n : ℕ). IsLeast m (drop place es) n) (kept_cost-padded rows place m) (filled.least place m late inside);
      counted = λ place late inside. sym (kept_bytes-padded rows place) ∙ filled.counted place late inside;
    }

pub length-padded : (rows : List Costs) → length rows ≤ 8193 → length (padded rows) ≡ 8193
unfolding padded
length-padded rows few =
    length-append rows (replicate (8193 - length rows) no_costs)
    ∙ (let e : length rows + length (replicate (8193 - length rows) no_costs) ≡ 8193 = omega (arith, length-replicate (8193 - length rows) no_costs) in e)
