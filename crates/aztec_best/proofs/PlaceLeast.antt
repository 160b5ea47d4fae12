-- The least at a place: the fewest bits from each mode on, by latches and a code that spells something, are the fewest of any spelling.
use Rattle.std.proofs.Common.{◌≡◌, ◌⊎◌, inl, inr, ℕ, ◌+◌, ◌<◌, ◌≤◌, Bool, List, [], ◌∷◌, ◌++◌, length, drop, min, All, refl, sym, ap, subst, ◌∙◌, arith, drop_at}
use Rattle.std.proofs.lemmas.List.{length-append, length-drop, drop-drop}
use Rattle.bar_base.specs.Elements.{IsElement}
use Rattle.bar_base.specs.declared.element.Element.{Element}
use Rattle.aztec_modes.specs.declared.mode.Mode.{Mode}
use Rattle.aztec_modes.specs.declared.mode.Mode.TheVariants.{Upper, Lower, Mixed, Punct, Digit}
use Rattle.aztec_modes.specs.declared.code.Code.{Code}
use Rattle.aztec_modes.specs.declared.table.Symbol.{Symbol}
use Rattle.aztec_modes.specs.declared.table.Symbol.TheVariants.{Absent, One, Two, LatchTo, ShiftTo, Binary, Flag}
use Rattle.aztec_modes.specs.Codes.{table_symbol, mode_width}
use Rattle.aztec_modes.specs.Entry.{Entry, SpellsFront, bytes_as_elements, code_count, code_length, code_next, data_count}
use Rattle.aztec_modes.proofs.Forms.{latch, plain, shift, fnc1, eci, short_run, long_run, Form, form_of}
use Rattle.aztec_best.specs.Front.{bytes_ahead, front_of}
use Rattle.aztec_best.specs.Picks.{cost_through}
use Rattle.aztec_modes.specs.Spelling.{Spells, nothing, onward}
use Rattle.aztec_modes.proofs.EntryLaws.{entry_len, entry_spelled, length-number_bits}
use Rattle.aztec_best.specs.declared.costs.Costs.{Costs}
use Rattle.aztec_best.specs.declared.front.Front.{Front}
use Rattle.aztec_best.specs.declared.lows.Lows.{Lows}
use Rattle.aztec_best.specs.Latches.{latch_bits}
use Rattle.aztec_best.specs.Shortest.{IsLeast}
use Rattle.aztec_best.specs.Bench.{kept_cost, IsFilledFrom}
use Rattle.aztec_best.specs.Runs.{run_length, IsRunStart, AreRunStarts}
use Rattle.aztec_best.specs.Start.{data_start, start_in, settled}
use Rattle.aztec_best.proofs.DataLaws.{Reached, data_reached, data_bound, is_run}
use Rattle.aztec_best.proofs.RunLaws.{upper_reached, lower_reached, mixed_reached, no_run_in_punct, no_run_in_digit}
use Rattle.aztec_best.proofs.LatchLaws.{Leads, leads, latch_bits-same, latch_step}
use Rattle.aztec_best.proofs.Fronts.{bytes_ahead-bytes}
use Rattle.aztec_best.proofs.Small.{spelled_from, stands_within, valid_rest}

-- settling: what is settled is latches to some mode and what begins there
min_is : (a b c : ℕ) → c ≡ min a b → (c ≡ a) ⊎ (c ≡ b)
min_is a b c e = grind arith

pub settled_attained : (m : Mode) (f : Mode → ℕ) → (x : Mode) × (settled m f ≡ latch_bits m x + f x)
unfolding settled
settled_attained m f =
    elim (min_is (latch_bits m Upper + f Upper) _ _ refl) [
      | inl here ↦ (Upper, here)
      | inr after_upper ↦ elim (min_is (latch_bits m Lower + f Lower) _ _ refl) [
        | inl here ↦ (Lower, after_upper ∙ here)
        | inr after_lower ↦ elim (min_is (latch_bits m Mixed + f Mixed) _ _ refl) [
          | inl here ↦ (Mixed, after_upper ∙ after_lower ∙ here)
          | inr after_mixed ↦ elim (min_is (latch_bits m Punct + f Punct) (latch_bits m Digit + f Digit) _ refl) [
            | inl here ↦ (Punct, after_upper ∙ after_lower ∙ after_mixed ∙ here)
            | inr here ↦ (Digit, after_upper ∙ after_lower ∙ after_mixed ∙ here)
          ]
        ]
      ]
    ]

-- and it is at most latches to any mode and what begins there
pub settled_bound : (m x : Mode) (f : Mode → ℕ) → settled m f ≤ latch_bits m x + f x
unfolding settled
settled_bound m Upper f = omega arith
settled_bound m Lower f = omega arith
settled_bound m Mixed f = omega arith
settled_bound m Punct f = omega arith
settled_bound m Digit f = omega arith

-- what a standing code leaves of the elements
pub rest_is : {m next : Mode} {code : Code} {bits : List Bool} {spelled : List Element} (es rest : List Element) (place : ℕ)
    → Entry m code bits spelled next → drop place es ≡ spelled ++ rest → rest ≡ drop (place + code_count m code) es
rest_is {m = m} {code = code} {spelled = spelled} es rest place entry splits =
    sym (drop_at spelled rest (code_count m code) (entry_spelled entry)) ∙ sym (ap (drop (code_count m code)) splits) ∙ drop-drop (code_count m code) place es

-- a standing code, with the mode after it
pub stands_entry : {m : Mode} {code : Code} {es : List Element} (stands : SpellsFront m code es) → Entry m code stands.bits stands.spelled (code_next m code)
stands_entry {m = m} {code = code} stands = subst (λ (x : Mode). Entry m code stands.bits stands.spelled x) stands.entry.leads stands.entry

-- a standing code and the cheapest rest after it
pub through_reached : (table : List Costs) (es : List Element) (place : ℕ) (m : Mode) (code : Code) → SpellsFront m code (drop place es)
    → IsLeast (code_next m code) (drop (place + code_count m code) es) (kept_cost table (place + code_count m code) (code_next m code))
    → (codes : List Code) × (bits : List Bool) × Spells m codes bits (drop place es) × (length bits ≡ cost_through table place m code)
unfolding cost_through
through_reached table es place m code stands least =
    let (codes, bits, spells, counted) = least.reached in
    let after : Spells (code_next m code) codes bits stands.rest =
    subst (λ (xs : List Element). Spells (code_next m code) codes bits xs) (sym (rest_is es stands.rest place stands.entry stands.splits)) spells in (
      code ∷ codes,
      stands.bits ++ bits,
      subst (λ (xs : List Element). Spells m (code ∷ codes) (stands.bits ++ bits) xs) (sym stands.splits) (onward (stands_entry stands) after),
      omega (arith, length-append stands.bits bits, entry_len stands.entry),
    )

-- and any spelling that begins with an entry has at least the bits through its code
pub through_bound : {m next : Mode} {code : Code} {bits : List Bool} {spelled : List Element} (table : List Costs) (es rest : List Element) (place : ℕ)
    (codes : List Code) (more : List Bool) → Entry m code bits spelled next → drop place es ≡ spelled ++ rest → Spells next codes more rest
    → IsLeast (code_next m code) (drop (place + code_count m code) es) (kept_cost table (place + code_count m code) (code_next m code))
    → cost_through table place m code ≤ length (bits ++ more)
unfolding cost_through
through_bound {m = m} {next = next} {code = code} {bits = bits} table es rest place codes more entry splits spells least =
    let after : Spells (code_next m code) codes more (drop (place + code_count m code) es) =
    subst (λ (x : Mode). Spells x codes more (drop (place + code_count m code) es)) entry.leads
    (subst (λ (xs : List Element). Spells next codes more xs) (rest_is es rest place entry splits) spells) in
    omega (arith, length-append bits more, entry_len entry, least.least more (codes, after))

-- an entry is a latch, or spells something
pub record IsLatch (m : Mode) (bits : List Bool) (spelled : List Element) (next : Mode) : Type 0 where
  pub number : ℕ
  pub is : table_symbol m number ≡ LatchTo next
  pub counted : length bits ≡ mode_width m
  pub silent : spelled ≡ []

some_data : (k : Symbol) → 1 ≤ data_count k
unfolding data_count
some_data Absent = omega arith
some_data (One a) = omega arith
some_data (Two a b) = omega arith
some_data (LatchTo to) = omega arith
some_data (ShiftTo to) = omega arith
some_data Binary = omega arith
some_data Flag = omega arith

form_kinds : {m next : Mode} {code : Code} {bits : List Bool} {spelled : List Element} → Form m code bits spelled next
    → IsLatch m bits spelled next ⊎ (1 ≤ code_count m code)
unfolding code_count
form_kinds {m = m} (latch number is) = inl (record { number = number; is = is; counted = length-number_bits m number; silent = refl })
form_kinds {m = m} (plain {number = number} is) = inr (some_data (table_symbol m number))
form_kinds (shift {to = to} number {second = second} is data_is) = inr (some_data (table_symbol to second))
form_kinds (fnc1 flag) = inr (omega arith)
form_kinds (eci flag low high fits) = inr (omega arith)
form_kinds (short_run number bytes is size low high ok) = inr low
form_kinds (long_run number bytes is size low high ok) = inr (omega arith)

-- what begins with a run is at most the bits of each
module _ (table : List Costs) (place bytes : ℕ) (runs : Lows) (are : AreRunStarts table place bytes runs) where
  short_bound : (m : Mode) (number count : ℕ) → table_symbol m number ≡ Binary → (front : Front) → 1 ≤ count → count ≤ 31 → count ≤ bytes
      → start_in table place m front runs ≤ run_length table m place 10 count
  unfolding start_in
  short_bound Upper number count is front some few there = omega (arith, are.upper.short count some few there)
  short_bound Lower number count is front some few there = omega (arith, are.lower.short count some few there)
  short_bound Mixed number count is front some few there = omega (arith, are.mixed.short count some few there)
  short_bound Punct number count is front some few there = absurd (no_run_in_punct number is)
  short_bound Digit number count is front some few there = absurd (no_run_in_digit number is)

  long_bound : (m : Mode) (number count : ℕ) → table_symbol m number ≡ Binary → (front : Front) → 31 ≤ count → count ≤ 2078 → count ≤ bytes
      → start_in table place m front runs ≤ run_length table m place 21 count
  unfolding start_in
  long_bound Upper number count is front some few there = omega (arith, are.upper.long count some few there)
  long_bound Lower number count is front some few there = omega (arith, are.lower.long count some few there)
  long_bound Mixed number count is front some few there = omega (arith, are.mixed.long count some few there)
  long_bound Punct number count is front some few there = absurd (no_run_in_punct number is)
  long_bound Digit number count is front some few there = absurd (no_run_in_digit number is)

start_data : (table : List Costs) (place : ℕ) (m : Mode) (front : Front) (runs : Lows) → start_in table place m front runs ≤ data_start table place m front
unfolding start_in
start_data table place Upper front runs = omega arith
start_data table place Lower front runs = omega arith
start_data table place Mixed front runs = omega arith
start_data table place Punct front runs = omega arith
start_data table place Digit front runs = omega arith

bytes_there : (bytes : List ℕ) (rest xs : List Element) (count : ℕ) → xs ≡ bytes_as_elements bytes ++ rest → length bytes ≡ count → count ≤ bytes_ahead xs
bytes_there bytes rest xs count splits size = omega (arith, ap bytes_ahead splits, bytes_ahead-bytes bytes rest)

-- no standing code that spells something has fewer bits than what begins in its mode
start_bound : {m next : Mode} {code : Code} {bits : List Bool} {spelled : List Element} (table : List Costs) (place : ℕ) (xs rest : List Element) (runs : Lows)
    → AreRunStarts table place (bytes_ahead xs) runs → Form m code bits spelled next → xs ≡ spelled ++ rest → 1 ≤ code_count m code
    → start_in table place m (front_of xs) runs ≤ cost_through table place m code
unfolding cost_through run_length code_length code_count code_next is_run
start_bound table place xs rest runs are (latch number is) splits many = absurd (omega arith)
start_bound {m = m} table place xs rest runs are (plain {number = number} is) splits many =
    omega (arith, start_data table place m (front_of xs) runs, data_bound table place xs rest (plain is) splits many refl)
start_bound {m = m} table place xs rest runs are (shift number is data_is) splits many =
    omega (arith, start_data table place m (front_of xs) runs, data_bound table place xs rest (shift number is data_is) splits many refl)
start_bound {m = m} table place xs rest runs are (fnc1 flag) splits many =
    omega (arith, start_data table place m (front_of xs) runs, data_bound table place xs rest (fnc1 flag) splits many refl)
start_bound {m = m} table place xs rest runs are (eci flag low high fits) splits many =
    omega (arith, start_data table place m (front_of xs) runs, data_bound table place xs rest (eci flag low high fits) splits many refl)
start_bound {m = m} table place xs rest runs are (short_run number {count = count} bytes is size low high ok) splits many =
    short_bound table place (bytes_ahead xs) runs are m number count is (front_of xs) low high (bytes_there bytes rest xs count splits size)
start_bound {m = m} table place xs rest runs are (long_run number {count = count} bytes is size low high ok) splits many =
    long_bound table place (bytes_ahead xs) runs are m number count is (front_of xs) low high (bytes_there bytes rest xs count splits size)

-- and some standing code has as many
start_reached : (table : List Costs) (place : ℕ) (m : Mode) (xs : List Element) (runs : Lows) (bits : ℕ) → All IsElement xs → AreRunStarts table place (bytes_ahead xs) runs
    → bits ≡ start_in table place m (front_of xs) runs → bits < 1073741824 → Reached table place m xs bits
unfolding start_in
start_reached table place Upper xs runs bits valid are is small =
    elim (min_is (data_start table place Upper (front_of xs)) runs.upper bits is) [
      | inl of_data ↦ data_reached table place Upper xs bits valid of_data small
      | inr of_run ↦ upper_reached table place xs (bytes_ahead xs) bits valid refl (subst (λ (n : ℕ). IsRunStart table Upper place (bytes_ahead xs) n) (sym of_run) are.upper) small
    ]
start_reached table place Lower xs runs bits valid are is small =
    elim (min_is (data_start table place Lower (front_of xs)) runs.lower bits is) [
      | inl of_data ↦ data_reached table place Lower xs bits valid of_data small
      | inr of_run ↦ lower_reached table place xs (bytes_ahead xs) bits valid refl (subst (λ (n : ℕ). IsRunStart table Lower place (bytes_ahead xs) n) (sym of_run) are.lower) small
    ]
start_reached table place Mixed xs runs bits valid are is small =
    elim (min_is (data_start table place Mixed (front_of xs)) runs.mixed bits is) [
      | inl of_data ↦ data_reached table place Mixed xs bits valid of_data small
      | inr of_run ↦ mixed_reached table place xs (bytes_ahead xs) bits valid refl (subst (λ (n : ℕ). IsRunStart table Mixed place (bytes_ahead xs) n) (sym of_run) are.mixed) small
    ]
start_reached table place Punct xs runs bits valid are is small = data_reached table place Punct xs bits valid is small
start_reached table place Digit xs runs bits valid are is small = data_reached table place Digit xs bits valid is small

module _ (table : List Costs) (es : List Element) (place : ℕ) (filled : IsFilledFrom table es (place + 1)) (within : place < length es)
    (valid : All IsElement es) (runs : Lows) (are : AreRunStarts table place (bytes_ahead (drop place es)) runs)
    (f : Mode → ℕ) (is_start : (m : Mode) → f m ≡ start_in table place m (front_of (drop place es)) runs) where
  begin_reached : (m : Mode) → f m < 1073741824 → (codes : List Code) × (bits : List Bool) × Spells m codes bits (drop place es) × (length bits ≡ f m)
  begin_reached m small =
      let r : Reached table place m (drop place es) (f m) = start_reached table place m (drop place es) runs (f m) (valid_rest es place valid) are (is_start m) small in
      let inside : place + code_count m r.code ≤ length es = stands_within m r.code es place r.stands (omega arith) in
      let (codes, bits, spells, counted) = through_reached table es place m r.code r.stands
      (filled.least (place + code_count m r.code) (code_next m r.code) (omega (arith, r.many)) inside) in
      (codes, bits, spells, counted ∙ sym r.sum)

  begin_bound : {m next : Mode} {code : Code} {bits : List Bool} {spelled : List Element} (rest : List Element) (codes : List Code) (more : List Bool)
      → Entry m code bits spelled next → drop place es ≡ spelled ++ rest → 1 ≤ code_count m code → Spells next codes more rest → f m ≤ length (bits ++ more)
  begin_bound {m = m} {code = code} {bits = bits} {spelled = spelled} rest codes more entry splits many spells =
      let inside : place + code_count m code ≤ length es =
      omega (arith, entry_spelled entry, ap length splits, length-append spelled rest, length-drop place es) in
      omega (
        arith,
        is_start m,
        start_bound table place (drop place es) rest runs are (form_of entry) splits many,
        through_bound table es rest place codes more entry splits spells (filled.least (place + code_count m code) (code_next m code) (omega arith) inside),
      )

  place_bound : {m : Mode} {codes : List Code} {bits : List Bool} {rest : List Element} → Spells m codes bits rest → rest ≡ drop place es
      → settled m f ≤ length bits
  place_bound nothing is = absurd (omega (arith, ap length is, length-drop place es))
  place_bound {m = m} (onward {next = next} {codes = codes} {bits = bits} {rest = more} {spelled = spelled} {elements = rest} entry spells) is =
      elim (form_kinds (form_of entry)) [
        | inl latched ↦
            let few : settled next f ≤ length more = place_bound spells (sym (ap (λ (xs : List Element). xs ++ rest) latched.silent) ∙ is) in
            let (x, sum) = settled_attained next f in
            omega (arith, settled_bound m x f, length-append bits more, latched.counted, latch_step m next x latched.number latched.is)
        | inr many ↦
            let few : f m ≤ length (bits ++ more) = begin_bound rest codes more entry (sym is) many spells in
            omega (arith, settled_bound m m f, latch_bits-same m)
      ]

  place_reached : (m : Mode) → settled m f < 1073741824 → (codes : List Code) × (bits : List Bool) × Spells m codes bits (drop place es) × (length bits ≡ settled m f)
  place_reached m small =
      let (x, sum) = settled_attained m f in
      let (codes, bits, spells, counted) = begin_reached x (omega arith) in
      let way : Leads m x (latch_bits m x) = leads m x in
      (way.codes ++ codes, way.bits ++ bits, way.spells codes bits (drop place es) spells, omega (arith, length-append way.bits bits, way.counted))

  -- what is settled is the fewest bits of any spelling
  pub place_least : (m : Mode) → IsLeast m (drop place es) (settled m f)
  place_least m =
      let (codes, bits, spells, few) = spelled_from m (drop place es) (valid_rest es place valid) in
      record {
        reached = place_reached m (omega (arith, place_bound spells refl, length-drop place es, filled.fits));
        least = λ others (codes', spells'). place_bound spells' refl;
      }
