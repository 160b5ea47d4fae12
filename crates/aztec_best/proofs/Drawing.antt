-- The first of the shortest spellings: it is there, it is one, it begins with the first of the cheapest codes, and it never begins with the mark of a set.
use Rattle.std.proofs.Common.{◌≡◌, inl, inr, ℕ, zero, suc, ◌+◌, ◌*◌, ◌<◌, ◌≤◌, Bool, true, false, List, [], ◌∷◌, ◌++◌, length, drop, All, refl, sym, ap, subst, ◌∙◌, arith, append_assoc, append-nil, if◌then◌else◌}
use Rattle.std.proofs.lemmas.Bool.{cases_lt}
use Rattle.std.proofs.lemmas.List.{length-append, drop_all}
use Rattle.bar_base.specs.Elements.{IsElement}
use Rattle.bar_base.specs.declared.element.Element.{Element}
use Rattle.aztec_modes.specs.declared.mode.Mode.{Mode}
use Rattle.aztec_modes.specs.declared.mode.Mode.TheVariants.{Upper, Lower, Mixed, Punct, Digit}
use Rattle.aztec_modes.specs.declared.code.Code.{Code}
use Rattle.aztec_modes.specs.declared.code.Code.TheVariants.{Latch}
use Rattle.aztec_modes.specs.Codes.{table_symbol, code_table, mode_width, number_bits}
use Rattle.aztec_modes.specs.Entry.{Entry, code_count, code_next}
use Rattle.aztec_modes.proofs.Forms.{latch, entry_of}
use Rattle.aztec_modes.specs.Spelling.{Spells, nothing, onward, append_mark, IsMarked, IsPathOf}
use Rattle.aztec_modes.proofs.EntryLaws.{length-number_bits}
use Rattle.aztec_modes.proofs.PathLaws.{cost_positive}
use Rattle.aztec_modes.proofs.OneReading.{one_reading}
use Rattle.aztec_modes.proofs.Marks.{append_mark-codes}
use Rattle.aztec_best.specs.declared.costs.Costs.{Costs}
use Rattle.aztec_best.specs.Shortest.{Precedes, IsFirst, BeginsFirst, IsDrawn, IsFewest}
use Rattle.aztec_best.specs.Bench.{kept_cost, IsFilledFrom}
use Rattle.aztec_best.specs.DrawnPath.{mark_codes, IsDrawnPath}
use Rattle.aztec_best.proofs.Order.{Precedes-behind, Precedes-length, Precedes-nil, Precedes-antisym}
use Rattle.aztec_best.proofs.Small.{stands_within, spellable}
use Rattle.aztec_best.specs.Picks.{IsFirstCheapest}
use Rattle.aztec_best.proofs.NextCodes.{next_there, next_cheap, next_first}

-- no bits are the first spelling of no elements
pub first_nothing : (m : Mode) → IsFirst m [] [] []
first_nothing m = record { spells = nothing; first = λ others spelled. Precedes-nil others }

width_wide : (m : Mode) → 4 ≤ mode_width m
unfolding mode_width
width_wide Upper = omega arith
width_wide Lower = omega arith
width_wide Mixed = omega arith
width_wide Punct = omega arith
width_wide Digit = omega arith

module _ (table : List Costs) (es : List Element) (filled : IsFilledFrom table es 0) (valid : All IsElement es) where
  -- the mode and place after it are nearer to the end
  pub next_nearer : (place : ℕ) (m : Mode) (code : Code) → IsFirstCheapest table es place m code
      → kept_cost table (place + code_count m code) (code_next m code) < kept_cost table place m
  next_nearer place m code next = omega (arith, next_cheap table es filled valid place m code next, cost_positive m code)

  pub next_within : (place : ℕ) (m : Mode) (code : Code) → place ≤ length es → IsFirstCheapest table es place m code → place + code_count m code ≤ length es
  next_within place m code within next = stands_within m code es place next.cheapest.front within

  first_end : (place : ℕ) (m : Mode) → length es ≤ place → IsFirst m (drop place es) [] []
  first_end place m past = subst (λ (xs : List Element). IsFirst m xs [] []) (sym (drop_all place es past)) (first_nothing m)

  -- the first of the shortest spellings is there
  firsts : (fuel place : ℕ) (m : Mode) → place ≤ length es → kept_cost table place m ≤ fuel
      → (codes : List Code) × (bits : List Bool) × IsFirst m (drop place es) codes bits
  firsts zero place m within few =
      elim (cases_lt place (length es)) [
        | inl inside ↦
            let (code, next) = next_there table es filled valid place m inside in
            absurd (omega (arith, next_nearer place m code next))
        | inr past ↦ ([], [], first_end place m past)
      ]
  firsts (suc fuel) place m within few =
      elim (cases_lt place (length es)) [
        | inl inside ↦
            let (code, next) = next_there table es filled valid place m inside in
            let (codes, more, first) = firsts fuel (place + code_count m code) (code_next m code) (next_within place m code within next)
            (omega (arith, next_nearer place m code next)) in
            let (bits, whole) = next_first table es filled valid place m code inside next codes more first in
            (code ∷ codes, bits, whole)
        | inr past ↦ ([], [], first_end place m past)
      ]

  -- the first of the cheapest codes begins it
  pub next_begins : (place : ℕ) (m : Mode) (code : Code) → place < length es → IsFirstCheapest table es place m code → BeginsFirst m (drop place es) code
  next_begins place m code inside next =
      let after = place + code_count m code in
      let (codes, more, first) = firsts (kept_cost table after (code_next m code)) after (code_next m code) (next_within place m code (omega arith) next) (omega arith) in
      let (bits, whole) = next_first table es filled valid place m code inside next codes more first in
      (codes, bits, whole)

-- bits that precede every spelling are one
pub first_once : {m : Mode} {es : List Element} {codes codes' : List Code} {bits bits' : List Bool} → IsFirst m es codes bits → IsFirst m es codes' bits' → bits ≡ bits'
first_once {codes = codes} {codes' = codes'} {bits = bits} {bits' = bits'} former latter =
    Precedes-antisym bits bits' (former.first bits' (codes', latter.spells)) (latter.first bits (codes, former.spells))

-- after the first latch of the mark, its second
mark_second : {m : Mode} {codes : List Code} {bits : List Bool} {es : List Element} (rest : List Bool) → Spells m codes bits es → m ≡ Mixed
    → bits ≡ number_bits Mixed 29 ++ rest → (codes' : List Code) × Spells Upper codes' rest es
unfolding table_symbol code_table mode_width
mark_second rest nothing mixed is = absurd (omega (arith, ap length is, length-append (number_bits Mixed 29) rest, length-number_bits Mixed 29))
mark_second rest (onward {mode = m} {next = next} {code = code} {codes = codes} {bits = bits} {rest = more} {spelled = spelled} {elements = es} entry spells) mixed is =
    let here : Entry Mixed code bits spelled next = subst (λ (x : Mode). Entry x code bits spelled next) mixed entry in
    let latched : Entry Mixed (Latch Upper) (number_bits Mixed 29) [] Upper = entry_of (latch 29 refl) in
    let (code_is, bits_is, silent, next_is, more_is) = one_reading more rest here latched is in (
      codes,
      subst (λ (x : Mode). Spells x codes rest (spelled ++ es)) next_is
          (subst (λ (b : List Bool). Spells next codes b (spelled ++ es)) more_is
          (subst (λ (xs : List Element). Spells next codes more (xs ++ es)) (sym silent) spells)),
    )

-- what follows the mark in a spelling spells all of it
mark_spelled : {m : Mode} {codes : List Code} {bits : List Bool} {es : List Element} (rest : List Bool) → Spells m codes bits es → m ≡ Upper
    → bits ≡ append_mark ++ rest → (codes' : List Code) × Spells Upper codes' rest es
unfolding table_symbol code_table mode_width
mark_spelled rest nothing upper is =
    absurd (omega (
      arith,
      ap length (is ∙ ap (λ (b : List Bool). b ++ rest) append_mark-codes ∙ append_assoc (number_bits Upper 29) (number_bits Mixed 29) rest),
      length-append (number_bits Upper 29) (number_bits Mixed 29 ++ rest),
      length-number_bits Upper 29,
    ))
mark_spelled rest (onward {mode = m} {next = next} {code = code} {codes = codes} {bits = bits} {rest = more} {spelled = spelled} {elements = es} entry spells) upper is =
    let here : Entry Upper code bits spelled next = subst (λ (x : Mode). Entry x code bits spelled next) upper entry in
    let latched : Entry Upper (Latch Mixed) (number_bits Upper 29) [] Mixed = entry_of (latch 29 refl) in
    let apart : bits ++ more ≡ number_bits Upper 29 ++ (number_bits Mixed 29 ++ rest) =
    is ∙ ap (λ (b : List Bool). b ++ rest) append_mark-codes ∙ append_assoc (number_bits Upper 29) (number_bits Mixed 29) rest in
    let (code_is, bits_is, silent, next_is, more_is) = one_reading more (number_bits Mixed 29 ++ rest) here latched apart in
    let (codes', after) = mark_second rest spells next_is more_is in
    (codes', subst (λ (xs : List Element). Spells Upper codes' rest (xs ++ es)) (sym silent) after)

-- a spelling with fewest bits never begins with the mark: without it it would be shorter
pub unmarked : (es : List Element) (codes : List Code) (bits : List Bool) → IsFirst Upper es codes bits → IsMarked bits → ⊥
unmarked es codes bits first (rest, is) =
    let (codes', spells) = mark_spelled rest first.spells refl is in
    absurd (omega (
      arith,
      Precedes-length bits rest (first.first rest (codes', spells)),
      ap length is,
      length-append append_mark rest,
      ap length append_mark-codes,
      length-append (number_bits Upper 29) (number_bits Mixed 29),
      length-number_bits Upper 29,
      length-number_bits Mixed 29,
      width_wide Upper,
    ))

-- so outside a set the first spelling of the elements is drawn
pub drawn_alone : (es : List Element) (codes : List Code) (bits : List Bool) → IsFirst Upper es codes bits → IsDrawn false es bits
drawn_alone es codes bits first = record {
  spelling = ((codes, first.spells), unmarked es codes bits first);
  first = λ others spelling. first.first others spelling.0;
}

-- and in a set the mark and then it
pub drawn_in_set : (es : List Element) (codes : List Code) (bits : List Bool) → IsFirst Upper es codes bits → IsDrawn true es (append_mark ++ bits)
drawn_in_set es codes bits first = record {
  spelling = (bits, refl, (codes, first.spells));
  first = λ others (rest, is, spelled).
      subst (λ (b : List Bool). Precedes (append_mark ++ bits) b) (sym is) (Precedes-behind append_mark bits rest (first.first rest spelled));
}

-- drawn bits are the fewest, and one
pub drawn_fewest : (append : Bool) (es : List Element) (bits : List Bool) → IsDrawn append es bits → IsFewest append es (length bits)
drawn_fewest append es bits drawn others spelling = Precedes-length bits others (drawn.first others spelling)

pub drawn_once : (append : Bool) (es : List Element) (former latter : List Bool) → IsDrawn append es former → IsDrawn append es latter → former ≡ latter
drawn_once append es former latter one_drawn other_drawn =
    Precedes-antisym former latter (one_drawn.first latter other_drawn.spelling) (other_drawn.first former one_drawn.spelling)

-- at most 37 bits an element
pub first_few : (es : List Element) (codes : List Code) (bits : List Bool) → All IsElement es → IsFirst Upper es codes bits → length bits ≤ 37 * length es
first_few es codes bits valid first =
    let (codes', others, spells, few) = spellable es valid in
    omega (arith, Precedes-length bits others (first.first others (codes', spells)))

-- a path so far: whatever follows it as the first spelling of the rest, it makes the first spelling of the whole
pub record IsPathTo (front : List Code) (es : List Element) (path : List Code) (m : Mode) (place : ℕ) : Type 0 where
  pub within : place ≤ length es
  pub valid : All IsElement es
  pub draws : (codes : List Code) (more : List Bool) → IsFirst m (drop place es) codes more
      → (whole : List Code) × (bits : List Bool) × (path ++ codes ≡ front ++ whole) × IsFirst Upper es whole bits

pub path_start : (front : List Code) (es : List Element) (path : List Code) → All IsElement es → path ≡ front → IsPathTo front es path Upper 0
path_start front es path valid is = record {
  within = omega arith;
  valid = valid;
  draws = λ codes more first. (codes, more, ap (λ (cs : List Code). cs ++ codes) is, first);
}

pub path_step : (table : List Costs) (front : List Code) (es : List Element) (path longer : List Code) (m next : Mode) (place later : ℕ) (code : Code) → IsFilledFrom table es 0
    → IsPathTo front es path m place → place < length es → IsFirstCheapest table es place m code
    → longer ≡ path ++ code ∷ [] → next ≡ code_next m code → later ≡ place + code_count m code → IsPathTo front es longer next later
path_step table front es path longer m next place later code filled to inside next_code longer_is next_is later_is =
    subst (λ (cs : List Code). IsPathTo front es cs next later) (sym longer_is)
    (subst (λ (x : Mode). IsPathTo front es (path ++ code ∷ []) x later) (sym next_is)
    (subst (λ (p : ℕ). IsPathTo front es (path ++ code ∷ []) (code_next m code) p) (sym later_is) (record {
      within = next_within table es filled to.valid place m code to.within next_code;
      valid = to.valid;
      draws = λ codes more first.
          let (bits, ends) = next_first table es filled to.valid place m code inside next_code codes more first in
          let (whole, all, apart, drawn) = to.draws (code ∷ codes) bits ends in
          (whole, all, append_assoc path (code ∷ []) codes ∙ apart, drawn);
    })))

pub path_ends : (append : Bool) (es : List Element) (path : List Code) (m : Mode) (place : ℕ) → IsPathTo (mark_codes append) es path m place → length es ≤ place
    → IsDrawnPath append es path
path_ends append es path m place to past =
    let (whole, bits, apart, drawn) = to.draws [] [] (subst (λ (xs : List Element). IsFirst m xs [] []) (sym (drop_all place es past)) (first_nothing m)) in
    (whole, bits, sym (append-nil path) ∙ apart, drawn)

-- the mark's codes before a spelling put the mark before its bits
before_spelling : (append : Bool) (es : List Element) (codes : List Code) (bits : List Bool) → Spells Upper codes bits es
    → Spells Upper (mark_codes append ++ codes) (if append then append_mark ++ bits else bits) es
unfolding mark_codes table_symbol code_table
before_spelling false es codes bits spells = spells
before_spelling true es codes bits spells =
    subst (λ (b : List Bool). Spells Upper (Latch Mixed ∷ Latch Upper ∷ codes) b es)
    (sym (append_assoc (number_bits Upper 29) (number_bits Mixed 29) bits) ∙ sym (ap (λ (b : List Bool). b ++ bits) append_mark-codes))
    (onward (entry_of (latch 29 refl)) (onward (entry_of (latch 29 refl)) spells))

-- a drawn path spells the elements
pub drawn_path-spells : (append : Bool) (es : List Element) (path : List Code) → IsDrawnPath append es path → IsPathOf Upper path es
drawn_path-spells append es path (codes, bits, apart, first) = (
  (if append then append_mark ++ bits else bits),
  subst (λ (cs : List Code). Spells Upper cs (if append then append_mark ++ bits else bits) es) (sym apart) (before_spelling append es codes bits first.spells),
)

pub marked_drawn : (append : Bool) (es : List Element) (codes : List Code) (bits : List Bool) → IsFirst Upper es codes bits
    → IsDrawn append es (if append then append_mark ++ bits else bits)
marked_drawn false es codes bits first = drawn_alone es codes bits first
marked_drawn true es codes bits first = drawn_in_set es codes bits first

pub marked_few : (append : Bool) (bits : List Bool) → length (if append then append_mark ++ bits else bits) ≤ length bits + 10
unfolding append_mark
marked_few false bits = omega arith
marked_few true bits = omega (arith, length-append append_mark bits)

-- and its bits are drawn, and few
pub record AreDrawn (append : Bool) (es : List Element) (bits : List Bool) : Type 0 where
  pub drawn : IsDrawn append es bits
  pub few : length bits ≤ 37 * length es + 10

pub drawn_path-bits : (append : Bool) (es : List Element) (path : List Code) (bits : List Bool) → All IsElement es → IsDrawnPath append es path
    → ((others : List Bool) → Spells Upper path others es → others ≡ bits) → AreDrawn append es bits
drawn_path-bits append es path bits valid (codes, own, apart, first) only =
    let all : List Bool = if append then append_mark ++ own else own in
    let same : all ≡ bits = only all (subst (λ (cs : List Code). Spells Upper cs all es) (sym apart) (before_spelling append es codes own first.spells)) in
    subst (λ (b : List Bool). AreDrawn append es b) same (record {
      drawn = marked_drawn append es codes own first;
      few = omega (arith, marked_few append own, first_few es codes own valid first);
    })

-- the next stand is nearer to the end, and inside the elements
pub step_nearer : (table : List Costs) (es : List Element) (m : Mode) (place : ℕ) (code : Code) → IsFilledFrom table es 0 → All IsElement es → place ≤ length es
    → IsFirstCheapest table es place m code
    → (place + code_count m code ≤ length es) × (kept_cost table (place + code_count m code) (code_next m code) < kept_cost table place m)
step_nearer table es m place code filled valid within next =
    (next_within table es filled valid place m code within next, next_nearer table es filled valid place m code next)

pub nearer_after : (table : List Costs) (m next : Mode) (place later : ℕ) (code : Code) → later ≡ place + code_count m code → next ≡ code_next m code
    → kept_cost table (place + code_count m code) (code_next m code) < kept_cost table place m → kept_cost table later next < kept_cost table place m
nearer_after table m next place later code later_is next_is nearer =
    subst (λ (p : ℕ). kept_cost table p next < kept_cost table place m) (sym later_is)
    (subst (λ (x : Mode). kept_cost table (place + code_count m code) x < kept_cost table place m) (sym next_is) nearer)
