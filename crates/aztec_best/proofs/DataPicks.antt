-- The pick among data codes: the two numbers of what is in front, and the ranks of data codes with and without a shift.
use Rattle.std.proofs.Common.{◌≡◌, ◌⊎◌, inl, inr, ℕ, ◌+◌, ◌*◌, ◌<◌, ◌≤◌, min, max, Bool, true, List, [], ◌∷◌, ◌++◌, drop, Option, Some, None, slice_get, refl, sym, ap, subst, ◌∙◌, arith, IfSome, IfNone, unwrap_or, if◌then◌else◌}
use Rattle.std.specs.Prelude.{◌==◌}
use Rattle.std.specs.Option.{ForSome}
use Rattle.std.proofs.lemmas.Bool.{cases_lt, cases_Bool, cond-true, cond-false, eqb-false, ne_eqb}
use Rattle.bar_base.specs.declared.element.Element.{Element}
use Rattle.bar_base.specs.declared.element.Element.TheVariants as element
use Rattle.aztec_modes.specs.declared.mode.Mode.{Mode}
use Rattle.aztec_modes.specs.declared.mode.Mode.TheVariants.{Upper, Lower, Mixed, Punct, Digit}
use Rattle.aztec_modes.specs.declared.code.Code.{Code}
use Rattle.aztec_modes.specs.declared.code.Code.TheVariants.{Plain, Shift}
use Rattle.aztec_modes.specs.declared.table.Symbol.{Symbol}
use Rattle.aztec_modes.specs.declared.table.Symbol.TheVariants.{Absent, One, Two, LatchTo, ShiftTo}
use Rattle.aztec_modes.specs.Codes.{table_symbol, data_spelled}
use Rattle.aztec_modes.specs.Entry.{latch_number, shift_number, SpellsFront}
use Rattle.aztec_modes.proofs.TableFacts.{latch_number-at, shift_number-at}
use Rattle.aztec_modes.proofs.Forms.{Form, latch, plain, shift, fnc1, eci, short_run, long_run, form_of}
use Rattle.aztec_best.specs.declared.costs.Costs.{Costs}
use Rattle.aztec_best.specs.declared.front.Front.{Front}
use Rattle.aztec_best.specs.Front.{front_of}
use Rattle.aztec_best.specs.Numbers.{data_number, own_number, pair_number, pair_of, pair_from, has_pair, is_pair, controls_from}
use Rattle.aztec_best.specs.Order.{first_number, second_number, code_rank}
use Rattle.aztec_best.specs.Picks.{IsCheapest, IsFirstOfKind, HasRank, numbered, data_code, IsDataCode}
use Rattle.aztec_best.proofs.ByteLaws.{number_there, one_at, two_at, two_paired, pair_there, pair_few, data_alone, tail_few}
use Rattle.aztec_best.proofs.CodeRanks.{data_low, data_few, shift_alone}
use Rattle.aztec_best.proofs.DataLaws.{DataKind, one, two, data_kind, pair_from-bytes, two_there}
use Rattle.aztec_best.proofs.Decided.{DataFront, plain_fits, shift_fits}
use Rattle.aztec_best.proofs.Picks.{kind_moved, first_at}

-- The numbers of data codes at the front.
own_of : (to : Mode) (es rest : List Element) (byte : ℕ) → es ≡ element.Byte byte ∷ rest → own_number to (slice_get es 0) ≡ data_number to byte
unfolding own_number
own_of to es rest byte is = ap (λ (xs : List Element). own_number to (slice_get xs 0)) is

pair_of-front : (to : Mode) (es rest : List Element) (a b : ℕ) → to ≡ Punct → is_pair a b ≡ true → es ≡ element.Byte a ∷ element.Byte b ∷ rest
    → pair_number to (slice_get es 0) (slice_get es 1) ≡ pair_of a
unfolding pair_number pair_from has_pair
pair_of-front to es rest a b punct pair is =
    ap (λ (xs : List Element). pair_number to (slice_get xs 0) (slice_get xs 1)) is
    ∙ ap (λ (x : Mode). pair_number x (Some (element.Byte a)) (Some (element.Byte b))) punct
    ∙ cond-true (is_pair a b) (pair_of a) 0 pair

numbers_of_front : (to : Mode) (number : ℕ) (es rest spelled : List Element) → DataKind (table_symbol to number) spelled → es ≡ spelled ++ rest
    → (number ≡ own_number to (slice_get es 0)) ⊎ (number ≡ pair_number to (slice_get es 0) (slice_get es 1))
numbers_of_front to number es rest spelled (one byte is e) splits =
    inl (sym (own_of to es rest byte (splits ∙ ap (λ (xs : List Element). xs ++ rest) e) ∙ (one_at to number byte is).0))
numbers_of_front to number es rest spelled (two a b is e) splits =
    let (punct, pair) = two_paired to number a b is in
    inr (sym (pair_of-front to es rest a b punct pair (splits ∙ ap (λ (xs : List Element). xs ++ rest) e) ∙ two_at to number a b is))

own_front : (to : Mode) (es : List Element) (number : ℕ) → number ≡ own_number to (slice_get es 0) → (number ≡ 0 → ⊥) → DataFront (table_symbol to number) es
unfolding own_number data_spelled
own_front to [] number is some = absurd (some is)
own_front to (element.Byte byte ∷ es) number is some =
    let there : table_symbol to (data_number to byte) ≡ One byte = number_there to byte (ne_eqb (data_number to byte) 0 (λ none. some (is ∙ none))) in
    record {
      spelled = element.Byte byte ∷ [];
      rest = es;
      is = ap (λ (n : ℕ). data_spelled (table_symbol to n)) is ∙ ap data_spelled there;
      splits = refl;
    }
own_front to (element.Eci n ∷ es) number is some = absurd (some is)
own_front to (element.Fnc1 ∷ es) number is some = absurd (some is)

pair_in_punct : (es : List Element) (number : ℕ) → number ≡ (if has_pair (slice_get es 0) (slice_get es 1) then pair_from (slice_get es 0) else 0) → (number ≡ 0 → ⊥)
    → DataFront (table_symbol Punct number) es
unfolding pair_from data_spelled
pair_in_punct es number is some =
    elim (cases_Bool (has_pair (slice_get es 0) (slice_get es 1))) [
      | inr not ↦ absurd (some (is ∙ cond-false (has_pair (slice_get es 0) (slice_get es 1)) (pair_from (slice_get es 0)) 0 not))
      | inl yes_pair ↦
          let (a, b, first, second, pair) = pair_from-bytes (slice_get es 0) (slice_get es 1) yes_pair in
          let (rest, splits) = two_there es (element.Byte a) (element.Byte b) first second in
          let (k, there) = pair_there a b pair in
          let number_is : number ≡ k =
          is ∙ cond-true (has_pair (slice_get es 0) (slice_get es 1)) (pair_from (slice_get es 0)) 0 yes_pair ∙ ap pair_from first ∙ two_at Punct k a b there in
          record {
            spelled = element.Byte a ∷ element.Byte b ∷ [];
            rest = rest;
            is = ap (λ (n : ℕ). data_spelled (table_symbol Punct n)) number_is ∙ ap data_spelled there;
            splits = splits;
          }
    ]

pair_front : (to : Mode) (es : List Element) (number : ℕ) → number ≡ pair_number to (slice_get es 0) (slice_get es 1) → (number ≡ 0 → ⊥)
    → DataFront (table_symbol to number) es
unfolding pair_number
pair_front Punct es number is some = pair_in_punct es number is some
pair_front Upper es number is some = absurd (some is)
pair_front Lower es number is some = absurd (some is)
pair_front Mixed es number is some = absurd (some is)
pair_front Digit es number is some = absurd (some is)

-- One of the two numbers of data codes at the front.
pub IsOwn : (to : Mode) (es : List Element) (number : ℕ) → Type 0
IsOwn to es number = (number ≡ own_number to (slice_get es 0)) ⊎ (number ≡ pair_number to (slice_get es 0) (slice_get es 1))

front_of_number : (to : Mode) (es : List Element) (number : ℕ) → IsOwn to es number → (number ≡ 0 → ⊥) → DataFront (table_symbol to number) es
unfolding IsOwn
front_of_number to es number (inl own) some = own_front to es number own some
front_of_number to es number (inr pair) some = pair_front to es number pair some

numbered_front : (m : Mode) (sh : Option Mode) (number : ℕ) (es : List Element) → ForSome sh (λ to. table_symbol m (shift_number m to) ≡ ShiftTo to)
    → DataFront (table_symbol (unwrap_or sh m) number) es → SpellsFront m (numbered sh number) es
numbered_front m None number es there front = plain_fits m number es front
numbered_front m (Some to) number es there front = shift_fits m to number es (there to refl) front

pub candidate_front : (m : Mode) (sh : Option Mode) (number : ℕ) (es : List Element) → ForSome sh (λ to. table_symbol m (shift_number m to) ≡ ShiftTo to)
    → IsOwn (unwrap_or sh m) es number → ForSome (data_code sh number) (λ c. SpellsFront m c es)
unfolding data_code
candidate_front m sh number es there own =
    elim (cases_Bool (number == 0)) [
      | inl none ↦ subst (λ (o : Option Code). ForSome o (λ c. SpellsFront m c es)) (sym (cond-true (number == 0) None (Some (numbered sh number)) none)) (λ c is. absurd (cc))
      | inr some ↦ subst (λ (o : Option Code). ForSome o (λ c. SpellsFront m c es)) (sym (cond-false (number == 0) None (Some (numbered sh number)) some))
          (λ c is. let same : numbered sh number ≡ c = cc in subst (λ (k : Code). SpellsFront m k es) same
          (numbered_front m sh number es there (front_of_number (unwrap_or sh m) es number own (λ zero_is. eqb-false number 0 some zero_is))))
    ]

-- What a data code at the front is.
number_here : (m : Mode) (sh : Option Mode) (number : ℕ) (es : List Element) → SpellsFront m (numbered sh number) es → (1 ≤ number) × IsOwn (unwrap_or sh m) es number
unfolding IsOwn
number_here m None number es fits =
    (data_low m number fits.spelled fits.entry.spells, numbers_of_front m number es fits.rest fits.spelled (data_kind (table_symbol m number) fits.spelled fits.entry.spells) fits.splits)
number_here m (Some to) number es fits =
    (data_low to number fits.spelled fits.entry.spells, numbers_of_front to number es fits.rest fits.spelled (data_kind (table_symbol to number) fits.spelled fits.entry.spells) fits.splits)

rank_grows : (m : Mode) (sh : Option Mode) (a b : ℕ) → a ≤ b → code_rank m (numbered sh a) ≤ code_rank m (numbered sh b)
unfolding first_number second_number
rank_grows m None a b less = omega arith
rank_grows m (Some to) a b less = omega arith

data_code_is : (sh : Option Mode) (number : ℕ) (c : Code) → data_code sh number ≡ Some c → (1 ≤ number) × (numbered sh number ≡ c)
unfolding data_code
data_code_is sh number c is =
    elim (cases_Bool (number == 0)) [
      | inl none ↦ absurd (let e : None ≡ Some c = sym (cond-true (number == 0) None (Some (numbered sh number)) none) ∙ is in cc)
      | inr some ↦ (
        (let apart : number ≡ 0 → ⊥ = eqb-false number 0 some in elim (cases_lt number 1) [ inl small ↦ absurd (apart (omega arith)) | inr large ↦ large ]),
        (let e : Some (numbered sh number) ≡ Some c = sym (cond-false (number == 0) None (Some (numbered sh number)) some) ∙ is in cc),
      )
    ]

data_code_some : (sh : Option Mode) (number : ℕ) → 1 ≤ number → data_code sh number ≡ Some (numbered sh number)
unfolding data_code
data_code_some sh number some = cond-false (number == 0) None (Some (numbered sh number)) (ne_eqb number 0 (λ none. absurd (omega arith)))

min_or_max : (a b n : ℕ) → (n ≡ a) ⊎ (n ≡ b) → (n ≡ min a b) ⊎ (n ≡ max a b)
min_or_max a b n is = grind arith

pub min_own : (to : Mode) (es : List Element) → IsOwn to es (min (own_number to (slice_get es 0)) (pair_number to (slice_get es 0) (slice_get es 1)))
unfolding IsOwn
min_own to es = grind arith

pub max_own : (to : Mode) (es : List Element) → IsOwn to es (max (own_number to (slice_get es 0)) (pair_number to (slice_get es 0) (slice_get es 1)))
unfolding IsOwn
max_own to es = grind arith

module _ (table : List Costs) (es : List Element) (place : ℕ) (m : Mode) (sh : Option Mode) where
  least_number : ℕ
  least_number = min (own_number (unwrap_or sh m) (slice_get (drop place es) 0)) (pair_number (unwrap_or sh m) (slice_get (drop place es) 0) (slice_get (drop place es) 1))

  greatest_number : ℕ
  greatest_number = max (own_number (unwrap_or sh m) (slice_get (drop place es) 0)) (pair_number (unwrap_or sh m) (slice_get (drop place es) 0) (slice_get (drop place es) 1))

  either : (other : Code) → IsCheapest table es place m other → (number : ℕ) → other ≡ numbered sh number
      → (1 ≤ number) × ((number ≡ least_number) ⊎ (number ≡ greatest_number))
  unfolding IsOwn least_number greatest_number
  either other cheap number is =
      let (some, own) = number_here m sh number (drop place es) (subst (λ (c : Code). SpellsFront m c (drop place es)) is cheap.front) in
      (some, min_or_max _ _ number own)

  -- The first of the two candidates that is cheapest is the pick.
  data_first : (c : Code) (first : data_code sh least_number ≡ Some c) → IsCheapest table es place m c → IsFirstOfKind table es place m (IsDataCode sh) (Some c)
  unfolding least_number greatest_number
  data_first c first cheap =
      let (some, same) = data_code_is sh least_number c first in
      record {
        cheapest = cheap;
        kind = (least_number, sym same);
        first = λ other other_cheap (number, is).
            let (low, at) = either other other_cheap number is in
            let grows : code_rank m (numbered sh least_number) ≤ code_rank m (numbered sh number) = rank_grows m sh least_number number (elim at [ inl e ↦ omega arith | inr e ↦ omega arith ]) in
            (let former : code_rank m c ≡ code_rank m (numbered sh least_number) = ap (code_rank m) (sym same) in
            let latter : code_rank m other ≡ code_rank m (numbered sh number) = ap (code_rank m) is in omega arith);
      }

  data_second : (o : Option Code) → ((c : Code) → data_code sh least_number ≡ Some c → IsCheapest table es place m c → ⊥)
      → IfSome o (λ c. (data_code sh greatest_number ≡ Some c) × IsCheapest table es place m c)
      → IfNone o ((c : Code) → data_code sh greatest_number ≡ Some c → IsCheapest table es place m c → ⊥) → IsFirstOfKind table es place m (IsDataCode sh) o
  data_second None none found none' = λ other cheap (number, is).
      let (some, at) = either other cheap number is in
      elim at [
        | inl e ↦ none other (ap (data_code sh) (sym e) ∙ data_code_some sh number some ∙ ap Some (sym is)) cheap
        | inr e ↦ none' other (ap (data_code sh) (sym e) ∙ data_code_some sh number some ∙ ap Some (sym is)) cheap
      ]
  data_second (Some c) none found none' =
      let (some, same) = data_code_is sh greatest_number c found.0 in
      record {
        cheapest = found.1;
        kind = (greatest_number, sym same);
        first = λ other cheap (number, is).
            let (low, at) = either other cheap number is in
            elim at [
              | inl e ↦ absurd (none other (ap (data_code sh) (sym e) ∙ data_code_some sh number low ∙ ap Some (sym is)) cheap)
              | inr e ↦ (let alike : code_rank m c ≡ code_rank m other = ap (code_rank m) (sym same ∙ ap (numbered sh) (sym e) ∙ sym is) in omega arith)
            ];
      }

-- The data codes of the mode are those between number 0 and the latches, shifts and B/S.
plain_ranked : (m : Mode) (number : ℕ) (s : Symbol) (spelled : List Element) → table_symbol m number ≡ s → DataKind s spelled → number < controls_from m
plain_ranked m number s spelled is (one byte e spells) = (one_at m number byte (is ∙ e)).1
plain_ranked m number s spelled is (two a b e spells) = let at : pair_of a ≡ number = two_at m number a b (is ∙ e) in omega (arith, pair_few m a)

not_data : (m : Mode) (k : ℕ) (s : Symbol) → table_symbol m k ≡ s → 1 ≤ k → k < controls_from m → ((byte : ℕ) → s ≡ One byte → ⊥) → ((a b : ℕ) → s ≡ Two a b → ⊥)
    → (s ≡ Absent → ⊥) → ⊥
not_data m k s is some below no_one no_two present =
    elim (data_alone m k s is (λ none. absurd (omega arith)) below) [
      | inl absent ↦ present absent
      | inr other ↦ elim other [ inl at ↦ no_one at.0 at.1 | inr at ↦ no_two at.0 at.1 at.2 ]
    ]

form_plain : {m : Mode} {code : Code} {bits : List Bool} {spelled : List Element} {next : Mode} → Form m code bits spelled next
    → 4096 ≤ code_rank m code → code_rank m code < controls_from m * 4096 → IsDataCode None code
unfolding first_number second_number
form_plain {m} (latch {next = to} number is) low high =
    let first : number ≡ latch_number m to = latch_number-at m to number is in
    absurd (not_data m number (LatchTo to) is (omega arith) (omega arith) (λ byte h. absurd (cc)) (λ a b h. absurd (cc)) (λ h. absurd (cc)))
form_plain (plain {number = number} is) low high = (number, refl)
form_plain {m} {spelled = spelled} (shift {to = to} number {second = n} is data_is) low high =
    let first : number ≡ shift_number m to = shift_number-at m to number is in
    let few : n < 32 = data_few to n spelled data_is in
    absurd (not_data m number (ShiftTo to) is (omega arith) (omega arith) (λ byte h. absurd (cc)) (λ a b h. absurd (cc)) (λ h. absurd (cc)))
form_plain (fnc1 flag) low high = absurd (omega arith)
form_plain (eci flag one_low six fits) low high = absurd (omega arith)
form_plain {m} (short_run number bytes is size one_low high_count ok) low high = absurd (omega (arith, (tail_few m).1))
form_plain {m} (long_run number bytes is size low_count high_count ok) low high = absurd (omega (arith, (tail_few m).1))

pub plain_pick : (table : List Costs) (es : List Element) (place : ℕ) (m : Mode) (o : Option Code) → IsFirstOfKind table es place m (IsDataCode None) o
    → IsFirstOfKind table es place m (HasRank m 4096 (controls_from m * 4096)) o
unfolding first_number second_number
plain_pick table es place m o pick =
    kind_moved table es place m (IsDataCode None) (HasRank m 4096 (controls_from m * 4096)) o
    (λ c cheap (number, is).
    let front : SpellsFront m (Plain number) (drop place es) = subst (λ (k : Code). SpellsFront m k (drop place es)) is cheap.front in
    let low : 1 ≤ number = data_low m number front.spelled front.entry.spells in
    let below : number < controls_from m = plain_ranked m number (table_symbol m number) front.spelled refl (data_kind (table_symbol m number) front.spelled front.entry.spells) in
    let rank : code_rank m c ≡ number * 4096 + 0 = ap (code_rank m) is in
    (omega arith, omega arith))
    (λ c cheap (low, high). form_plain (form_of cheap.front.entry) low high) pick

pub shift_pick : (table : List Costs) (es : List Element) (place : ℕ) (m to : Mode) (first : ℕ) (o : Option Code) → table_symbol m first ≡ ShiftTo to
    → IsFirstOfKind table es place m (IsDataCode (Some to)) o → IsFirstOfKind table es place m (HasRank m (first * 4096 + 7) (first * 4096 + 4096)) o
unfolding first_number second_number
shift_pick table es place m to first o is pick =
    let number_is : first ≡ shift_number m to = shift_number-at m to first is in
    kind_moved table es place m (IsDataCode (Some to)) (HasRank m (first * 4096 + 7) (first * 4096 + 4096)) o
    (λ c cheap (number, at).
    let front : SpellsFront m (Shift to number) (drop place es) = subst (λ (k : Code). SpellsFront m k (drop place es)) at cheap.front in
    let low : 1 ≤ number = data_low to number front.spelled front.entry.spells in
    let few : number < 32 = data_few to number front.spelled front.entry.spells in
    let rank : code_rank m c ≡ shift_number m to * 4096 + (number + 6) = ap (code_rank m) at in
    (omega arith, omega arith))
    (λ c cheap (low, high).
    let at : first_number m c ≡ first = first_at first cheap.front (omega arith) high in
    shift_alone to (form_of cheap.front.entry) (ap (table_symbol m) at ∙ is) (omega arith)) pick

pub shift_there : (m to : Mode) (first : ℕ) → table_symbol m first ≡ ShiftTo to → table_symbol m (shift_number m to) ≡ ShiftTo to
shift_there m to first is = subst (λ (k : ℕ). table_symbol m k ≡ ShiftTo to) (shift_number-at m to first is) is

-- The candidates that a caller has computed.
module _ (es : List Element) (place : ℕ) (m : Mode) (sh : Option Mode) (n own pair : ℕ) (mode : Mode) (front : Front)
    (own_is : own ≡ own_number mode front.first) (pair_is : pair ≡ pair_number mode front.first front.second) (mode_is : mode ≡ unwrap_or sh m)
    (fronts : front ≡ front_of (drop place es)) where
  own_there : own ≡ own_number (unwrap_or sh m) (slice_get (drop place es) 0)
  own_there = own_is ∙ ap (λ (f : Front). own_number mode f.first) fronts ∙ ap (λ (x : Mode). own_number x (slice_get (drop place es) 0)) mode_is

  pair_is_there : pair ≡ pair_number (unwrap_or sh m) (slice_get (drop place es) 0) (slice_get (drop place es) 1)
  pair_is_there =
      pair_is ∙ ap (λ (f : Front). pair_number mode f.first f.second) fronts
      ∙ ap (λ (x : Mode). pair_number x (slice_get (drop place es) 0) (slice_get (drop place es) 1)) mode_is

  pub least_is : n ≡ min own pair → n ≡ min (own_number (unwrap_or sh m) (slice_get (drop place es) 0)) (pair_number (unwrap_or sh m) (slice_get (drop place es) 0) (slice_get (drop place es) 1))
  least_is is = is ∙ ap (λ (x : ℕ). min x pair) own_there ∙ ap (min (own_number (unwrap_or sh m) (slice_get (drop place es) 0))) pair_is_there

  pub greatest_is : n ≡ max own pair → n ≡ max (own_number (unwrap_or sh m) (slice_get (drop place es) 0)) (pair_number (unwrap_or sh m) (slice_get (drop place es) 0) (slice_get (drop place es) 1))
  greatest_is is = is ∙ ap (λ (x : ℕ). max x pair) own_there ∙ ap (max (own_number (unwrap_or sh m) (slice_get (drop place es) 0))) pair_is_there

pub candidate_moved : (m : Mode) (sh : Option Mode) (n k : ℕ) (es : List Element) (o : Option Code) → ForSome sh (λ to. table_symbol m (shift_number m to) ≡ ShiftTo to)
    → o ≡ data_code sh n → n ≡ k → IsOwn (unwrap_or sh m) es k → ForSome o (λ c. SpellsFront m c es)
candidate_moved m sh n k es o there is number own =
    subst (λ (x : Option Code). ForSome x (λ c. SpellsFront m c es)) (sym (is ∙ ap (data_code sh) number)) (candidate_front m sh k es there own)

-- The pick among the two candidates, as a caller has computed them.
module _ (table : List Costs) (es : List Element) (place : ℕ) (m : Mode) (sh : Option Mode) (n k : ℕ) (former latter : Option Code)
    (n_is : n ≡ min (own_number (unwrap_or sh m) (slice_get (drop place es) 0)) (pair_number (unwrap_or sh m) (slice_get (drop place es) 0) (slice_get (drop place es) 1)))
    (k_is : k ≡ max (own_number (unwrap_or sh m) (slice_get (drop place es) 0)) (pair_number (unwrap_or sh m) (slice_get (drop place es) 0) (slice_get (drop place es) 1)))
    (former_is : former ≡ data_code sh n) (latter_is : latter ≡ data_code sh k) where
  pub former_picked : (c : Code) → (former ≡ Some c) × IsCheapest table es place m c → IsFirstOfKind table es place m (IsDataCode sh) (Some c)
  unfolding least_number
  former_picked c found = data_first table es place m sh c (sym (former_is ∙ ap (data_code sh) n_is) ∙ found.0) found.1

  pub latter_picked : (o : Option Code) → ((c : Code) → former ≡ Some c → IsCheapest table es place m c → ⊥)
      → IfSome o (λ c. (latter ≡ Some c) × IsCheapest table es place m c) → IfNone o ((c : Code) → latter ≡ Some c → IsCheapest table es place m c → ⊥)
      → IsFirstOfKind table es place m (IsDataCode sh) o
  unfolding least_number greatest_number
  latter_picked o none found none' =
      data_second table es place m sh o (λ c is cheap. none c (former_is ∙ ap (data_code sh) n_is ∙ is) cheap)
      (subst (λ (x : Option Code). IfSome o (λ c. (x ≡ Some c) × IsCheapest table es place m c)) (latter_is ∙ ap (data_code sh) k_is) found)
      (subst (λ (x : Option Code). IfNone o ((c : Code) → x ≡ Some c → IsCheapest table es place m c → ⊥)) (latter_is ∙ ap (data_code sh) k_is) none')
