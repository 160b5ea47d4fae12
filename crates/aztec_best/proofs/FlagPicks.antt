-- The pick among FLG(n), and that behind FLG(n) no code of Punct begins with number 0.
use Rattle.std.proofs.Common.{◌≡◌, ◌⊎◌, inl, inr, ℕ, ◌<◌, ◌≤◌, Bool, List, [], ◌∷◌, ◌++◌, length, drop, All, Option, Some, None, slice_get, refl, sym, ap, subst, ◌∙◌, arith, IfSome, IfNone}
use Rattle.std.specs.Option.{ForSome}
use Rattle.std.proofs.lemmas.List.Elements.{All-head}
use Rattle.bar_base.specs.Elements.{IsElement}
use Rattle.bar_base.specs.declared.element.Element.{Element}
use Rattle.bar_base.specs.declared.element.Element.TheVariants as element
use Rattle.aztec_modes.specs.declared.mode.Mode.{Mode}
use Rattle.aztec_modes.specs.declared.mode.Mode.TheVariants.{Upper, Lower, Mixed, Punct, Digit}
use Rattle.aztec_modes.specs.declared.code.Code.{Code}
use Rattle.aztec_modes.specs.declared.code.Code.TheVariants.{Latch, Plain, Shift, Fnc1, Eci, Run}
use Rattle.aztec_modes.specs.declared.table.Symbol.TheVariants.{LatchTo, ShiftTo, Flag}
use Rattle.aztec_modes.specs.Codes.{table_symbol}
use Rattle.aztec_modes.specs.Entry.{latch_number, shift_number, code_count, code_length, code_next, SpellsFront}
use Rattle.aztec_modes.proofs.TableFacts.{latch_number-at, shift_number-at}
use Rattle.aztec_modes.proofs.Forms.{Form, latch, plain, shift, fnc1, eci, short_run, long_run, form_of, has_flag}
use Rattle.aztec_best.specs.declared.costs.Costs.{Costs}
use Rattle.aztec_best.specs.declared.front.Front.{Front}
use Rattle.aztec_best.specs.Bench.{IsFilledFrom}
use Rattle.aztec_best.specs.Front.{front_of}
use Rattle.aztec_best.specs.Numbers.{fewest_digits}
use Rattle.aztec_best.specs.Order.{first_number, second_number, code_rank}
use Rattle.aztec_best.specs.Picks.{cost_through, IsCheapest, IsFirstOfKind, HasRank, flag_code}
use Rattle.aztec_best.proofs.CodeRanks.{data_low}
use Rattle.aztec_best.proofs.DataLaws.{digits_fit, digits_least}
use Rattle.aztec_best.proofs.Decided.{fnc1_fits, eci_fits}
use Rattle.aztec_best.proofs.NextCodes.{through_least}
use Rattle.aztec_best.proofs.Small.{valid_rest}

-- FLG(n) has the ranks below 7.
zero_symbol : (m : Mode) → (table_symbol m 0 ≡ Flag) ⊎ (table_symbol m 0 ≡ ShiftTo Punct)
zero_symbol Upper = inr (has_flag Upper).0
zero_symbol Lower = inr (has_flag Lower).0
zero_symbol Mixed = inr (has_flag Mixed).0
zero_symbol Punct = inl (has_flag Punct)
zero_symbol Digit = inr (has_flag Digit).0

no_latch_zero : (m to : Mode) → table_symbol m 0 ≡ LatchTo to → ⊥
no_latch_zero m to is = elim (zero_symbol m) [ inl flag ↦ cc | inr shift_is ↦ cc ]

data FlagForm : Code → Type 0 where
  of_fnc1 : FlagForm Fnc1
  of_eci : {number count : ℕ} → FlagForm (Eci number count)

flag_form : {m : Mode} {code : Code} {bits : List Bool} {spelled : List Element} {next : Mode} → Form m code bits spelled next → code_rank m code < 7 → FlagForm code
unfolding first_number second_number
flag_form {m} (latch {next = to} number is) high =
    let first : number ≡ latch_number m to = latch_number-at m to number is in
    let none : number ≡ 0 = omega arith in
    absurd (no_latch_zero m to (subst (λ (k : ℕ). table_symbol m k ≡ LatchTo to) none is))
flag_form {m} {spelled = spelled} (plain {number = number} is) high = absurd (omega (arith, data_low m number spelled is))
flag_form {spelled = spelled} (shift {to = to} number {second = n} is data_is) high = absurd (omega (arith, data_low to n spelled data_is))
flag_form (fnc1 flag) high = of_fnc1
flag_form (eci flag low six fits) high = of_eci
flag_form (short_run number bytes is size low many ok) high = absurd (omega arith)
flag_form (long_run number bytes is size low many ok) high = absurd (omega arith)

flag_of_fnc1 : {o : Option Element} → o ≡ Some element.Fnc1 → flag_code o ≡ Some Fnc1
unfolding flag_code
flag_of_fnc1 is = ap flag_code is

flag_of_eci : {o : Option Element} (number : ℕ) → o ≡ Some (element.Eci number) → flag_code o ≡ Some (Eci number (fewest_digits number))
unfolding flag_code
flag_of_eci number is = ap flag_code is

not_flag : (o : Option Element) (code : Code) → flag_code o ≡ Some code → (code ≡ Fnc1 → ⊥) → ((number count : ℕ) → code ≡ Eci number count → ⊥) → ⊥
unfolding flag_code
not_flag None code is no_fnc1 no_eci = cc
not_flag (Some (element.Byte byte)) code is no_fnc1 no_eci = cc
not_flag (Some (element.Eci number)) code is no_fnc1 no_eci = no_eci number (fewest_digits number) (cc)
not_flag (Some element.Fnc1) code is no_fnc1 no_eci = no_fnc1 (cc)

module _ (table : List Costs) (es : List Element) (place : ℕ) (m : Mode) (filled : IsFilledFrom table es 0) (valid : All IsElement es) (within : place < length es) where
  -- The front of a code for FNC1 or an ECI.
  fnc1_here : SpellsFront m Fnc1 (drop place es) → slice_get (drop place es) 0 ≡ Some element.Fnc1
  fnc1_here fits = ap (λ (xs : List Element). slice_get xs 0) (fits.splits ∙ ap (λ (xs : List Element). xs ++ fits.rest) fits.entry.spells)

  eci_here : (number count : ℕ) → SpellsFront m (Eci number count) (drop place es) → slice_get (drop place es) 0 ≡ Some (element.Eci number)
  eci_here number count fits = ap (λ (xs : List Element). slice_get xs 0) (fits.splits ∙ ap (λ (xs : List Element). xs ++ fits.rest) fits.entry.spells)

  -- Of the codes for one ECI the one with the fewest digits has fewest bits.
  eci_fewest : (number count : ℕ) → IsCheapest table es place m (Eci number count) → IsElement (element.Eci number)
      → IsCheapest table es place m (Eci number (fewest_digits number))
  unfolding cost_through code_length code_count code_next
  eci_fewest number count cheap valid_number =
      let (low, six, fits) = digits_fit number valid_number in
      let few : fewest_digits number ≤ count = digits_least number count cheap.front.entry.has.1 cheap.front.entry.has.3 in
      let front : SpellsFront m (Eci number (fewest_digits number)) (drop place es) =
      eci_fits m number (fewest_digits number) (drop place es) cheap.front.rest (cheap.front.splits ∙ ap (λ (xs : List Element). xs ++ cheap.front.rest) cheap.front.entry.spells) low six fits in
      record {
        front = front;
        fewest = omega (arith, through_least table es filled valid place m (Eci number (fewest_digits number)) (omega arith) front, cheap.fewest);
      }

  eci_valid : (number count : ℕ) → SpellsFront m (Eci number count) (drop place es) → IsElement (element.Eci number)
  eci_valid number count fits =
      All-head IsElement (element.Eci number) fits.rest
      (subst (λ (xs : List Element). All IsElement xs) (fits.splits ∙ ap (λ (xs : List Element). xs ++ fits.rest) fits.entry.spells) (valid_rest es place valid))

  flag_first : (c : Code) → flag_code (slice_get (drop place es) 0) ≡ Some c → IsCheapest table es place m c → (other : Code) → IsCheapest table es place m other → FlagForm other
      → code_rank m c ≤ code_rank m other
  unfolding flag_code first_number second_number
  flag_first c is cheap (Latch to) other_cheap form = elim form [ ]
  flag_first c is cheap (Plain number) other_cheap form = elim form [ ]
  flag_first c is cheap (Shift to number) other_cheap form = elim form [ ]
  flag_first c is cheap (Run count long) other_cheap form = elim form [ ]
  flag_first c is cheap Fnc1 other_cheap of_fnc1 =
      let e : Some Fnc1 ≡ Some c = sym (ap flag_code (fnc1_here other_cheap.front)) ∙ is in
      let same : Fnc1 ≡ c = cc in
      let rank : code_rank m Fnc1 ≡ code_rank m c = ap (code_rank m) same in omega arith
  flag_first c is cheap (Eci number count) other_cheap of_eci =
      let e : Some (Eci number (fewest_digits number)) ≡ Some c = sym (ap flag_code (eci_here number count other_cheap.front)) ∙ is in
      let same : Eci number (fewest_digits number) ≡ c = cc in
      let few : fewest_digits number ≤ count = digits_least number count other_cheap.front.entry.has.1 other_cheap.front.entry.has.3 in
      let rank : code_rank m (Eci number (fewest_digits number)) ≡ code_rank m c = ap (code_rank m) same in omega arith

  flag_kind : (c : Code) → flag_code (slice_get (drop place es) 0) ≡ Some c → IsCheapest table es place m c → HasRank m 0 7 c
  unfolding flag_code first_number second_number
  flag_kind Fnc1 is cheap = (omega arith, omega arith)
  flag_kind (Eci number count) is cheap = (omega arith, omega (arith, cheap.front.entry.has.2))
  flag_kind (Latch to) is cheap = absurd (not_flag (slice_get (drop place es) 0) (Latch to) is (λ h. absurd (cc)) (λ n c h. absurd (cc)))
  flag_kind (Plain number) is cheap = absurd (not_flag (slice_get (drop place es) 0) (Plain number) is (λ h. absurd (cc)) (λ n c h. absurd (cc)))
  flag_kind (Shift to number) is cheap = absurd (not_flag (slice_get (drop place es) 0) (Shift to number) is (λ h. absurd (cc)) (λ n c h. absurd (cc)))
  flag_kind (Run count long) is cheap = absurd (not_flag (slice_get (drop place es) 0) (Run count long) is (λ h. absurd (cc)) (λ n c h. absurd (cc)))

  pub flag_pick : (o : Option Code) → IfSome o (λ c. (flag_code (slice_get (drop place es) 0) ≡ Some c) × IsCheapest table es place m c)
      → IfNone o ((c : Code) → flag_code (slice_get (drop place es) 0) ≡ Some c → IsCheapest table es place m c → ⊥)
      → IsFirstOfKind table es place m (HasRank m 0 7) o
  flag_pick None found none = λ other cheap (low, high). refused other cheap (flag_form (form_of cheap.front.entry) high)
    where
      refused : (other : Code) → IsCheapest table es place m other → FlagForm other → ⊥
      refused (Latch to) cheap form = elim form [ ]
      refused (Plain number) cheap form = elim form [ ]
      refused (Shift to number) cheap form = elim form [ ]
      refused (Run count long) cheap form = elim form [ ]
      refused Fnc1 cheap of_fnc1 = none Fnc1 (flag_of_fnc1 (fnc1_here cheap.front)) cheap
      refused (Eci number count) cheap of_eci =
          none (Eci number (fewest_digits number)) (flag_of_eci number (eci_here number count cheap.front)) (eci_fewest number count cheap (eci_valid number count cheap.front))
  flag_pick (Some c) found none = record {
    cheapest = found.1;
    kind = flag_kind c found.0 found.1;
    first = λ other cheap (low, high). flag_first c found.0 found.1 other cheap (flag_form (form_of cheap.front.entry) high);
  }

-- Behind FLG(n) a code of Punct begins with a number above 0.
form_punct : {m : Mode} {code : Code} {bits : List Bool} {spelled : List Element} {next : Mode} → Form m code bits spelled next → m ≡ Punct → 7 ≤ code_rank m code
    → code_rank m code < 4096 → ⊥
unfolding first_number second_number
form_punct {m} (latch {next = to} number is) punct low high =
    let first : number ≡ latch_number m to = latch_number-at m to number is in
    let none : number ≡ 0 = omega arith in
    no_latch_zero m to (subst (λ (k : ℕ). table_symbol m k ≡ LatchTo to) none is)
form_punct {m} {spelled = spelled} (plain {number = number} is) punct low high = absurd (omega (arith, data_low m number spelled is))
form_punct {m} {spelled = spelled} (shift {to = to} number {second = n} is data_is) punct low high =
    let first : number ≡ shift_number m to = shift_number-at m to number is in
    let none : number ≡ 0 = omega arith in
    let here : table_symbol Punct 0 ≡ ShiftTo to = subst (λ (x : Mode). table_symbol x 0 ≡ ShiftTo to) punct (subst (λ (k : ℕ). table_symbol m k ≡ ShiftTo to) none is) in
    let flag : table_symbol Punct 0 ≡ Flag = has_flag Punct in cc
form_punct (fnc1 flag) punct low high = absurd (omega arith)
form_punct (eci flag one_low six fits) punct low high = absurd (omega arith)
form_punct (short_run number bytes is size one_low many ok) punct low high = absurd (omega arith)
form_punct (long_run number bytes is size one_low many ok) punct low high = absurd (omega arith)

pub punct_none : (table : List Costs) (es : List Element) (place : ℕ) (m : Mode) → m ≡ Punct → IsFirstOfKind table es place m (HasRank m 7 4096) None
punct_none table es place m punct = λ other cheap (low, high). form_punct (form_of cheap.front.entry) punct low high

-- FLG(n) for what is in front spells it.
flag_candidate : (m : Mode) (xs : List Element) → All IsElement xs → (c : Code) → flag_code (slice_get xs 0) ≡ Some c → SpellsFront m c xs
unfolding flag_code
flag_candidate m [] valid c is = absurd (cc)
flag_candidate m (element.Byte byte ∷ xs) valid c is = absurd (cc)
flag_candidate m (element.Eci number ∷ xs) valid c is =
    let same : Eci number (fewest_digits number) ≡ c = cc in
    let (low, six, fits) = digits_fit number (All-head IsElement (element.Eci number) xs valid) in
    subst (λ (k : Code). SpellsFront m k (element.Eci number ∷ xs)) same (eci_fits m number (fewest_digits number) (element.Eci number ∷ xs) xs refl low six fits)
flag_candidate m (element.Fnc1 ∷ xs) valid c is =
    let same : Fnc1 ≡ c = cc in subst (λ (k : Code). SpellsFront m k (element.Fnc1 ∷ xs)) same (fnc1_fits m (element.Fnc1 ∷ xs) xs refl)

pub flag_moved : (front : Front) (xs : List Element) (o : Option Code) → o ≡ flag_code front.first → front ≡ front_of xs → o ≡ flag_code (slice_get xs 0)
flag_moved front xs o is fronts = is ∙ ap (λ (f : Front). flag_code f.first) fronts

pub flag_fits : (m : Mode) (front : Front) (xs : List Element) (o : Option Code) → o ≡ flag_code front.first → front ≡ front_of xs → All IsElement xs
    → ForSome o (λ c. SpellsFront m c xs)
flag_fits m front xs o is fronts valid c some = flag_candidate m xs valid c (sym (flag_moved front xs o is fronts) ∙ some)
