-- The pick among runs: a run of each form by its number of bytes.
use Rattle.std.proofs.Common.{◌≡◌, inl, inr, ℕ, ◌+◌, ◌-◌, ◌*◌, ◌<◌, ◌≤◌, min, Bool, true, false, List, length, drop, All, Option, Some, None, sym, ap, subst, ◌∙◌, arith}
use Rattle.std.proofs.lemmas.Bool.{cases_lt}
use Rattle.bar_base.specs.Elements.{IsElement}
use Rattle.bar_base.specs.declared.element.Element.{Element}
use Rattle.aztec_modes.specs.declared.mode.Mode.{Mode}
use Rattle.aztec_modes.specs.declared.code.Code.{Code}
use Rattle.aztec_modes.specs.declared.code.Code.TheVariants.{Run}
use Rattle.aztec_modes.specs.declared.table.Symbol.TheVariants.{Binary}
use Rattle.aztec_modes.specs.Codes.{table_symbol}
use Rattle.aztec_modes.specs.Entry.{code_count, code_length, code_next, SpellsFront, run_head}
use Rattle.aztec_modes.proofs.TableFacts.{binary_at}
use Rattle.aztec_modes.proofs.Forms.{form_of}
use Rattle.aztec_best.specs.declared.costs.Costs.{Costs}
use Rattle.aztec_best.specs.declared.front.Front.{Front}
use Rattle.aztec_best.specs.Bench.{kept_cost}
use Rattle.aztec_best.specs.Front.{bytes_ahead, front_of}
use Rattle.aztec_best.specs.Order.{first_number, second_number, code_rank}
use Rattle.aztec_best.specs.Picks.{cost_through, IsCheapest, IsFirstOfKind, HasRank}
use Rattle.aztec_best.proofs.CodeRanks.{numbers_few, long_alone, short_alone}
use Rattle.aztec_best.proofs.Decided.{short_fits, long_fits, run_there}
use Rattle.aztec_best.proofs.Small.{valid_rest, stands_within}

pub run_control : (table : List Costs) (es : List Element) (place : ℕ) (m : Mode) (first : ℕ) (o : Option Code) → table_symbol m first ≡ Binary
    → IsFirstOfKind table es place m (HasRank m (31 * 4096) (32 * 4096)) o → IsFirstOfKind table es place m (HasRank m (first * 4096) (first * 4096 + 4096)) o
run_control table es place m first o is pick =
    let at : first ≡ 31 = (binary_at m first is).1 in
    subst (λ (k : ℕ). IsFirstOfKind table es place m (HasRank m (k * 4096) (k * 4096 + 4096)) o) (sym at) pick

pub binary_there : (m : Mode) (first : ℕ) → table_symbol m first ≡ Binary → table_symbol m 31 ≡ Binary
binary_there m first is = subst (λ (k : ℕ). table_symbol m k ≡ Binary) (binary_at m first is).1 is

ahead_is : (front : Front) (xs : List Element) → front ≡ front_of xs → front.ahead ≡ min (bytes_ahead xs) 2078
ahead_is front xs is = ap (λ (f : Front). f.ahead) is

module _ (table : List Costs) (es : List Element) (place : ℕ) (m : Mode) (front : Front) (fronts : front ≡ front_of (drop place es)) (valid : All IsElement es)
    (binary : table_symbol m 31 ≡ Binary) where
  pub long_at_front : (more : ℕ) → more < front.ahead - 30 → SpellsFront m (Run (more + 31) true) (drop place es)
  long_at_front more below =
      let ahead = ahead_is front (drop place es) fronts in
      long_fits m (more + 31) (drop place es) (valid_rest es place valid) binary (omega arith) (omega arith) (omega arith)

  pub short_at_front : (less : ℕ) → less < min front.ahead 31 → SpellsFront m (Run (less + 1) false) (drop place es)
  short_at_front less below =
      let ahead = ahead_is front (drop place es) fronts in
      short_fits m (less + 1) (drop place es) (valid_rest es place valid) binary (omega arith) (omega arith) (omega arith)

  -- The run of the long form with a rank.
  long_of_rank : (other : Code) (more : ℕ) → IsCheapest table es place m other → code_rank m other ≡ 31 * 4096 + more → more < 2048 → other ≡ Run (more + 31) true
  long_of_rank other more cheap rank below =
      let few = (numbers_few (form_of cheap.front.entry)).1 in
      let at : first_number m other ≡ 31 = omega arith in
      let second : second_number other ≡ more = omega arith in
      long_alone (form_of cheap.front.entry) (ap (table_symbol m) at ∙ binary) (omega arith) ∙ ap (λ (n : ℕ). Run (n + 31) true) second

  short_of_rank : (other : Code) (less : ℕ) → IsCheapest table es place m other → code_rank m other ≡ 31 * 4096 + 2048 + less → less < 2048 → other ≡ Run (less + 1) false
  short_of_rank other less cheap rank below =
      let few = (numbers_few (form_of cheap.front.entry)).1 in
      let at : first_number m other ≡ 31 = omega arith in
      let second : second_number other - 2047 ≡ less + 1 = omega arith in
      short_alone (form_of cheap.front.entry) (ap (table_symbol m) at ∙ binary) (omega arith) ∙ ap (λ (n : ℕ). Run n false) second

  -- One run more looked at.
  pub long_more : (more : ℕ) → more < 2048 → IsFirstOfKind table es place m (HasRank m (31 * 4096) (31 * 4096 + more)) None
      → ((c : Code) → Some (Run (more + 31) true) ≡ Some c → IsCheapest table es place m c → ⊥)
      → IsFirstOfKind table es place m (HasRank m (31 * 4096) (31 * 4096 + (more + 1))) None
  long_more more below none refused = λ other cheap (low, high).
      elim (cases_lt (code_rank m other) (31 * 4096 + more)) [
        | inl before ↦ none other cheap (low, before)
        | inr at ↦ refused other (ap Some (sym (long_of_rank other more cheap (omega arith) below))) cheap
      ]

  pub short_more : (less : ℕ) → less < 2048 → IsFirstOfKind table es place m (HasRank m (31 * 4096 + 2048) (31 * 4096 + 2048 + less)) None
      → ((c : Code) → Some (Run (less + 1) false) ≡ Some c → IsCheapest table es place m c → ⊥)
      → IsFirstOfKind table es place m (HasRank m (31 * 4096 + 2048) (31 * 4096 + 2048 + (less + 1))) None
  short_more less below none refused = λ other cheap (low, high).
      elim (cases_lt (code_rank m other) (31 * 4096 + 2048 + less)) [
        | inl before ↦ none other cheap (low, before)
        | inr at ↦ refused other (ap Some (sym (short_of_rank other less cheap (omega arith) below))) cheap
      ]

  -- The run that is found is the pick.
  pub long_found : (more : ℕ) (found : Code) → more < 2048 → IsFirstOfKind table es place m (HasRank m (31 * 4096) (31 * 4096 + more)) None
      → (Some (Run (more + 31) true) ≡ Some found) × IsCheapest table es place m found → IsFirstOfKind table es place m (HasRank m (31 * 4096) (31 * 4096 + 2048)) (Some found)
  unfolding first_number second_number
  long_found more found below none is =
      let same : Run (more + 31) true ≡ found = let e = is.0 in cc in
      let rank : code_rank m found ≡ 31 * 4096 + (more + 31 - 31) = ap (code_rank m) (sym same) in
      record {
        cheapest = is.1;
        kind = (omega arith, omega arith);
        first = λ other cheap (low, high).
            elim (cases_lt (code_rank m other) (31 * 4096 + more)) [ inl before ↦ absurd (none other cheap (low, before)) | inr at ↦ omega arith ];
      }

  pub short_found : (less : ℕ) (found : Code) → less < 31 → IsFirstOfKind table es place m (HasRank m (31 * 4096 + 2048) (31 * 4096 + 2048 + less)) None
      → (Some (Run (less + 1) false) ≡ Some found) × IsCheapest table es place m found → IsFirstOfKind table es place m (HasRank m (31 * 4096 + 2048) (32 * 4096)) (Some found)
  unfolding first_number second_number
  short_found less found below none is =
      let same : Run (less + 1) false ≡ found = let e = is.0 in cc in
      let rank : code_rank m found ≡ 31 * 4096 + (less + 1 + 2047) = ap (code_rank m) (sym same) in
      record {
        cheapest = is.1;
        kind = (omega arith, omega arith);
        first = λ other cheap (low, high).
            elim (cases_lt (code_rank m other) (31 * 4096 + 2048 + less)) [ inl before ↦ absurd (none other cheap (low, before)) | inr at ↦ omega arith ];
      }

  -- Past the bytes in front there is no run.
  pub long_all : (more : ℕ) → front.ahead - 30 ≤ more → IsFirstOfKind table es place m (HasRank m (31 * 4096) (31 * 4096 + more)) None
      → IsFirstOfKind table es place m (HasRank m (31 * 4096) (31 * 4096 + 2048)) None
  long_all more past none = λ other cheap (low, high).
      elim (cases_lt (code_rank m other) (31 * 4096 + more)) [
        | inl before ↦ none other cheap (low, before)
        | inr after ↦ too_long other (code_rank m other - 31 * 4096) cheap (omega arith) (omega arith) (omega arith)
      ]
    where
      too_long : (other : Code) (count : ℕ) → IsCheapest table es place m other → code_rank m other ≡ 31 * 4096 + count → count < 2048 → front.ahead - 30 ≤ count → ⊥
      too_long other count cheap rank below late =
          let fits : SpellsFront m (Run (count + 31) true) (drop place es) =
          subst (λ (c : Code). SpellsFront m c (drop place es)) (long_of_rank other count cheap rank below) cheap.front in
          let ahead = ahead_is front (drop place es) fronts in
          absurd (omega (arith, run_there m (count + 31) true (drop place es) fits, fits.entry.has.2))

  pub short_all : (less : ℕ) → min front.ahead 31 ≤ less → IsFirstOfKind table es place m (HasRank m (31 * 4096 + 2048) (31 * 4096 + 2048 + less)) None
      → IsFirstOfKind table es place m (HasRank m (31 * 4096 + 2048) (32 * 4096)) None
  short_all less past none = λ other cheap (low, high).
      elim (cases_lt (code_rank m other) (31 * 4096 + 2048 + less)) [
        | inl before ↦ none other cheap (low, before)
        | inr after ↦ too_long other (code_rank m other - (31 * 4096 + 2048)) cheap (omega arith) (omega arith) (omega arith)
      ]
    where
      too_long : (other : Code) (count : ℕ) → IsCheapest table es place m other → code_rank m other ≡ 31 * 4096 + 2048 + count → count < 2048 → min front.ahead 31 ≤ count → ⊥
      too_long other count cheap rank below late =
          let fits : SpellsFront m (Run (count + 1) false) (drop place es) =
          subst (λ (c : Code). SpellsFront m c (drop place es)) (short_of_rank other count cheap rank below) cheap.front in
          let ahead = ahead_is front (drop place es) fronts in
          absurd (omega (arith, run_there m (count + 1) false (drop place es) fits, fits.entry.has.2))

pub ahead_few : (front : Front) (xs : List Element) → front ≡ front_of xs → front.ahead ≤ 2078
ahead_few front xs is = omega (arith, ahead_is front xs is)

-- A run and the cheapest rest after it.
pub run_cheap : (table : List Costs) (es : List Element) (place : ℕ) (m : Mode) (count : ℕ) (long : Bool) → SpellsFront m (Run count long) (drop place es)
    → run_head long + 8 * count + kept_cost table (place + count) m ≡ kept_cost table place m → IsCheapest table es place m (Run count long)
unfolding cost_through code_length code_count code_next
run_cheap table es place m count long front fewest = record { front = front; fewest = fewest }

pub run_dear : (table : List Costs) (es : List Element) (place : ℕ) (m : Mode) (count : ℕ) (long : Bool)
    → (run_head long + 8 * count + kept_cost table (place + count) m ≡ kept_cost table place m → ⊥)
    → (c : Code) → Some (Run count long) ≡ Some c → IsCheapest table es place m c → ⊥
unfolding cost_through code_length code_count code_next
run_dear table es place m count long dear c is cheap =
    let same : Run count long ≡ c = cc in
    let again : IsCheapest table es place m (Run count long) = subst (λ (k : Code). IsCheapest table es place m k) (sym same) cheap in
    dear again.fewest

pub run_within : (es : List Element) (place : ℕ) (m : Mode) (count : ℕ) (long : Bool) → SpellsFront m (Run count long) (drop place es) → place ≤ length es
    → place + count ≤ length es
unfolding code_count
run_within es place m count long front within = stands_within m (Run count long) es place front within
