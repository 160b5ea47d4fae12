-- What begins with a run: the least keys give the fewest bits over the runs of a form, and both forms together those over all runs.
use Rattle.std.proofs.Common.{◌≡◌, ◌⊎◌, inl, inr, ℕ, ◌+◌, ◌-◌, ◌*◌, ◌<◌, ◌≤◌, min, true, false, List, All, refl, sym, ap, subst, ◌∙◌, arith}
use Rattle.bar_base.specs.Elements.{IsElement}
use Rattle.bar_base.specs.declared.element.Element.{Element}
use Rattle.aztec_modes.specs.declared.mode.Mode.{Mode}
use Rattle.aztec_modes.specs.declared.mode.Mode.TheVariants.{Upper, Lower, Mixed, Punct, Digit}
use Rattle.aztec_modes.specs.declared.code.Code.TheVariants.{Run}
use Rattle.aztec_modes.specs.declared.table.Symbol.TheVariants.{Binary}
use Rattle.aztec_modes.specs.Codes.{table_symbol, code_table, mode_width}
use Rattle.aztec_modes.specs.Entry.{code_count, code_length, code_next}
use Rattle.aztec_best.specs.Front.{bytes_ahead}
use Rattle.aztec_best.specs.Picks.{cost_through}
use Rattle.aztec_best.proofs.Decided.{short_fits, long_fits}
use Rattle.aztec_modes.proofs.TableFacts.{binary_at}
use Rattle.aztec_best.specs.declared.costs.Costs.{Costs}
use Rattle.aztec_best.specs.declared.lows.Lows.{Lows}
use Rattle.aztec_best.specs.Bench.{kept_cost}
use Rattle.aztec_best.specs.Lows.{key, IsLow, AreLows, HasKeys}
use Rattle.aztec_best.specs.Runs.{run_length, IsRun, AreRuns, IsRunStart, AreRunStarts}
use Rattle.aztec_best.proofs.DataLaws.{Reached}

-- a least key over places that are there is a key
pub record IsKey (table : List Costs) (m : Mode) (low high number : ℕ) : Type 0 where
  pub place : ℕ
  pub late : low ≤ place
  pub early : place < high
  pub is : number ≡ key table m place
  pub small : number ≤ 400000
  pub large : 8 * low ≤ number

pub low_key : (table : List Costs) (m : Mode) (low top number : ℕ) → HasKeys table low top → IsLow table m low (top + 1) number → IsKey table m low (top + 1) number
unfolding key
low_key table m low top number keys is =
    let few : number ≤ 303113 + 8 * 8192 = omega (arith, is.bound low (omega arith) (omega (arith, keys.some)), keys.small low m (omega arith) keys.some, keys.some, keys.within) in
    elim is.reached [
      | inl at ↦ record { place = at.0; late = at.1; early = at.2; is = at.3; small = omega arith; large = omega (arith, at.1, at.3) }
      | inr big ↦ absurd (omega arith)
    ]

run_of_low : (table : List Costs) (m : Mode) (place fewest most head low number : ℕ) → IsLow table m (place + fewest) (place + most + 1) low
    → IsKey table m (place + fewest) (place + most + 1) low → number ≡ low - 8 * place + head → IsRun table m place fewest most head number
unfolding key run_length
run_of_low table m place fewest most head low number is at e = record {
  bound = λ count many few. omega (arith, is.bound (place + count) (omega arith) (omega arith), at.large);
  reached = (
    at.place - place,
    omega (arith, at.late),
    omega (arith, at.early),
    (let same : place + (at.place - place) ≡ at.place = omega (arith, at.late) in omega (arith, at.is, at.late, ap (λ (p : ℕ). kept_cost table p m) same)),
  );
}

pub runs_of_lows : (table : List Costs) (place fewest most head : ℕ) (lows runs : Lows) → HasKeys table (place + fewest) (place + most)
    → AreLows table (place + fewest) (place + most + 1) lows
    → runs.upper ≡ lows.upper - 8 * place + head → runs.lower ≡ lows.lower - 8 * place + head → runs.mixed ≡ lows.mixed - 8 * place + head
    → AreRuns table place fewest most head runs
runs_of_lows table place fewest most head lows runs keys are upper lower mixed = record {
  upper = run_of_low table Upper place fewest most head lows.upper runs.upper are.upper (low_key table Upper (place + fewest) (place + most) lows.upper keys are.upper) upper;
  lower = run_of_low table Lower place fewest most head lows.lower runs.lower are.lower (low_key table Lower (place + fewest) (place + most) lows.lower keys are.lower) lower;
  mixed = run_of_low table Mixed place fewest most head lows.mixed runs.mixed are.mixed (low_key table Mixed (place + fewest) (place + most) lows.mixed keys are.mixed) mixed;
}

pub keys_later : (table : List Costs) (place fewest most bytes : ℕ) → HasKeys table (place + 1) (place + bytes) → 1 ≤ fewest → fewest ≤ most → most ≤ bytes
    → HasKeys table (place + fewest) (place + most)
keys_later table place fewest most bytes keys some within there = record {
  room = omega (arith, keys.room);
  some = omega arith;
  within = omega (arith, keys.within);
  small = λ other m late early. keys.small other m (omega arith) (omega arith);
}

-- both forms
start_none : (table : List Costs) (m : Mode) (place number : ℕ) → 1073741824 ≤ number → IsRunStart table m place 0 number
start_none table m place number big = record {
  short = λ count some few there. absurd (omega arith);
  long = λ count some few there. absurd (omega arith);
  reached = inr (inr big);
}

start_short : (table : List Costs) (m : Mode) (place bytes number : ℕ) → bytes < 31 → IsRun table m place 1 (min bytes 31) 10 number → IsRunStart table m place bytes number
start_short table m place bytes number few is = record {
  short = λ count some at_most there. is.bound count some (omega arith);
  long = λ count some at_most there. absurd (omega arith);
  reached = let (count, some, at_most, e) = is.reached in inl (count, some, omega arith, omega arith, e);
}

min_parts : (a b c : ℕ) → c ≡ min a b → ((c ≡ a) × (a ≤ b)) ⊎ ((c ≡ b) × (b ≤ a))
min_parts a b c e = grind arith

start_both : (table : List Costs) (m : Mode) (place bytes short long number : ℕ) → IsRun table m place 1 (min bytes 31) 10 short
    → IsRun table m place 31 (min bytes 2078) 21 long → number ≡ min short long → IsRunStart table m place bytes number
start_both table m place bytes short long number in_short in_long is = record {
  short = λ count some at_most there. omega (arith, in_short.bound count some (omega arith));
  long = λ count some at_most there. omega (arith, in_long.bound count some (omega arith));
  reached = elim (min_parts short long number is) [
    | inl here ↦ let (count, some, at_most, e) = in_short.reached in inl (count, some, omega arith, omega arith, here.0 ∙ e)
    | inr there ↦ let (count, some, at_most, e) = in_long.reached in inr (inl (count, some, omega arith, omega arith, there.0 ∙ e))
  ];
}

pub starts_none : (table : List Costs) (place bytes : ℕ) → bytes ≡ 0
    → AreRunStarts table place bytes (record { upper = 1073741824; lower = 1073741824; mixed = 1073741824 })
starts_none table place bytes is =
    subst (λ (n : ℕ). AreRunStarts table place n (record { upper = 1073741824; lower = 1073741824; mixed = 1073741824 })) (sym is)
    (record {
      upper = start_none table Upper place 1073741824 (omega arith);
      lower = start_none table Lower place 1073741824 (omega arith);
      mixed = start_none table Mixed place 1073741824 (omega arith);
    })

pub starts_short : (table : List Costs) (place bytes : ℕ) (runs : Lows) → bytes < 31 → AreRuns table place 1 (min bytes 31) 10 runs → AreRunStarts table place bytes runs
starts_short table place bytes runs few are = record {
  upper = start_short table Upper place bytes runs.upper few are.upper;
  lower = start_short table Lower place bytes runs.lower few are.lower;
  mixed = start_short table Mixed place bytes runs.mixed few are.mixed;
}

pub starts_both : (table : List Costs) (place bytes : ℕ) (short long runs : Lows) → AreRuns table place 1 (min bytes 31) 10 short → AreRuns table place 31 (min bytes 2078) 21 long
    → runs.upper ≡ min short.upper long.upper → runs.lower ≡ min short.lower long.lower → runs.mixed ≡ min short.mixed long.mixed → AreRunStarts table place bytes runs
starts_both table place bytes short long runs in_short in_long upper lower mixed = record {
  upper = start_both table Upper place bytes short.upper long.upper runs.upper in_short.upper in_long.upper upper;
  lower = start_both table Lower place bytes short.lower long.lower runs.lower in_short.lower in_long.lower lower;
  mixed = start_both table Mixed place bytes short.mixed long.mixed runs.mixed in_short.mixed in_long.mixed mixed;
}

-- a run that is reached spells the front
run_reached : (table : List Costs) (place : ℕ) (m : Mode) (xs : List Element) (bytes number : ℕ) → table_symbol m 31 ≡ Binary → All IsElement xs → bytes ≡ bytes_ahead xs
    → IsRunStart table m place bytes number → number < 1073741824 → Reached table place m xs number
unfolding cost_through run_length code_length code_count code_next
run_reached table place m xs bytes number binary valid counted start small =
    elim start.reached [
      | inl short ↦
          let (count, some, few, there, e) = short in
          record { code = Run count false; stands = short_fits m count xs valid binary some few (omega arith); many = some; sum = e }
      | inr more ↦ elim more [
        | inl long ↦
            let (count, some, few, there, e) = long in
            record { code = Run count true; stands = long_fits m count xs valid binary some few (omega arith); many = omega arith; sum = e }
        | inr big ↦ absurd (omega arith)
      ]
    ]

pub upper_reached : (table : List Costs) (place : ℕ) (xs : List Element) (bytes number : ℕ) → All IsElement xs → bytes ≡ bytes_ahead xs
    → IsRunStart table Upper place bytes number → number < 1073741824 → Reached table place Upper xs number
unfolding table_symbol code_table
upper_reached table place xs bytes number = run_reached table place Upper xs bytes number refl

pub lower_reached : (table : List Costs) (place : ℕ) (xs : List Element) (bytes number : ℕ) → All IsElement xs → bytes ≡ bytes_ahead xs
    → IsRunStart table Lower place bytes number → number < 1073741824 → Reached table place Lower xs number
unfolding table_symbol code_table
lower_reached table place xs bytes number = run_reached table place Lower xs bytes number refl

pub mixed_reached : (table : List Costs) (place : ℕ) (xs : List Element) (bytes number : ℕ) → All IsElement xs → bytes ≡ bytes_ahead xs
    → IsRunStart table Mixed place bytes number → number < 1073741824 → Reached table place Mixed xs number
unfolding table_symbol code_table
mixed_reached table place xs bytes number = run_reached table place Mixed xs bytes number refl

-- runs stand in three modes
pub no_run_in_punct : (number : ℕ) → table_symbol Punct number ≡ Binary → ⊥
unfolding table_symbol code_table
no_run_in_punct number is =
    let at : number ≡ 31 = (binary_at Punct number is).1 in
    let e : table_symbol Punct 31 ≡ Binary = subst (λ (k : ℕ). table_symbol Punct k ≡ Binary) at is in
    cc

pub no_run_in_digit : (number : ℕ) → table_symbol Digit number ≡ Binary → ⊥
unfolding mode_width
no_run_in_digit number is = let wide : mode_width Digit ≡ 5 = (binary_at Digit number is).0 in omega arith
