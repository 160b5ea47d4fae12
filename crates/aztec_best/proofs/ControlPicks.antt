-- The pick among the codes that begin with one latch, shift, or B/S.
use Rattle.std.proofs.Common.{◌≡◌, ◌⊎◌, inl, inr, ℕ, ◌+◌, ◌*◌, ◌≤◌, Bool, List, Option, Some, None, ap, subst, ◌∙◌, arith, IfSome, IfNone}
use Rattle.bar_base.specs.declared.element.Element.{Element}
use Rattle.aztec_modes.specs.declared.mode.Mode.{Mode}
use Rattle.aztec_modes.specs.declared.code.Code.{Code}
use Rattle.aztec_modes.specs.declared.code.Code.TheVariants.{Latch}
use Rattle.aztec_modes.specs.declared.table.Symbol.{Symbol}
use Rattle.aztec_modes.specs.declared.table.Symbol.TheVariants.{Absent, One, Two, LatchTo, ShiftTo, Binary, Flag}
use Rattle.aztec_modes.specs.Codes.{table_symbol, data_spelled}
use Rattle.aztec_modes.specs.Entry.{latch_number, SpellsFront}
use Rattle.aztec_modes.proofs.TableFacts.{flag_at, binary_at, latch_number-at}
use Rattle.aztec_modes.proofs.Forms.{Form, latch, plain, shift, fnc1, eci, short_run, long_run, form_of}
use Rattle.aztec_best.specs.declared.costs.Costs.{Costs}
use Rattle.aztec_best.specs.Numbers.{pair_of, controls_from}
use Rattle.aztec_best.specs.Order.{first_number, second_number}
use Rattle.aztec_best.specs.Picks.{IsCheapest, IsFirstOfKind, HasRank}
use Rattle.aztec_best.proofs.ByteLaws.{one_at, two_at, pair_few, tail_few}
use Rattle.aztec_best.proofs.CodeRanks.{data_low, symbol_present, latch_alone}
use Rattle.aztec_best.proofs.Decided.{latch_fits}
use Rattle.aztec_best.proofs.Picks.{one_picked, pick_behind, first_at}

-- A latch is the only code that begins with its number.
pub latch_picked : (table : List Costs) (es : List Element) (place : ℕ) (m to : Mode) (first : ℕ) (o : Option Code) → table_symbol m first ≡ LatchTo to
    → IfSome o (λ c. (Some (Latch to) ≡ Some c) × IsCheapest table es place m c)
    → IfNone o ((c : Code) → Some (Latch to) ≡ Some c → IsCheapest table es place m c → ⊥)
    → IsFirstOfKind table es place m (HasRank m (first * 4096) (first * 4096 + 4096)) o
unfolding first_number second_number
latch_picked table es place m to first o is found none =
    let number : first ≡ latch_number m to = latch_number-at m to first is in
    one_picked table es place m (HasRank m (first * 4096) (first * 4096 + 4096)) (Latch to) o found none (omega arith, omega arith)
    (λ other cheap (low, high).
    latch_alone to (form_of cheap.front.entry) (ap (table_symbol m) (first_at first cheap.front low high) ∙ is))

pub latch_at_front : (m to : Mode) (first : ℕ) (es : List Element) → table_symbol m first ≡ LatchTo to → SpellsFront m (Latch to) es
latch_at_front m to first es is = latch_fits m to es (subst (λ (k : ℕ). table_symbol m k ≡ LatchTo to) (latch_number-at m to first is) is)

no_shift_data : (s : Symbol) (spelled : List Element) (to : Mode) → data_spelled s ≡ Some spelled → s ≡ ShiftTo to → ⊥
unfolding data_spelled
no_shift_data (One byte) spelled to is h = cc
no_shift_data (Two a b) spelled to is h = cc
no_shift_data Absent spelled to is h = cc
no_shift_data (LatchTo x) spelled to is h = cc
no_shift_data (ShiftTo x) spelled to is h = cc
no_shift_data Binary spelled to is h = cc
no_shift_data Flag spelled to is h = cc

-- A code that begins with a shift above number 0 is no FLG(n), and one that begins with B/S is a run.
form_shift : {m : Mode} {code : Code} {bits : List Bool} {spelled : List Element} {next : Mode} (to : Mode) → Form m code bits spelled next
    → table_symbol m (first_number m code) ≡ ShiftTo to → 1 ≤ first_number m code → 7 ≤ second_number code
unfolding first_number second_number
form_shift {m} to (latch {next = next} number is) at some =
    absurd (let here : table_symbol m (latch_number m next) ≡ LatchTo next = subst (λ (k : ℕ). table_symbol m k ≡ LatchTo next) (latch_number-at m next number is) is in cc)
form_shift {m} {spelled = spelled} to (plain {number = number} is) at some = absurd (no_shift_data (table_symbol m number) spelled to is at)
form_shift {spelled = spelled} to (shift {to = other} number {second = n} is data_is) at some = omega (arith, data_low other n spelled data_is)
form_shift to (fnc1 flag) at some = absurd (omega arith)
form_shift to (eci flag low high fits) at some = absurd (omega arith)
form_shift {m} to (short_run number bytes is size low high ok) at some =
    absurd (let here : table_symbol m 31 ≡ Binary = subst (λ (k : ℕ). table_symbol m k ≡ Binary) (binary_at m number is).1 is in cc)
form_shift {m} to (long_run number bytes is size low high ok) at some =
    absurd (let here : table_symbol m 31 ≡ Binary = subst (λ (k : ℕ). table_symbol m k ≡ Binary) (binary_at m number is).1 is in cc)

pub shift_control : (table : List Costs) (es : List Element) (place : ℕ) (m to : Mode) (first : ℕ) (o : Option Code) → table_symbol m first ≡ ShiftTo to
    → controls_from m ≤ first → IsFirstOfKind table es place m (HasRank m (first * 4096 + 7) (first * 4096 + 4096)) o
    → IsFirstOfKind table es place m (HasRank m (first * 4096) (first * 4096 + 4096)) o
shift_control table es place m to first o is late pick =
    pick_behind table es place m (first * 4096) (first * 4096 + 7) (first * 4096 + 4096) o (omega arith)
    (λ other cheap (low, high).
    let at : first_number m other ≡ first = first_at first cheap.front low (omega arith) in
    let seven = form_shift to (form_of cheap.front.entry) (ap (table_symbol m) at ∙ is) (omega (arith, (tail_few m).0)) in
    absurd (omega arith)) pick

-- No code behind the data codes begins with a number that is Absent, a data code's, or FLG(n)'s.
pub control_none : (table : List Costs) (es : List Element) (place : ℕ) (m : Mode) (first : ℕ) → controls_from m ≤ first
    → ((table_symbol m first ≡ Absent) ⊎ (((byte : ℕ) × (table_symbol m first ≡ One byte)) ⊎ (((a b : ℕ) × (table_symbol m first ≡ Two a b)) ⊎ (table_symbol m first ≡ Flag))))
    → IsFirstOfKind table es place m (HasRank m (first * 4096) (first * 4096 + 4096)) None
control_none table es place m first late kind = λ other cheap (low, high). refused other cheap (first_at first cheap.front low high) kind
  where
    refused : (other : Code) → IsCheapest table es place m other → first_number m other ≡ first
        → (table_symbol m first ≡ Absent) ⊎ (((byte : ℕ) × (table_symbol m first ≡ One byte)) ⊎ (((a b : ℕ) × (table_symbol m first ≡ Two a b)) ⊎ (table_symbol m first ≡ Flag))) → ⊥
    refused other cheap at (inl absent) = symbol_present (form_of cheap.front.entry) (ap (table_symbol m) at ∙ absent)
    refused other cheap at (inr (inl (byte, is))) = absurd (let below = (one_at m first byte is).1 in omega arith)
    refused other cheap at (inr (inr (inl (a, b, is)))) = absurd (let is_pair_number : pair_of a ≡ first = two_at m first a b is in omega (arith, pair_few m a))
    refused other cheap at (inr (inr (inr is))) = absurd (let none : first ≡ 0 = (flag_at m first is).1 in omega (arith, (tail_few m).0))
