-- Least keys: of no place, of one, and of neighbouring places together; and what a window keeps.
use Rattle.std.proofs.Common.{◌≡◌, ◌⊎◌, inl, inr, ℕ, ◌+◌, ◌-◌, ◌<◌, ◌≤◌, List, length, set, min, sym, ap, subst, ◌∙◌, arith}
use Rattle.std.proofs.lemmas.List.{get_or-set_same, get_or-set_other}
use Rattle.std.proofs.lemmas.Bool.{cases_lt, cases_eq}
use Rattle.aztec_modes.specs.declared.mode.Mode.{Mode}
use Rattle.aztec_modes.specs.declared.mode.Mode.TheVariants.{Upper, Lower, Mixed}
use Rattle.aztec_best.specs.declared.costs.Costs.{Costs}
use Rattle.aztec_best.specs.declared.lows.Lows.{Lows}
use Rattle.aztec_best.specs.declared.window.Window.{Window}
use Rattle.aztec_best.specs.Lows.{key, IsLow, AreLows, ArePrefixes, IsWindow, lows_at}
use Rattle.aztec_best.proofs.CostLaws.{kept_cost-other}

pub low_none : (table : List Costs) (m : Mode) (low number : ℕ) → 1073741824 ≤ number → IsLow table m low low number
low_none table m low number big = record { bound = λ place late early. absurd (omega arith); reached = inr big }

pub low_one : (table : List Costs) (m : Mode) (place number : ℕ) → number ≡ key table m place → IsLow table m place (place + 1) number
low_one table m place number is = record {
  bound = λ other late early. let same : place ≡ other = omega arith in omega (arith, ap (key table m) same);
  reached = inl (place, omega arith, omega arith, is);
}

min_parts : (a b c : ℕ) → c ≡ min a b → ((c ≡ a) × (a ≤ b)) ⊎ ((c ≡ b) × (b ≤ a))
min_parts a b c e = grind arith

pub low_join : (table : List Costs) (m : Mode) (low mid high a b c : ℕ) → IsLow table m low mid a → IsLow table m mid high b → low ≤ mid → mid ≤ high → c ≡ min a b
    → IsLow table m low high c
low_join table m low mid high a b c former latter before after is = record {
  bound = λ place late early. elim (cases_lt place mid) [
    | inl below ↦ omega (arith, former.bound place late below)
    | inr past ↦ omega (arith, latter.bound place past early)
  ];
  reached = elim (min_parts a b c is) [
    | inl here ↦ elim former.reached [
      | inl at ↦ inl (at.0, at.1, omega (arith, at.2), here.0 ∙ at.3)
      | inr big ↦ inr (omega (arith, here.0))
    ]
    | inr there ↦ elim latter.reached [
      | inl at ↦ inl (at.0, omega (arith, at.1), at.2, there.0 ∙ at.3)
      | inr big ↦ inr (omega (arith, there.0))
    ]
  ];
}

-- the three modes at once
pub lows_none : (table : List Costs) (low : ℕ) → AreLows table low low (record { upper = 1073741824; lower = 1073741824; mixed = 1073741824 })
lows_none table low = record {
  upper = low_none table Upper low 1073741824 (omega arith);
  lower = low_none table Lower low 1073741824 (omega arith);
  mixed = low_none table Mixed low 1073741824 (omega arith);
}

pub lows_one : (table : List Costs) (place : ℕ) (lows : Lows) → lows.upper ≡ key table Upper place → lows.lower ≡ key table Lower place → lows.mixed ≡ key table Mixed place
    → AreLows table place (place + 1) lows
lows_one table place lows upper lower mixed = record {
  upper = low_one table Upper place lows.upper upper;
  lower = low_one table Lower place lows.lower lower;
  mixed = low_one table Mixed place lows.mixed mixed;
}

pub lows_join : (table : List Costs) (low mid high : ℕ) (a b c : Lows) → AreLows table low mid a → AreLows table mid high b → low ≤ mid → mid ≤ high
    → c.upper ≡ min a.upper b.upper → c.lower ≡ min a.lower b.lower → c.mixed ≡ min a.mixed b.mixed → AreLows table low high c
lows_join table low mid high a b c former latter before after upper lower mixed = record {
  upper = low_join table Upper low mid high a.upper b.upper c.upper former.upper latter.upper before after upper;
  lower = low_join table Lower low mid high a.lower b.lower c.lower former.lower latter.lower before after lower;
  mixed = low_join table Mixed low mid high a.mixed b.mixed c.mixed former.mixed latter.mixed before after mixed;
}

-- a later cost changes no keys behind it
low_kept : (table : List Costs) (m : Mode) (low high number place : ℕ) (new : Costs) → place < low → IsLow table m low high number
    → IsLow (set table place new) m low high number
unfolding key
low_kept table m low high number place new before is = record {
  bound = λ other late early. omega (arith, is.bound other late early, kept_cost-other table place other new m (λ e. absurd (omega arith)));
  reached = elim is.reached [
    | inl at ↦ inl (at.0, at.1, at.2, omega (arith, at.3, kept_cost-other table place at.0 new m (λ e. absurd (omega (arith, at.1)))))
    | inr big ↦ inr big
  ];
}

pub lows_kept : (table : List Costs) (low high place : ℕ) (lows : Lows) (new : Costs) → place < low → AreLows table low high lows
    → AreLows (set table place new) low high lows
lows_kept table low high place lows new before are = record {
  upper = low_kept table Upper low high lows.upper place new before are.upper;
  lower = low_kept table Lower low high lows.lower place new before are.lower;
  mixed = low_kept table Mixed low high lows.mixed place new before are.mixed;
}

pub window_kept : (table : List Costs) (stored : List Lows) (low top place : ℕ) (window : Window) (new : Costs) → place < low → IsWindow table stored low top window
    → IsWindow (set table place new) stored low top window
window_kept table stored low top place window new before is = record {
  after = is.after;
  recent = lows_kept table low window.split place window.recent new before is.recent;
  kept = λ other late early. lows_kept table window.split (other + 1) place (lows_at stored (other - window.split)) new (omega (arith, is.after)) (is.kept other late early);
}

lows_at-set : (stored : List Lows) (place : ℕ) (new : Lows) → place < length stored → lows_at (set stored place new) place ≡ new
unfolding lows_at
lows_at-set stored place new within = get_or-set_same stored place new (record { upper = 0; lower = 0; mixed = 0 }) within

lows_at-other : (stored : List Lows) (place other : ℕ) (new : Lows) → (other ≡ place → ⊥) → lows_at (set stored place new) other ≡ lows_at stored other
unfolding lows_at
lows_at-other stored place other new apart = get_or-set_other stored place other new (record { upper = 0; lower = 0; mixed = 0 }) apart

-- the loop that refills
pub record IsRefilled (table : List Costs) (stored : List Lows) (low place : ℕ) (running : Lows) : Type 0 where
  pub least : AreLows table low place running
  pub kept : (other : ℕ) → low ≤ other → other < place → AreLows table low (other + 1) (lows_at stored (other - low))

pub refilled_none : (table : List Costs) (stored : List Lows) (low : ℕ) → IsRefilled table stored low low (record { upper = 1073741824; lower = 1073741824; mixed = 1073741824 })
refilled_none table stored low = record { least = lows_none table low; kept = λ other late early. absurd (omega arith) }

pub refilled_more : (table : List Costs) (stored : List Lows) (low place : ℕ) (running here next : Lows) → IsRefilled table stored low place running → low ≤ place
    → place - low < length stored → here.upper ≡ key table Upper place → here.lower ≡ key table Lower place → here.mixed ≡ key table Mixed place
    → next.upper ≡ min running.upper here.upper → next.lower ≡ min running.lower here.lower → next.mixed ≡ min running.mixed here.mixed
    → IsRefilled table (set stored (place - low) next) low (place + 1) next
refilled_more table stored low place running here next is late within upper lower mixed upper' lower' mixed' =
    let more : AreLows table low (place + 1) next =
    lows_join table low place (place + 1) running here next is.least (lows_one table place here upper lower mixed) late (omega arith) upper' lower' mixed' in
    record {
      least = more;
      kept = λ other at_least below. elim (cases_eq other place) [
        | inl at ↦ subst (λ (p : ℕ). AreLows table low (p + 1) (lows_at (set stored (place - low) next) (p - low))) (sym at)
            (subst (λ (l : Lows). AreLows table low (place + 1) l) (sym (lows_at-set stored (place - low) next within)) more)
        | inr apart ↦ subst (λ (l : Lows). AreLows table low (other + 1) l) (sym (lows_at-other stored (place - low) (other - low) next (λ e. apart (omega arith))))
            (is.kept other at_least (omega arith))
      ];
    }

pub refilled_all : (table : List Costs) (stored : List Lows) (low top : ℕ) (running : Lows) → IsRefilled table stored low (top + 1) running → ArePrefixes table stored low top
refilled_all table stored low top running is = λ place late early. is.kept place late (omega arith)

-- a window that begins anew, and one that goes on
pub window_anew : (table : List Costs) (stored : List Lows) (low top : ℕ) → ArePrefixes table stored low top
    → IsWindow table stored low top (record { split = low; recent = record { upper = 1073741824; lower = 1073741824; mixed = 1073741824 } })
window_anew table stored low top prefixes = record { after = omega arith; recent = lows_none table low; kept = prefixes }

pub window_on : (table : List Costs) (stored : List Lows) (low top : ℕ) (window : Window) (here next : Lows) → IsWindow table stored (low + 1) top window
    → here.upper ≡ key table Upper low → here.lower ≡ key table Lower low → here.mixed ≡ key table Mixed low
    → next.upper ≡ min window.recent.upper here.upper → next.lower ≡ min window.recent.lower here.lower → next.mixed ≡ min window.recent.mixed here.mixed
    → IsWindow table stored low top (record { split = window.split; recent = next })
window_on table stored low top window here next is upper lower mixed upper' lower' mixed' = record {
  after = omega (arith, is.after);
  recent = lows_join table low (low + 1) window.split here window.recent next (lows_one table low here upper lower mixed) is.recent (omega arith) (is.after)
      (upper' ∙ swapped window.recent.upper here.upper) (lower' ∙ swapped window.recent.lower here.lower) (mixed' ∙ swapped window.recent.mixed here.mixed);
  kept = is.kept;
}
  where
    swapped : (a b : ℕ) → min a b ≡ min b a
    swapped a b = omega arith

-- the least of a window
pub window_least : (table : List Costs) (stored : List Lows) (low top : ℕ) (window : Window) (result : Lows) → IsWindow table stored low top window → window.split ≤ top
    → result.upper ≡ min window.recent.upper (lows_at stored (top - window.split)).upper → result.lower ≡ min window.recent.lower (lows_at stored (top - window.split)).lower
    → result.mixed ≡ min window.recent.mixed (lows_at stored (top - window.split)).mixed → AreLows table low (top + 1) result
window_least table stored low top window result is inside upper lower mixed =
    lows_join table low window.split (top + 1) window.recent (lows_at stored (top - window.split)) result is.recent (is.kept top inside (omega arith)) is.after (omega arith) upper lower mixed
