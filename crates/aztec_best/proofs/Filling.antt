-- Filling the table from the last place to the first.
use Rattle.std.proofs.Common.{◌≡◌, inl, inr, ℕ, ◌+◌, ◌-◌, ◌<◌, ◌≤◌, List, [], length, drop, set, min, All, refl, sym, ap, subst, ◌∙◌, arith}
use Rattle.std.proofs.lemmas.List.{length-set, drop_all}
use Rattle.std.proofs.lemmas.Bool.{cases_eq}
use Rattle.bar_base.specs.Elements.{IsElement}
use Rattle.bar_base.specs.declared.element.Element.{Element}
use Rattle.aztec_modes.specs.declared.mode.Mode.{Mode}
use Rattle.aztec_best.specs.Front.{bytes_ahead}
use Rattle.aztec_modes.specs.Spelling.{nothing}
use Rattle.aztec_best.specs.declared.costs.Costs.{Costs}
use Rattle.aztec_best.specs.declared.lows.Lows.{Lows}
use Rattle.aztec_best.specs.declared.window.Window.{Window}
use Rattle.aztec_best.specs.Shortest.{IsLeast}
use Rattle.aztec_best.specs.Bench.{mode_cost, no_costs, kept_cost, kept_bytes, IsFilledFrom}
use Rattle.aztec_best.specs.Lows.{IsWindow, HasKeys}
use Rattle.aztec_best.proofs.CostLaws.{mode_cost-none, kept_cost-set, kept_cost-other, kept_bytes-set, kept_bytes-other}
use Rattle.aztec_best.proofs.LowLaws.{window_kept}
use Rattle.aztec_best.proofs.Small.{cost_small}
use Rattle.aztec_best.proofs.Fronts.{bytes_ahead-most, bytes_ahead-step}

-- no elements are spelled by no bits
pub least_nothing : (m : Mode) → IsLeast m [] 0
least_nothing m = record { reached = ([], [], nothing, refl); least = λ bits spelled. omega arith }

-- one place more
pub filled_more : (table : List Costs) (es : List Element) (place : ℕ) (new : Costs) → length es < length table → length es ≤ 8192 → place ≤ length es
    → ((other : ℕ) (m : Mode) → place < other → other ≤ length es → IsLeast m (drop other es) (kept_cost table other m))
    → ((other : ℕ) → place < other → other ≤ length es → kept_bytes table other ≡ bytes_ahead (drop other es))
    → ((m : Mode) → IsLeast m (drop place es) (mode_cost new m)) → new.bytes ≡ bytes_ahead (drop place es) → IsFilledFrom (set table place new) es place
filled_more table es place new room fits within later later_bytes here bytes = record {
  fits = fits;
  least = λ other m late inside.
      elim (cases_eq place other) [
        | inl at ↦ subst (λ (p : ℕ). IsLeast m (drop p es) (kept_cost (set table place new) p m)) at
            (subst (λ (n : ℕ). IsLeast m (drop place es) n) (sym (kept_cost-set table place new m (omega arith))) (here m))
        | inr apart ↦ subst (λ (n : ℕ). IsLeast m (drop other es) n) (sym (kept_cost-other table place other new m (λ e. apart (sym e))))
            (later other m (omega arith) inside)
      ];
  counted = λ other late inside.
      elim (cases_eq place other) [
        | inl at ↦ subst (λ (p : ℕ). kept_bytes (set table place new) p ≡ bytes_ahead (drop p es)) at (kept_bytes-set table place new (omega arith) ∙ bytes)
        | inr apart ↦ kept_bytes-other table place other new (λ e. apart (sym e)) ∙ later_bytes other (omega arith) inside
      ];
}

bytes_ahead-end : (es : List Element) → 0 ≡ bytes_ahead (drop (length es) es)
unfolding bytes_ahead
bytes_ahead-end es = sym (ap bytes_ahead (drop_all (length es) es (omega arith)))

-- where no element is left
pub filled_end : (table : List Costs) (es : List Element) → length es < length table → length es ≤ 8192 → IsFilledFrom (set table (length es) no_costs) es (length es)
filled_end table es room fits =
    filled_more table es (length es) no_costs room fits (omega arith) (λ other m late inside. absurd (omega arith)) (λ other late inside. absurd (omega arith))
    (λ m. subst (λ (n : ℕ). IsLeast m (drop (length es) es) n) (sym (mode_cost-none m))
    (subst (λ (xs : List Element). IsLeast m xs 0) (sym (drop_all (length es) es (omega arith))) (least_nothing m))) (bytes_ahead-end es)

pub filled_step : (table : List Costs) (es : List Element) (place : ℕ) (new : Costs) → length es < length table → IsFilledFrom table es (place + 1) → place < length es
    → ((m : Mode) → IsLeast m (drop place es) (mode_cost new m)) → new.bytes ≡ bytes_ahead (drop place es) → IsFilledFrom (set table place new) es place
filled_step table es place new room filled within here bytes =
    filled_more table es place new room filled.fits (omega arith) (λ other m late inside. filled.least other m (omega arith) inside)
    (λ other late inside. filled.counted other (omega arith) inside) here bytes

-- the loop at a place
pub record IsFilledTo (table : List Costs) (shorts longs : List Lows) (es : List Element) (place bytes : ℕ) (short long : Window) : Type 0 where
  pub within : place ≤ length es
  pub room : length es < length table
  pub filled : IsFilledFrom table es place
  pub counted : bytes ≡ bytes_ahead (drop place es)
  pub shorts_room : length shorts ≡ 31
  pub longs_room : min (length es) 2048 ≤ length longs
  pub in_short : 1 ≤ bytes → IsWindow table shorts (place + 1) (place + min bytes 31) short
  pub in_long : 31 ≤ bytes → IsWindow table longs (place + 31) (place + min bytes 2078) long

pub filled_to_end : (table : List Costs) (shorts longs : List Lows) (es : List Element) (place : ℕ) (short long : Window) → place ≡ length es → length es < length table
    → length shorts ≡ 31 → min (length es) 2048 ≤ length longs → length es ≤ 8192 → IsFilledTo (set table place no_costs) shorts longs es place 0 short long
filled_to_end table shorts longs es place short long is room short_room long_room fits =
    subst (λ (p : ℕ). IsFilledTo (set table p no_costs) shorts longs es p 0 short long) (sym is)
    (record {
      within = omega arith;
      room = omega (arith, length-set table (length es) no_costs);
      filled = filled_end table es room fits;
      counted = bytes_ahead-end es;
      shorts_room = short_room;
      longs_room = long_room;
      in_short = λ some. absurd (omega arith);
      in_long = λ some. absurd (omega arith);
    })

-- at the place before, while nothing is written there yet
pub filled_next : (table : List Costs) (es : List Element) (place : ℕ) → IsFilledFrom table es place → 0 < place → IsFilledFrom table es (place - 1 + 1)
filled_next table es place filled some = subst (λ (p : ℕ). IsFilledFrom table es p) (let e : place ≡ place - 1 + 1 = omega arith in e) filled

pub next_keys : (table : List Costs) (es : List Element) (place bytes : ℕ) → length es < length table → IsFilledFrom table es place → 0 < place → place ≤ length es → All IsElement es
    → bytes ≡ bytes_ahead (drop (place - 1) es) → 1 ≤ bytes → HasKeys table (place - 1 + 1) (place - 1 + bytes)
next_keys table es place bytes room filled some within valid counted many =
    let most : place - 1 + bytes ≤ length es = omega (arith, bytes_ahead-most es (place - 1) (omega arith)) in
    record {
      room = omega arith;
      some = omega arith;
      within = omega (arith, filled.fits);
      small = λ other m late early. cost_small table es place other m filled valid (omega arith) (omega arith);
    }

-- so many bytes stand at the place before, and the windows there go on
next_window : (table : List Costs) (stored : List Lows) (place bytes next fewest most : ℕ) (window : Window) → 0 < place → next ≡ bytes + 1
    → (fewest ≤ bytes → IsWindow table stored (place + fewest) (place + min bytes most) window) → fewest < next
    → IsWindow table stored (place - 1 + (fewest + 1)) (place - 1 + min next most) window
next_window table stored place bytes next fewest most window some is window_is more =
    let w : IsWindow table stored (place + fewest) (place + min bytes most) window = window_is (omega arith) in
    let low : place + fewest ≡ place - 1 + (fewest + 1) = omega arith in
    subst (λ (l : ℕ). IsWindow table stored l (place - 1 + min next most) window) low
    (record { after = w.after; recent = w.recent; kept = λ other late early. w.kept other late (omega arith) })

pub bytes_next : (es : List Element) (place bytes next : ℕ) → 0 < place → bytes ≡ bytes_ahead (drop place es) → next ≡ bytes_ahead (drop (place - 1) es) → 1 ≤ next
    → next ≡ bytes + 1
bytes_next es place bytes next some counted is many = bytes_ahead-step es place bytes next some counted is many

pub next_short : (table : List Costs) (shorts longs : List Lows) (es : List Element) (place bytes next : ℕ) (short long : Window)
    → IsFilledTo table shorts longs es place bytes short long → 0 < place → next ≡ bytes_ahead (drop (place - 1) es) → 1 < next
    → IsWindow table shorts (place - 1 + 2) (place - 1 + min next 31) short
next_short table shorts longs es place bytes next short long to some is more =
    next_window table shorts place bytes next 1 31 short some (bytes_next es place bytes next some to.counted is (omega arith)) to.in_short more

pub next_long : (table : List Costs) (shorts longs : List Lows) (es : List Element) (place bytes next : ℕ) (short long : Window)
    → IsFilledTo table shorts longs es place bytes short long → 0 < place → next ≡ bytes_ahead (drop (place - 1) es) → 31 < next
    → IsWindow table longs (place - 1 + 32) (place - 1 + min next 2078) long
next_long table shorts longs es place bytes next short long to some is more =
    next_window table longs place bytes next 31 2078 long some (bytes_next es place bytes next some to.counted is (omega arith)) to.in_long more

pub filled_to_step : (table : List Costs) (shorts longs : List Lows) (es : List Element) (place next : ℕ) (short long : Window) (new : Costs)
    → length es < length table → IsFilledFrom table es (place + 1) → place < length es → length shorts ≡ 31 → min (length es) 2048 ≤ length longs
    → next ≡ bytes_ahead (drop place es) → (1 ≤ next → IsWindow table shorts (place + 1) (place + min next 31) short)
    → (31 ≤ next → IsWindow table longs (place + 31) (place + min next 2078) long)
    → ((m : Mode) → IsLeast m (drop place es) (mode_cost new m)) → new.bytes ≡ next
    → IsFilledTo (set table place new) shorts longs es place next short long
filled_to_step table shorts longs es place next short long new room filled within short_room long_room counted short_is long_is here bytes = record {
  within = omega arith;
  room = omega (arith, length-set table place new);
  filled = filled_step table es place new room filled within here (bytes ∙ counted);
  counted = counted;
  shorts_room = short_room;
  longs_room = long_room;
  in_short = λ some. window_kept table shorts (place + 1) (place + min next 31) place short new (omega arith) (short_is some);
  in_long = λ some. window_kept table longs (place + 31) (place + min next 2078) place long new (omega arith) (long_is some);
}
