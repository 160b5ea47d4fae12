-- The cheapest codes: before the last element there is a first of them, and with the first spelling of the rest it makes the first spelling
-- of the whole.
use Rattle.std.proofs.Common.{◌≡◌, ◌⊎◌, inl, inr, ℕ, zero, suc, ◌+◌, ◌*◌, ◌<◌, ◌≤◌, Bool, List, ◌∷◌, ◌++◌, length, drop, All, refl, sym, ap, subst, ◌∙◌, arith}
use Rattle.std.proofs.lemmas.Bool.{cases_eq, cases_lt}
use Rattle.std.proofs.lemmas.List.{length-append, length-drop}
use Rattle.bar_base.specs.Elements.{IsElement}
use Rattle.bar_base.specs.declared.element.Element.{Element}
use Rattle.aztec_modes.specs.declared.mode.Mode.{Mode}
use Rattle.aztec_modes.specs.declared.code.Code.{Code}
use Rattle.aztec_modes.specs.Entry.{Entry, SpellsFront, code_count, code_length, code_next}
use Rattle.aztec_modes.specs.Spelling.{Spells, nothing, onward}
use Rattle.aztec_modes.proofs.Forms.{form_of}
use Rattle.aztec_modes.proofs.EntryLaws.{entry_len, entry_same}
use Rattle.aztec_best.specs.declared.costs.Costs.{Costs}
use Rattle.aztec_best.specs.Order.{code_rank}
use Rattle.aztec_best.specs.Shortest.{Precedes, IsLeast, IsFirst}
use Rattle.aztec_best.specs.Bench.{kept_cost, IsFilledFrom}
use Rattle.aztec_best.specs.Picks.{cost_through, IsCheapest, IsFirstCode, HasRank, IsFirstCheapest}
use Rattle.aztec_best.proofs.Order.{IsBefore-append, Precedes-behind, Precedes-length}
use Rattle.aztec_best.proofs.CodeRanks.{numbers_few, ordered, ranked, ranked_is, same_rank}
use Rattle.aztec_best.proofs.Decided.{code_front}
use Rattle.aztec_best.proofs.Small.{stands_within, valid_rest}
use Rattle.aztec_best.proofs.PlaceLeast.{rest_is, stands_entry, through_reached, through_bound}

-- A code that spells the front has a rank in range.
pub rank_few : {m : Mode} {code : Code} {es : List Element} → SpellsFront m code es → code_rank m code < 32 * 4096
rank_few fits = omega (arith, numbers_few (form_of fits.entry))

module _ (table : List Costs) (es : List Element) (filled : IsFilledFrom table es 0) (valid : All IsElement es) where
  rest_least : (place : ℕ) (m : Mode) (code : Code) → place ≤ length es → SpellsFront m code (drop place es)
      → IsLeast (code_next m code) (drop (place + code_count m code) es) (kept_cost table (place + code_count m code) (code_next m code))
  rest_least place m code within stands = filled.least (place + code_count m code) (code_next m code) (omega arith) (stands_within m code es place stands within)

  -- no spelling has fewer bits than the cheapest one through a standing code
  pub through_least : (place : ℕ) (m : Mode) (code : Code) → place ≤ length es → SpellsFront m code (drop place es) → kept_cost table place m ≤ cost_through table place m code
  through_least place m code within stands =
      let (codes, bits, spells, counted) = through_reached table es place m code stands (rest_least place m code within stands) in
      let least : IsLeast m (drop place es) (kept_cost table place m) = filled.least place m (omega arith) within in
      omega (arith, least.least bits (codes, spells))

  -- an entry that begins a spelling stands, and if the spelling has fewest bits, so does the cheapest one through its code
  entry_cheap : {m next : Mode} {code : Code} {bits : List Bool} {spelled : List Element} (place : ℕ) (rest : List Element) (codes : List Code) (more : List Bool)
      → place ≤ length es → Entry m code bits spelled next → drop place es ≡ spelled ++ rest → Spells next codes more rest
      → length (bits ++ more) ≤ kept_cost table place m → cost_through table place m code ≡ kept_cost table place m
  entry_cheap {m = m} {next = next} {code = code} {bits = bits} {spelled = spelled} place rest codes more within entry splits spells few =
      let stands : SpellsFront m code (drop place es) =
      record { bits = bits; spelled = spelled; rest = rest; next = next; entry = entry; splits = splits } in
      let at_least : kept_cost table place m ≤ cost_through table place m code = through_least place m code within stands in
      let at_most : cost_through table place m code ≤ length (bits ++ more) =
      through_bound table es rest place codes more entry splits spells (rest_least place m code within stands) in
      omega arith

  found_from : {m : Mode} {codes : List Code} {bits : List Bool} {rest : List Element} (place : ℕ) → place < length es → Spells m codes bits rest → rest ≡ drop place es
      → length bits ≤ kept_cost table place m → (code : Code) × IsCheapest table es place m code
  found_from place within nothing is few = absurd (omega (arith, ap length is, length-drop place es))
  found_from {m = m} place within (onward {next = next} {code = code} {codes = codes} {bits = bits} {rest = more} {spelled = spelled} {elements = rest} entry spells) is few = (
    code,
    record {
      front = record { bits = bits; spelled = spelled; rest = rest; next = next; entry = entry; splits = sym is };
      fewest = entry_cheap place rest codes more (omega arith) entry (sym is) spells few;
    },
  )

  -- Before the last element some code is cheapest.
  pub cheapest_there : (place : ℕ) (m : Mode) → place < length es → (code : Code) × IsCheapest table es place m code
  cheapest_there place m within =
      let (codes, bits, spells, counted) = (filled.least place m (omega arith) (omega arith)).reached in
      found_from place within spells refl (omega arith)

  is_cheapest : (place : ℕ) (m : Mode) (code : Code) → IsCheapest table es place m code ⊎ (IsCheapest table es place m code → ⊥)
  is_cheapest place m code =
      elim (code_front m code (drop place es) (valid_rest es place valid)) [
        | inr not ↦ inr (λ cheap. not cheap.front)
        | inl fits ↦ elim (cases_eq (cost_through table place m code) (kept_cost table place m)) [
          | inl few ↦ inl (record { front = fits; fewest = few })
          | inr dear ↦ inr (λ cheap. dear cheap.fewest)
        ]
      ]

  ranked_there : (place : ℕ) (m : Mode) (code : Code) → IsCheapest table es place m code → code ≡ ranked m (code_rank m code) (drop place es)
  ranked_there place m code cheap =
      ranked_is cheap.front.rest (form_of cheap.front.entry) ∙ ap (ranked m (code_rank m code)) (sym cheap.front.splits)

  at_rank : (place : ℕ) (m : Mode) (rank : ℕ)
      → ((code : Code) × IsCheapest table es place m code × (code_rank m code ≡ rank)) ⊎ ((other : Code) → IsCheapest table es place m other → code_rank m other ≡ rank → ⊥)
  at_rank place m rank =
      let code : Code = ranked m rank (drop place es) in
      elim (is_cheapest place m code) [
        | inr not ↦ inr (λ other cheap at. not (subst (λ (c : Code). IsCheapest table es place m c) (ranked_there place m other cheap ∙ ap (λ (r : ℕ). ranked m r (drop place es)) at) cheap))
        | inl cheap ↦ elim (cases_eq (code_rank m code) rank) [
          | inl at ↦ inl (code, cheap, at)
          | inr apart ↦ inr (λ other other_cheap at.
              apart (sym (ap (code_rank m) (ranked_there place m other other_cheap ∙ ap (λ (r : ℕ). ranked m r (drop place es)) at)) ∙ at))
        ]
      ]

  below_rank : (place : ℕ) (m : Mode) (bound : ℕ) → ((code : Code) × IsFirstCode table es place m (HasRank m 0 bound) code)
      ⊎ ((other : Code) → IsCheapest table es place m other → HasRank m 0 bound other → ⊥)
  below_rank place m zero = inr (λ other cheap (low, high). absurd (omega arith))
  below_rank place m (suc bound) =
      elim (below_rank place m bound) [
        | inl (code, first) ↦ inl (
          code,
          record {
            cheapest = first.cheapest;
            kind = (omega arith, omega (arith, first.kind.1));
            first = λ other cheap (low, high).
                elim (cases_lt (code_rank m other) bound) [ inl below ↦ first.first other cheap (low, below) | inr at ↦ omega (arith, first.kind.1) ];
          },
        )
        | inr none ↦ elim (at_rank place m bound) [
          | inl (code, cheap, at) ↦ inl (
            code,
            record {
              cheapest = cheap;
              kind = (omega arith, omega arith);
              first = λ other other_cheap (low, high).
                  elim (cases_lt (code_rank m other) bound) [ inl below ↦ absurd (none other other_cheap (low, below)) | inr above ↦ omega arith ];
            },
          )
          | inr not ↦ inr (λ other cheap (low, high).
              elim (cases_lt (code_rank m other) bound) [ inl below ↦ none other cheap (low, below) | inr above ↦ not other cheap (omega arith) ])
        ]
      ]

  first_below : (place : ℕ) (m : Mode) (bound : ℕ) (code : Code) → IsCheapest table es place m code → code_rank m code < bound
      → (first : Code) × IsFirstCode table es place m (HasRank m 0 bound) first
  first_below place m bound code cheap below =
      elim (below_rank place m bound) [ inl found ↦ found | inr none ↦ absurd (none code cheap (omega arith, below)) ]

  -- Before the last element there is a first of the cheapest codes.
  pub next_there : (place : ℕ) (m : Mode) → place < length es → (code : Code) × IsFirstCheapest table es place m code
  next_there place m within =
      let (code, cheap) = cheapest_there place m within in
      first_below place m (32 * 4096) code cheap (rank_few cheap.front)

  pub next_cheap : (place : ℕ) (m : Mode) (code : Code) → IsFirstCheapest table es place m code
      → kept_cost table (place + code_count m code) (code_next m code) + code_length m code ≡ kept_cost table place m
  unfolding cost_through
  next_cheap place m code next = omega (arith, next.cheapest.fewest)

  -- the first spelling of the rest has the fewest bits
  first_least : (place : ℕ) (m : Mode) (codes : List Code) (bits : List Bool) → place ≤ length es → IsFirst m (drop place es) codes bits
      → length bits ≡ kept_cost table place m
  first_least place m codes bits within is_first =
      let least : IsLeast m (drop place es) (kept_cost table place m) = filled.least place m (omega arith) within in
      let (others_codes, others, spells, counted) = least.reached in
      omega (arith, least.least bits (codes, is_first.spells), Precedes-length bits others (is_first.first others (others_codes, spells)))

  -- The bits of the first code and the first spelling of the rest precede any other spelling that begins with a cheapest code.
  next_before : {next' : Mode} {code' : Code} {bits bits' : List Bool} {spelled spelled' : List Element} (place : ℕ) (m : Mode) (code : Code)
      (rest rest' : List Element) (codes codes' : List Code) (more more' : List Bool) → IsFirstCheapest table es place m code
      → Entry m code bits spelled (code_next m code) → drop place es ≡ spelled ++ rest → IsFirst (code_next m code) rest codes more
      → Entry m code' bits' spelled' next' → drop place es ≡ spelled' ++ rest' → Spells next' codes' more' rest' → IsCheapest table es place m code'
      → length (bits ++ more) ≡ length (bits' ++ more') → Precedes (bits ++ more) (bits' ++ more')
  next_before {next' = next'} {code' = code'} {bits = bits} {bits' = bits'} {spelled = spelled} {spelled' = spelled'} place m code rest rest' codes codes' more more' next
      entry splits is_first entry' splits' spells' cheap alike =
      let least : code_rank m code ≤ code_rank m code' = next.first code' cheap (omega arith, rank_few cheap.front) in
      elim (cases_lt (code_rank m code) (code_rank m code')) [
        | inl less ↦ inr (alike, inr (IsBefore-append more more' (ordered (form_of entry) (form_of entry') less)))
        | inr late ↦
            let ranks : code_rank m code ≡ code_rank m code' = omega arith in
            let same : code ≡ code' = same_rank rest rest' (form_of entry) (form_of entry') (sym splits ∙ splits') ranks in
            let again : Entry m code bits' spelled' next' = subst (λ (k : Code). Entry m k bits' spelled' next') (sym same) entry' in
            let (bits_same, spelled_same, rest_same, next_same) = entry_same rest rest' entry again (sym splits ∙ splits') in
            let other : Spells (code_next m code) codes' more' rest =
            subst (λ (x : Mode). Spells x codes' more' rest) (sym next_same) (subst (λ (xs : List Element). Spells next' codes' more' xs) (sym rest_same) spells') in
            subst (λ (front : List Bool). Precedes (bits ++ more) (front ++ more')) bits_same
            (Precedes-behind bits more more' (is_first.first more' (codes', other)))
      ]

  next_all : {others : List Bool} {codes' : List Code} {rest' : List Element} {bits : List Bool} {spelled : List Element} (place : ℕ) (m : Mode) (code : Code)
      (rest : List Element) (codes : List Code) (more : List Bool) (next : IsFirstCheapest table es place m code) → place < length es
      → Entry m code bits spelled (code_next m code) → drop place es ≡ spelled ++ rest → IsFirst (code_next m code) rest codes more
      → length (bits ++ more) ≡ kept_cost table place m → Spells m codes' others rest' → rest' ≡ drop place es → Precedes (bits ++ more) others
  next_all place m code rest codes more next within entry splits is_first counted nothing is = absurd (omega (arith, ap length is, length-drop place es))
  next_all {bits = bits} place m code rest codes more next within entry splits is_first counted
      (onward {next = next'} {code = code'} {codes = codes'} {bits = bits'} {rest = more'} {spelled = spelled'} {elements = rest'} entry' spells') is =
      elim (cases_lt (length (bits ++ more)) (length (bits' ++ more'))) [
        | inl longer ↦ inl longer
        | inr no_longer ↦
            let cheapest : IsCheapest table es place m code' = record {
              front = record { bits = bits'; spelled = spelled'; rest = rest'; next = next'; entry = entry'; splits = sym is };
              fewest = entry_cheap place rest' codes' more' (omega arith) entry' (sym is) spells' (omega arith);
            } in
            let least : IsLeast m (drop place es) (kept_cost table place m) = filled.least place m (omega arith) (omega arith) in
            let whole : Spells m (code' ∷ codes') (bits' ++ more') (drop place es) = subst (λ (xs : List Element). Spells m (code' ∷ codes') (bits' ++ more') xs) is (onward entry' spells') in
            next_before place m code rest rest' codes codes' more more' next entry splits is_first entry' (sym is) spells' cheapest
            (omega (arith, least.least (bits' ++ more') (code' ∷ codes', whole)))
      ]

  -- The first code and the first spelling of the rest make the first spelling of the whole
  pub first_by : (place : ℕ) (m : Mode) (code : Code) → place < length es → (next : IsFirstCheapest table es place m code) → (codes : List Code) (more : List Bool)
      → IsFirst (code_next m code) (drop (place + code_count m code) es) codes more → IsFirst m (drop place es) (code ∷ codes) (next.cheapest.front.bits ++ more)
  unfolding cost_through
  first_by place m code within next codes more is_first =
      let stands : SpellsFront m code (drop place es) = next.cheapest.front in
      let after : IsFirst (code_next m code) stands.rest codes more =
      subst (λ (xs : List Element). IsFirst (code_next m code) xs codes more) (sym (rest_is es stands.rest place stands.entry stands.splits)) is_first in
      let counted : length (stands.bits ++ more) ≡ kept_cost table place m =
      omega (
        arith,
        length-append stands.bits more,
        entry_len stands.entry,
        next.cheapest.fewest,
        first_least (place + code_count m code) (code_next m code) codes more (stands_within m code es place stands (omega arith)) is_first,
      ) in record {
        spells = subst (λ (xs : List Element). Spells m (code ∷ codes) (stands.bits ++ more) xs) (sym stands.splits) (onward (stands_entry stands) after.spells);
        first = λ others (codes', spells').
            next_all place m code stands.rest codes more next within (stands_entry stands) stands.splits after counted spells' refl;
      }

  -- the same with some bits
  pub next_first : (place : ℕ) (m : Mode) (code : Code) → place < length es → IsFirstCheapest table es place m code → (codes : List Code) (more : List Bool)
      → IsFirst (code_next m code) (drop (place + code_count m code) es) codes more → (bits : List Bool) × IsFirst m (drop place es) (code ∷ codes) bits
  next_first place m code within next codes more is_first = (next.cheapest.front.bits ++ more, first_by place m code within next codes more is_first)
