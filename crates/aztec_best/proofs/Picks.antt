-- Picks over ranges of ranks, put together.
use Rattle.std.proofs.Common.{◌≡◌, inl, inr, ℕ, ◌+◌, ◌*◌, ◌<◌, ◌≤◌, List, Option, Some, None, refl, sym, ap, subst, ◌∙◌, arith, IfSome, IfNone}
use Rattle.std.proofs.lemmas.Bool.{cases_lt}
use Rattle.bar_base.specs.declared.element.Element.{Element}
use Rattle.aztec_modes.specs.declared.mode.Mode.{Mode}
use Rattle.aztec_modes.specs.declared.code.Code.{Code}
use Rattle.aztec_modes.specs.Entry.{SpellsFront}
use Rattle.aztec_modes.proofs.Forms.{form_of}
use Rattle.aztec_best.specs.declared.costs.Costs.{Costs}
use Rattle.aztec_best.specs.Order.{first_number, code_rank}
use Rattle.aztec_best.specs.Picks.{IsCheapest, IsFirstOfKind, HasRank}
use Rattle.aztec_best.proofs.CodeRanks.{numbers_few}

module _ (table : List Costs) (es : List Element) (place : ℕ) (m : Mode) where
  -- A pick of one kind is one of another that the cheapest codes do not tell apart from it.
  pub kind_moved : (K K' : Code → Type 0) (o : Option Code) → ((c : Code) → IsCheapest table es place m c → K c → K' c)
      → ((c : Code) → IsCheapest table es place m c → K' c → K c) → IsFirstOfKind table es place m K o → IsFirstOfKind table es place m K' o
  kind_moved K K' None there back pick = λ other cheap kind. pick other cheap (back other cheap kind)
  kind_moved K K' (Some code) there back pick = record {
    cheapest = pick.cheapest;
    kind = there code pick.cheapest pick.kind;
    first = λ other cheap kind. pick.first other cheap (back other cheap kind);
  }

  -- A code that is the only cheapest one of a kind.
  pub one_picked : (K : Code → Type 0) (code : Code) (o : Option Code) → IfSome o (λ c. (Some code ≡ Some c) × IsCheapest table es place m c)
      → IfNone o ((c : Code) → Some code ≡ Some c → IsCheapest table es place m c → ⊥) → K code
      → ((other : Code) → IsCheapest table es place m other → K other → other ≡ code) → IsFirstOfKind table es place m K o
  one_picked K code None found none kind alone =
      λ other cheap other_kind. none code refl (subst (λ (c : Code). IsCheapest table es place m c) (alone other cheap other_kind) cheap)
  one_picked K code (Some c) found none kind alone =
      let same : code ≡ c = let e : Some code ≡ Some c = found.0 in cc in
      record {
        cheapest = found.1;
        kind = subst K same kind;
        first = λ other cheap other_kind. (let e : code_rank m c ≡ code_rank m other = ap (code_rank m) (sym same ∙ sym (alone other cheap other_kind)) in omega arith);
      }

  -- Where no code has a rank from a to b, the pick from b to c is that from a to c; a code found from a to b is the pick from a on.
  pub pick_behind : (a b c : ℕ) (o : Option Code) → a ≤ b → IsFirstOfKind table es place m (HasRank m a b) None → IsFirstOfKind table es place m (HasRank m b c) o
      → IsFirstOfKind table es place m (HasRank m a c) o
  pick_behind a b c None less none pick = λ other cheap (low, high).
      elim (cases_lt (code_rank m other) b) [ inl below ↦ none other cheap (low, below) | inr above ↦ pick other cheap (above, high) ]
  pick_behind a b c (Some code) less none pick = record {
    cheapest = pick.cheapest;
    kind = (omega (arith, pick.kind.0), pick.kind.1);
    first = λ other cheap (low, high).
        elim (cases_lt (code_rank m other) b) [ inl below ↦ absurd (none other cheap (low, below)) | inr above ↦ pick.first other cheap (above, high) ];
  }

  pub pick_before : (a b c : ℕ) (code : Code) → b ≤ c → IsFirstOfKind table es place m (HasRank m a b) (Some code) → IsFirstOfKind table es place m (HasRank m a c) (Some code)
  pick_before a b c code less pick = record {
    cheapest = pick.cheapest;
    kind = (pick.kind.0, omega (arith, pick.kind.1));
    first = λ other cheap (low, high).
        elim (cases_lt (code_rank m other) b) [ inl below ↦ pick.first other cheap (low, below) | inr above ↦ omega (arith, pick.kind.1) ];
  }

  -- A found code, by what was looked for before.
  pub pick_found : (a b c d : ℕ) (code : Code) → a ≤ b → c ≤ d → IsFirstOfKind table es place m (HasRank m a b) None → IsFirstOfKind table es place m (HasRank m b c) (Some code)
      → IsFirstOfKind table es place m (HasRank m a d) (Some code)
  pick_found a b c d code less more none pick = pick_before a c d code more (pick_behind a b c (Some code) less none pick)

-- The numbers of a code by its rank.
pub first_at : {m : Mode} {code : Code} {es : List Element} (first : ℕ) → SpellsFront m code es → first * 4096 ≤ code_rank m code → code_rank m code < first * 4096 + 4096
    → first_number m code ≡ first
first_at first fits low high = omega (arith, (numbers_few (form_of fits.entry)).1)
