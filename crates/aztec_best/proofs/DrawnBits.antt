-- The drawn bits, code by code.
use Rattle.std.proofs.Common.{◌≡◌, ℕ, ◌+◌, ◌-◌, ◌<◌, ◌≤◌, Bool, true, false, List, [], ◌∷◌, ◌++◌, length, drop, take, All, refl, sym, ap, subst, ◌∙◌, arith, append_assoc, append-nil, if◌then◌else◌}
use Rattle.std.proofs.lemmas.List.{drop_all, take_at}
use Rattle.bar_base.specs.Elements.{IsElement}
use Rattle.bar_base.specs.declared.element.Element.{Element}
use Rattle.aztec_modes.specs.declared.mode.Mode.{Mode}
use Rattle.aztec_modes.specs.declared.mode.Mode.TheVariants.{Upper}
use Rattle.aztec_modes.specs.declared.code.Code.{Code}
use Rattle.aztec_modes.specs.Entry.{SpellsFront, code_bits, code_count, code_next}
use Rattle.aztec_modes.specs.Spelling.{append_mark}
use Rattle.aztec_modes.proofs.EntryLaws.{entry_spelled}
use Rattle.aztec_best.specs.declared.costs.Costs.{Costs}
use Rattle.aztec_best.specs.Shortest.{IsFirst}
use Rattle.aztec_best.specs.Bench.{IsFilledFrom}
use Rattle.aztec_best.specs.DrawnPath.{mark_bits}
use Rattle.aztec_best.specs.Picks.{IsFirstCheapest}
use Rattle.aztec_best.proofs.Drawing.{AreDrawn, first_few, first_nothing, marked_drawn, marked_few, next_within}
use Rattle.aztec_best.proofs.NextCodes.{first_by}

-- the bits so far: whatever follows them as the first spelling of the rest, they make the first spelling of the whole, behind the mark
pub record AreBitsTo (append : Bool) (es : List Element) (bits : List Bool) (m : Mode) (place : ℕ) : Type 0 where
  pub within : place ≤ length es
  pub valid : All IsElement es
  pub draws : (codes : List Code) (more : List Bool) → IsFirst m (drop place es) codes more
      → (whole : List Code) × (own : List Bool) × (bits ++ more ≡ mark_bits append ++ own) × IsFirst Upper es whole own

pub bits_start : (append : Bool) (es : List Element) (bits : List Bool) → All IsElement es → bits ≡ mark_bits append → AreBitsTo append es bits Upper 0
bits_start append es bits valid is = record {
  within = omega arith;
  valid = valid;
  draws = λ codes more first. (codes, more, ap (λ (bs : List Bool). bs ++ more) is, first);
}

-- a code that spells the front of elements has these bits
front_bits : (m : Mode) (code : Code) (es : List Element) → (front : SpellsFront m code es) → front.bits ≡ code_bits m code (take (code_count m code) es)
front_bits m code es front =
    front.entry.written
    ∙ ap (code_bits m code) (sym (ap (take (code_count m code)) front.splits ∙ take_at front.spelled front.rest (code_count m code) (entry_spelled front.entry)))

pub bits_step : (table : List Costs) (append : Bool) (es : List Element) (bits longer : List Bool) (m next : Mode) (place later : ℕ) (code : Code) → IsFilledFrom table es 0
    → AreBitsTo append es bits m place → place < length es → IsFirstCheapest table es place m code
    → longer ≡ bits ++ code_bits m code (take (later - place) (drop place es)) → next ≡ code_next m code → later ≡ place + code_count m code
    → AreBitsTo append es longer next later
bits_step table append es bits longer m next place later code filled to inside next_code longer_is next_is later_is =
    let count : later - place ≡ code_count m code = omega (arith, later_is) in
    let own_bits : code_bits m code (take (later - place) (drop place es)) ≡ next_code.cheapest.front.bits =
    ap (λ (n : ℕ). code_bits m code (take n (drop place es))) count ∙ sym (front_bits m code (drop place es) next_code.cheapest.front) in
    subst (λ (bs : List Bool). AreBitsTo append es bs next later) (sym (longer_is ∙ ap (λ (bs : List Bool). bits ++ bs) own_bits))
    (subst (λ (x : Mode). AreBitsTo append es (bits ++ next_code.cheapest.front.bits) x later) (sym next_is)
    (subst (λ (p : ℕ). AreBitsTo append es (bits ++ next_code.cheapest.front.bits) (code_next m code) p) (sym later_is) (record {
      within = next_within table es filled to.valid place m code to.within next_code;
      valid = to.valid;
      draws = λ codes more first.
          let (whole, own, apart, drawn) =
          to.draws (code ∷ codes) (next_code.cheapest.front.bits ++ more) (first_by table es filled to.valid place m code inside next_code codes more first) in
          (whole, own, append_assoc bits next_code.cheapest.front.bits more ∙ apart, drawn);
    })))

-- the mark before bits, in the words of spellings
marked : (append : Bool) (own : List Bool) → mark_bits append ++ own ≡ (if append then append_mark ++ own else own)
unfolding mark_bits
marked true own = refl
marked false own = refl

pub bits_end : (append : Bool) (es : List Element) (bits : List Bool) (m : Mode) (place : ℕ) → AreBitsTo append es bits m place → length es ≤ place
    → AreDrawn append es bits
bits_end append es bits m place to past =
    let (whole, own, apart, drawn) = to.draws [] [] (subst (λ (xs : List Element). IsFirst m xs [] []) (sym (drop_all place es past)) (first_nothing m)) in
    subst (λ (bs : List Bool). AreDrawn append es bs) (sym (sym (append-nil bits) ∙ apart ∙ marked append own)) (record {
      drawn = marked_drawn append es whole own drawn;
      few = omega (arith, marked_few append own, first_few es whole own to.valid drawn);
    })
