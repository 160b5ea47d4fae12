-- The cuts of a stand, one size after the other.
use Rattle.std.proofs.Common.{◌≡◌, ℕ, ◌+◌, ◌<◌, ◌≤◌, inl, inr, ⊎_elim, Bool, true, false, List, if◌then◌else◌, refl, sym, ap, subst, ◌∙◌, arith}
use Rattle.std.specs.Prelude.{Option, None, Some, Ok}
use Rattle.std.proofs.lemmas.Bool.{cases_lt}
use Rattle.bar_base.specs.Picture.{Picture, row_count}
use Rattle.aztec_layout.specs.CoreReading.{AreModeWords}
use Rattle.aztec_layout.specs.Sizes.{IsSize}
use Rattle.aztec_layout.specs.declared.sizes.Size.{Size}
use Rattle.aztec_layout.proofs.ReadLemmas.{mode_words_once}
use Rattle.aztec_layout.proofs.SizeLemmas.{side_some}
use Rattle.image_locate.specs.Stands.{IsCut, ShowsFinder}
use Rattle.image_locate.specs.declared.stand.Stand.{Stand}
use Rattle.image_locate.proofs.Cuts.{cut_once}
use Rattle.image_locate.proofs.CutCores.{cut_finder, cut_side, modes_shared}
use Rattle.symbol_reader.specs.Reading.{HasBadMode, IsFound}
use Rattle.symbol_reader.specs.Sight.{known}
use Rattle.symbol_reader.proofs.Finders.{known_stands}
use Rattle.symbol_reader.proofs.OneSize.{found_once}
use Rattle.zint_answers.specs.Steps.{Refuses}
use Rattle.zint_answers.specs.declared.fault.Fault.TheVariants.{Refused}
use Rattle.zint_answers.specs.declared.image_fault.ImageFault.TheVariants.{Size as PixelSize}
use Rattle.zint_answers.specs.declared.refusal.Refusal.TheVariants.{BadImage, BadSymbol}
use Rattle.zint_answers.specs.declared.symbol_fault.SymbolFault.TheVariants.{BadMode}
use Rattle.zint_read.specs.frames.Anywhere.{HasGoodMode, IsFirstCut, cuts}

-- a cut has the size and the finder of its stand
pub cut_found : (picture : Picture) (stand : Stand) (size : Size) (cut : Picture) → ShowsFinder picture stand → IsSize size → IsCut picture stand size cut → IsFound (known cut) size
cut_found picture stand size cut shows sized is = record {
  side = cut_side picture stand size cut sized is;
  finder = known_stands size.full (known cut) refl (cut_finder picture stand size cut sized is shows);
}

-- the bad mode words of a cut are those of every other cut whose mode message is bad
bad_shared : (picture : Picture) (stand : Stand) (size other : Size) (cut beside : Picture) (words more : List ℕ) → ShowsFinder picture stand → IsSize size → IsSize other
    → IsCut picture stand size cut → IsCut picture stand other beside → HasBadMode (known cut) words → HasBadMode (known beside) more → HasBadMode (known beside) words
bad_shared picture stand size other cut beside words more shows sized other_sized is is_other bad worse =
    let mine : bad.size ≡ size = found_once (known cut) bad.size size bad.found (cut_found picture stand size cut shows sized is) in
    let its : worse.size ≡ other = found_once (known beside) worse.size other worse.found (cut_found picture stand other beside shows other_sized is_other) in
    let shown : AreModeWords size.full cut words = subst (λ (s : Size). AreModeWords s.full cut words) mine bad.seen.shown in
    let there : AreModeWords other.full beside words = modes_shared picture stand other size beside cut other_sized sized is_other is words shown in
    let its_shown : AreModeWords other.full beside more = subst (λ (s : Size). AreModeWords s.full beside more) its worse.seen.shown in
    subst (HasBadMode (known beside)) (mode_words_once other.full beside more words its_shown there) worse

-- a size of a kind is told by its layers
pub by_layers : (one other : Size) → one.full ≡ other.full → one.layers ≡ other.layers → one ≡ other
by_layers one other kinds layers =
    let make : Bool → ℕ → Size = λ full layers. record { full = full; layers = layers } in
    ap (λ (f : Bool). make f one.layers) kinds ∙ ap (make other.full) layers

-- No size with fewer layers has a cut, or each such cut has a bad mode message, and these are its words.
pub CutsSoFar : Picture → Stand → (layers : ℕ) → Option (List ℕ) → Type 0
CutsSoFar picture stand layers None = (size : Size) (cut : Picture) → IsSize size → size.layers < layers → IsCut picture stand size cut → ⊥
CutsSoFar picture stand layers (Some words) =
    ((size : Size) × (cut : Picture) × IsSize size × IsCut picture stand size cut × HasBadMode (known cut) words)
    × ((size : Size) (cut : Picture) → IsSize size → size.layers < layers → IsCut picture stand size cut → HasBadMode (known cut) words)

pub so_far_none : (picture : Picture) (stand : Stand) → CutsSoFar picture stand 1 None
unfolding CutsSoFar
so_far_none picture stand = λ size cut sized few is. omega (arith, sized.0, few)

-- a size whose layers are those of another, and whose cut is of the same stand
same_cut_size : (picture : Picture) (stand : Stand) (size other : Size) (cut : Picture) → size.full ≡ stand.full → IsCut picture stand other cut → other.layers ≡ size.layers → other ≡ size
same_cut_size picture stand size other cut kind is layers = by_layers other size (is.kind ∙ sym kind) layers

-- one more size without a cut
pub so_far_outside : (picture : Picture) (stand : Stand) (size : Size) (layers : ℕ) (bad : Option (List ℕ)) → size.full ≡ stand.full → size.layers ≡ layers
    → ((cut : Picture) → IsCut picture stand size cut → ⊥) → CutsSoFar picture stand layers bad → CutsSoFar picture stand (layers + 1) bad
unfolding CutsSoFar
so_far_outside picture stand size layers None kind here outside so_far = λ other cut sized few is. ⊎_elim
    (λ less. so_far other cut sized less is)
    (λ more. outside cut (subst (λ (s : Size). IsCut picture stand s cut) (same_cut_size picture stand size other cut kind is (omega (arith, more, few, here))) is))
    (cases_lt other.layers layers)
so_far_outside picture stand size layers (Some words) kind here outside (some, each) = (
  some,
  λ other cut sized few is. ⊎_elim
      (λ less. each other cut sized less is)
      (λ more. absurd (outside cut (subst (λ (s : Size). IsCut picture stand s cut) (same_cut_size picture stand size other cut kind is (omega (arith, more, few, here))) is)))
      (cases_lt other.layers layers),
)

-- one more size with a bad mode message
pub so_far_bad : (picture : Picture) (stand : Stand) (size : Size) (layers : ℕ) (bad : Option (List ℕ)) (words : List ℕ) → ShowsFinder picture stand → IsSize size → size.full ≡ stand.full → size.layers ≡ layers
    → (cut : Picture) → IsCut picture stand size cut → HasBadMode (known cut) words → CutsSoFar picture stand layers bad → CutsSoFar picture stand (layers + 1) (Some words)
unfolding CutsSoFar
so_far_bad picture stand size layers bad words shows sized kind here cut is is_bad so_far = (
  (size, cut, sized, is, is_bad),
  λ other beside other_sized few is_other. ⊎_elim
      (λ less. before bad so_far other beside other_sized less is_other)
      (λ more. (let same = same_cut_size picture stand size other beside kind is_other (omega (arith, more, few, here)) in
      let is_same : IsCut picture stand size beside = subst (λ (s : Size). IsCut picture stand s beside) same is_other in
      subst (λ (g : Picture). HasBadMode (known g) words) (cut_once picture stand size cut beside (omega (arith, side_some size sized)) is is_same) is_bad))
      (cases_lt other.layers layers),
)
  where
    before : (bad : Option (List ℕ)) → CutsSoFar picture stand layers bad → (other : Size) (beside : Picture) → IsSize other → other.layers < layers → IsCut picture stand other beside → HasBadMode (known beside) words
    before None none other beside other_sized less is_other = absurd (none other beside other_sized less is_other)
    before (Some more) (some, each) other beside other_sized less is_other =
        bad_shared picture stand size other cut beside words more shows sized other_sized is is_other is_bad (each other beside other_sized less is_other)

-- the first cut whose mode message is not bad
pub so_far_first : (picture : Picture) (stand : Stand) (size : Size) (layers : ℕ) (bad : Option (List ℕ)) (cut : Picture) → IsSize size → size.layers ≡ layers → IsCut picture stand size cut → HasGoodMode cut
    → CutsSoFar picture stand layers bad → IsFirstCut picture stand cut
unfolding CutsSoFar
so_far_first picture stand size layers bad cut sized here is good so_far = record {
  size = size;
  sized = sized;
  is_cut = is;
  good = good;
  first = λ other beside other_sized few is_other. before bad so_far other beside other_sized (omega (arith, few, here)) is_other;
}
  where
    before : (bad : Option (List ℕ)) → CutsSoFar picture stand layers bad → (other : Size) (beside : Picture) → IsSize other → other.layers < layers → IsCut picture stand other beside → (words : List ℕ) × HasBadMode (known beside) words
    before None none other beside other_sized less is_other = absurd (none other beside other_sized less is_other)
    before (Some more) (some, each) other beside other_sized less is_other = (more, each other beside other_sized less is_other)

-- it is the cut that is read
pub first_cut : (picture : Picture) (stand : Stand) (size : Size) (layers : ℕ) (bad : Option (List ℕ)) (cut : Picture) → IsSize size → size.layers ≡ layers → IsCut picture stand size cut → HasGoodMode cut
    → CutsSoFar picture stand layers bad → cuts picture stand (Ok cut)
unfolding cuts
first_cut picture stand size layers bad cut sized here is good so_far = so_far_first picture stand size layers bad cut sized here is good so_far

few_layers : (f : Bool) (size : Size) (most : ℕ) → size.full ≡ f → IsSize size → most ≡ (if f then 32 else 4) → size.layers ≤ most
few_layers true size most kind sized is = (let e : size.layers ≤ (if true then 32 else 4) = subst (λ (g : Bool). size.layers ≤ (if g then 32 else 4)) kind sized.1 in omega (arith, e, is))
few_layers false size most kind sized is = (let e : size.layers ≤ (if false then 32 else 4) = subst (λ (g : Bool). size.layers ≤ (if g then 32 else 4)) kind sized.1 in omega (arith, e, is))

-- no size has a cut
pub no_cuts : (picture : Picture) (stand : Stand) (layers : ℕ) → (if stand.full then 32 else 4) < layers → CutsSoFar picture stand layers None
    → Refuses (cuts picture stand) (Refused (BadImage (PixelSize picture.width (row_count picture))))
unfolding cuts CutsSoFar
no_cuts picture stand layers most so_far =
    inl ((λ size cut sized is. so_far size cut sized (omega (arith, few_layers stand.full size _ is.kind sized refl, most)) is), refl)

-- each cut has a bad mode message
pub bad_cuts : (picture : Picture) (stand : Stand) (layers : ℕ) (words : List ℕ) → (if stand.full then 32 else 4) < layers → CutsSoFar picture stand layers (Some words)
    → Refuses (cuts picture stand) (Refused (BadSymbol (BadMode words)))
unfolding cuts CutsSoFar
bad_cuts picture stand layers words most ((size, cut, sized, is, bad), each) =
    inr (
      words,
      record {
        size = size;
        sized = sized;
        cut = cut;
        is_cut = is;
        each = λ other beside other_sized is_other. each other beside other_sized (omega (arith, few_layers stand.full other _ is_other.kind other_sized refl, most)) is_other;
      },
      refl,
    )

-- a size with few layers
pub size_within : (full : Bool) (size : Size) (layers most : ℕ) → size.full ≡ full → size.layers ≡ layers → 1 ≤ layers → layers < most + 1 → most ≡ (if full then 32 else 4) → IsSize size
size_within true size layers most kind here some few is = (omega (arith, some, here), subst (λ (g : Bool). size.layers ≤ (if g then 32 else 4)) (sym kind) (omega (arith, few, is, here)))
size_within false size layers most kind here some few is = (omega (arith, some, here), subst (λ (g : Bool). size.layers ≤ (if g then 32 else 4)) (sym kind) (omega (arith, few, is, here)))
