-- What is seen of a symbol that stands anywhere in an image is one.
use Rattle.std.proofs.Common.{◌≡◌, ◌⊎◌, ◌<◌, ◌≤◌, ℕ, List, subst, arith, inl, inr, Ok, Err, sym, ap, ◌∙◌}
use Rattle.std.proofs.lemmas.Bool.{cases_lt}
use Rattle.bar_base.specs.Picture.{Picture}
use Rattle.aztec_layout.specs.declared.sizes.Size.{Size}
use Rattle.aztec_layout.proofs.SizeLemmas.{side_some}
use Rattle.bmp_io.specs.ReadBmp.{pixels_of}
use Rattle.image_locate.specs.Stands.{IsCut}
use Rattle.image_locate.specs.declared.stand.Stand.{Stand}
use Rattle.image_locate.proofs.Cuts.{cut_once}
use Rattle.image_locate.proofs.Search.{first_once}
use Rattle.symbol_reader.specs.Sight.{known}
use Rattle.symbol_reader.specs.declared.grid_fault.GridFault.TheVariants as grid
use Rattle.symbol_reader.proofs.OneFault.{grid_fault_once}
use Rattle.zint_answers.specs.declared.refusal.Refusal.TheVariants.{BadSymbol}
use Rattle.zint_answers.specs.declared.symbol_fault.SymbolFault.TheVariants.{BadMode}
use Rattle.bar_base.proofs.OneStep.{IsOne, only_one, then_one}
use Rattle.zint_answers.proofs.OneStep.{answered_one}
use Rattle.zint_read.specs.Images.{bmp_fault, bmp_pixels}
use Rattle.zint_read.specs.frames.Anywhere.{IsFirstCut, cuts, locates, sees_anywhere}
use Rattle.zint_read.proofs.Cuts.{by_layers}

locates_one : (picture : Picture) → IsOne (locates picture)
unfolding locates
locates_one picture (Ok stand) (Ok other) first first_other = ap (λ s. Ok s) (first_once picture stand other first first_other)
locates_one picture (Ok stand) (Err refusal) first (none, is) = absurd (none stand first.ranged first.shows)
locates_one picture (Err refusal) (Ok stand) (none, is) first = absurd (none stand first.ranged first.shows)
locates_one picture (Err refusal) (Err other) (none, is) (none_other, is_other) = ap (λ r. Err r) (is ∙ sym is_other)

-- there is one first cut
first_cut_once : (picture : Picture) (stand : Stand) (cut other : Picture) → IsFirstCut picture stand cut → IsFirstCut picture stand other → cut ≡ other
first_cut_once picture stand cut other is is_other = by_cases (cases_lt is.size.layers is_other.size.layers) (cases_lt is_other.size.layers is.size.layers)
  where
    by_cases : (is.size.layers < is_other.size.layers) ⊎ (is_other.size.layers ≤ is.size.layers)
        → (is_other.size.layers < is.size.layers) ⊎ (is.size.layers ≤ is_other.size.layers) → cut ≡ other
    by_cases (inl less) rest = (let bad = is_other.first is.size cut is.sized less is.is_cut in absurd (is.good bad.0 bad.1))
    by_cases (inr more) (inl less) = (let bad = is.first is_other.size other is_other.sized less is_other.is_cut in absurd (is_other.good bad.0 bad.1))
    by_cases (inr more) (inr most) =
        let same : is_other.size ≡ is.size = by_layers is_other.size is.size (is_other.is_cut.kind ∙ sym is.is_cut.kind) (omega (arith, more, most)) in
        cut_once picture stand is.size cut other (omega (arith, side_some is.size is.sized)) is.is_cut (subst (λ (s : Size). IsCut picture stand s other) same is_other.is_cut)

cuts_one : (picture : Picture) (stand : Stand) → IsOne (cuts picture stand)
unfolding cuts
cuts_one picture stand (Ok cut) (Ok other) first first_other = ap (λ c. Ok c) (first_cut_once picture stand cut other first first_other)
cuts_one picture stand (Ok cut) (Err refusal) first (inl (none, is)) = absurd (none first.size cut first.sized first.is_cut)
cuts_one picture stand (Ok cut) (Err refusal) first (inr (words, bad, is)) = absurd (first.good words (bad.each first.size cut first.sized first.is_cut))
cuts_one picture stand (Err refusal) (Ok cut) (inl (none, is)) first = absurd (none first.size cut first.sized first.is_cut)
cuts_one picture stand (Err refusal) (Ok cut) (inr (words, bad, is)) first = absurd (first.good words (bad.each first.size cut first.sized first.is_cut))
cuts_one picture stand (Err refusal) (Err other) (inl (none, is)) (inl (none_other, is_other)) = ap (λ r. Err r) (is ∙ sym is_other)
cuts_one picture stand (Err refusal) (Err other) (inl (none, is)) (inr (words, bad, is_bad)) = absurd (none bad.size bad.cut bad.sized bad.is_cut)
cuts_one picture stand (Err refusal) (Err other) (inr (words, bad, is_bad)) (inl (none, is)) = absurd (none bad.size bad.cut bad.sized bad.is_cut)
cuts_one picture stand (Err refusal) (Err other) (inr (words, bad, is)) (inr (more, worse, is_other)) =
    ap (λ r. Err r) (is ∙ ap (λ ws. BadSymbol (BadMode ws)) (same_words (grid_fault_once (known worse.cut) (grid.BadMode words) (grid.BadMode more) (bad.each worse.size worse.cut worse.sized worse.is_cut) (worse.each worse.size worse.cut worse.sized worse.is_cut))) ∙ sym is_other)
  where
    same_words : (grid.BadMode words ≡ grid.NoMemory) ⊎ ((grid.BadMode more ≡ grid.NoMemory) ⊎ (grid.BadMode words ≡ grid.BadMode more)) → words ≡ more
    same_words (inl none) = cc
    same_words (inr (inl none)) = cc
    same_words (inr (inr same)) = cc

pub sees_anywhere_one : (bytes : List ℕ) → IsOne (sees_anywhere bytes)
unfolding sees_anywhere
sees_anywhere_one bytes =
    then_one (bmp_pixels bytes) _ (answered_one bmp_fault (pixels_of bytes))
    (λ pixels. then_one (locates pixels) _ (locates_one pixels)
    (λ stand. then_one (cuts pixels stand) _ (cuts_one pixels stand) (λ cut. only_one (Ok (known cut)))))
