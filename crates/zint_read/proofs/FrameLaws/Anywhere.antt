-- A picture near a drawn symbol that stands anywhere in an image is the cut that is read.
use Rattle.std.proofs.Common.{◌≡◌, ◌⊎◌, ℕ, ◌-◌, ◌∙◌, arith, Bool, true, false, List, Result, Ok, Err, refl, sym, ap, subst, inl, inr}
use Rattle.bar_base.specs.Bits.{to_bits}
use Rattle.bar_base.specs.Picture.{Picture}
use Rattle.bar_base.specs.declared.message.Message.{Message}
use Rattle.bar_base.proofs.NumberBits.{to_bits_once}
use Rattle.galois.specs.CheckNumbers.{IsNearIn, polynomial_of}
use Rattle.aztec_layout.specs.ModeMessage.{IsModeMessage, check_words}
use Rattle.aztec_layout.specs.Sizes.{IsSize}
use Rattle.aztec_layout.specs.declared.sizes.Size.{Size}
use Rattle.aztec_layout.proofs.SizeLemmas.{side_some}
use Rattle.image_locate.specs.Finding.{HasNoStand, IsFirstStand}
use Rattle.image_locate.specs.Stands.{IsCut}
use Rattle.image_locate.specs.declared.stand.Stand.{Stand}
use Rattle.image_locate.proofs.CutCores.{modes_shared}
use Rattle.image_locate.proofs.Cuts.{cut_once}
use Rattle.image_locate.proofs.Search.{first_once}
use Rattle.symbol_reader.specs.Drawn.{IsMessageSymbol, IsNearSeen}
use Rattle.symbol_reader.specs.Reading.{IsFaultIn, IsFound, IsMode}
use Rattle.symbol_reader.specs.Sight.{AreSeenModes, Sight, known}
use Rattle.symbol_reader.specs.declared.grid_fault.GridFault.{GridFault}
use Rattle.symbol_reader.specs.declared.grid_fault.GridFault.TheVariants as grid
use Rattle.symbol_reader.specs.declared.reading.LostReading.{LostReading}
use Rattle.symbol_reader.proofs.DrawnReads.{near_can_read, no_fault_near}
use Rattle.symbol_reader.proofs.OneSize.{found_once}
use Rattle.symbol_reader.proofs.ReadOnce.{CanRead}
use Rattle.symbol_reader.proofs.Sights.{modes_once, same_here}
use Rattle.zint_answers.specs.declared.fault.Fault.TheVariants.{NoMemory, Refused}
use Rattle.zint_answers.specs.declared.refusal.Refusal.{Refusal}
use Rattle.zint_read.specs.Images.{bmp_pixels}
use Rattle.zint_read.specs.frames.Anywhere.{HasGoodMode, IsFoundIn, cuts, locates, sees_anywhere}
use Rattle.zint_read.specs.readers.Aztec.{DrawnMessage, IsNearDrawn, grid_fault, reads_sight}
use Rattle.zint_read.proofs.Cuts.{by_layers, cut_found}
use Rattle.zint_read.proofs.CutsOnce.{sees_anywhere_one}
use Rattle.zint_read.proofs.Seeing.{FrameLaws, value_of}

-- the layers that a mode message names
layers_once : (f : Bool) (one other held more : ℕ) (mode : List ℕ) → IsSize (record { full = f; layers = one }) → IsSize (record { full = f; layers = other })
    → IsModeMessage (record { full = f; layers = one }) held mode → IsModeMessage (record { full = f; layers = other }) more mode → one ≡ other
layers_once true one other held more mode sized other_sized is is_other =
    let h = to_bits_once 5 (one - 1) (other - 1) (to_bits 11 (held - 1)) (to_bits 11 (more - 1)) (omega (arith, sized.1)) (omega (arith, other_sized.1)) (sym is.front ∙ is_other.front) in
    omega (arith, h.number, sized.0, other_sized.0)
layers_once false one other held more mode sized other_sized is is_other =
    let h = to_bits_once 2 (one - 1) (other - 1) (to_bits 6 (held - 1)) (to_bits 6 (more - 1)) (omega (arith, sized.1)) (omega (arith, other_sized.1)) (sym is.front ∙ is_other.front) in
    omega (arith, h.number, sized.0, other_sized.0)

-- An answer to a picture with a good mode message, other than want of memory, stands behind its mode message.
ModeBehind : Picture → Type 0
ModeBehind cut = (s : Size) × (h : ℕ) × IsMode (known cut) s h

mode_behind : (cut : Picture) (size : Size) → IsFound (known cut) size → HasGoodMode cut → (fault : GridFault) → IsFaultIn (known cut) fault → (fault ≡ grid.NoMemory) ⊎ ModeBehind cut
unfolding ModeBehind
mode_behind cut size found good grid.NoMemory refused = inl refl
mode_behind cut size found good (grid.BadSide width rows) refused = absurd (refused.2 size found.side)
mode_behind cut size found good (grid.NoFinder x y) refused = absurd (refused.none size found)
mode_behind cut size found good (grid.BadMode words) refused = absurd (good words refused)
mode_behind cut size found good (grid.TooDamaged count check) refused = inr (refused.size, refused.held, refused.mode)
mode_behind cut size found good (grid.BadSpelling place) refused = inr (refused.size, refused.held, refused.corrected.mode)
mode_behind cut size found good (grid.BadWord place) refused = inr (refused.size, refused.held, refused.corrected.mode)

answer_behind : (cut : Picture) (size : Size) → IsFound (known cut) size → HasGoodMode cut → (answer : Result LostReading Refusal) → reads_sight (known cut) answer → ModeBehind cut
unfolding ModeBehind
answer_behind cut size found good (Ok read) is = (read.reading.size, read.reading.held, is.corrected.mode)
answer_behind cut size found good (Err refusal) (fault, refused, is) = by_mode (mode_behind cut size found good fault refused)
  where
    by_mode : (fault ≡ grid.NoMemory) ⊎ ModeBehind cut → ModeBehind cut
    by_mode (inl none) = (let e : NoMemory ≡ Refused refusal = ap grid_fault (sym none) ∙ is in absurd (cc))
    by_mode (inr mode) = mode

module _ (pixels : Picture) (stand : Stand) (message : Message) (size : Size) (held : ℕ) (codewords : List ℕ) (drawn cut : Picture) (first : IsFirstStand pixels stand)
    (symbol : IsMessageSymbol message size held codewords drawn) (near : IsNearSeen size held codewords drawn (known cut)) (is : IsCut pixels stand size cut) where
  can : CanRead (known cut) message size held codewords
  can = near_can_read message size held codewords drawn symbol (known cut) near

  -- the mode words of another cut at the stand are those of the symbol's
  seen_there : (other : Size) (picture : Picture) → IsSize other → IsCut pixels stand other picture → AreSeenModes other.full (known picture) can.modes can.lost_modes
  seen_there other picture sized is_other = record {
    shown = modes_shared pixels stand other size picture cut sized symbol.sized is_other is can.modes can.modes_seen.shown;
    others = can.modes_seen.others;
    shown_dark = modes_shared pixels stand other size picture cut sized symbol.sized is_other is can.modes_seen.others can.modes_seen.shown_dark;
    lost_are = can.modes_seen.lost_are;
  }

  -- the mode message of a cut that is not bad names the size of the symbol
  mode_named : (other : Size) (picture : Picture) → IsSize other → IsCut pixels stand other picture → (s : Size) (h : ℕ) → IsMode (known picture) s h → other ≡ size
  mode_named other picture sized is_other s h mode =
      let here : s ≡ other = found_once (known picture) s other mode.found (cut_found pixels stand other picture first.shows sized is_other) in
      let m : IsMode (known picture) other h = subst (λ (z : Size). IsMode (known picture) z h) here mode in
      let kinds : other.full ≡ size.full = is_other.kind ∙ sym is.kind in
      let close : IsNearIn 4 (polynomial_of 4) (check_words other.full) m.lost m.words can.mode =
      same_here (modes_once other.full (known picture) can.modes m.words can.lost_modes m.lost (seen_there other picture sized is_other) m.seen)
      (λ gone ws. IsNearIn 4 (polynomial_of 4) (check_words other.full) gone ws can.mode)
      (subst (λ (f : Bool). IsNearIn 4 (polynomial_of 4) (check_words f) can.lost_modes can.modes can.mode) (sym kinds) can.mode_near) in
      let same : can.mode ≡ m.mode = m.corrected.only can.mode close in
      by_layers other size kinds (named_layers other size h held m.mode kinds sized symbol.sized m.message (subst (IsModeMessage size held) same can.named))
    where
      named_layers : (one two : Size) (h k : ℕ) (mode : List ℕ) → one.full ≡ two.full → IsSize one → IsSize two → IsModeMessage one h mode → IsModeMessage two k mode → one.layers ≡ two.layers
      named_layers one two h k mode kinds sized other_sized a b =
          let make : Bool → ℕ → Size = λ f n. record { full = f; layers = n } in
          layers_once two.full one.layers two.layers h k mode
          (subst (λ (f : Bool). IsSize (make f one.layers)) kinds sized) other_sized
          (subst (λ (f : Bool). IsModeMessage (make f one.layers) h mode) kinds a) b

  -- such a cut is that of the symbol
  same_cut : (other : Size) (picture : Picture) → IsSize other → IsCut pixels stand other picture → (s : Size) (h : ℕ) → IsMode (known picture) s h → picture ≡ cut
  same_cut other picture sized is_other s h mode =
      let same = mode_named other picture sized is_other s h mode in
      cut_once pixels stand size picture cut (omega (arith, side_some size symbol.sized)) (subst (λ (z : Size). IsCut pixels stand z picture) same is_other) is

  -- the mode message of the symbol's cut is not bad
  good : HasGoodMode cut
  good words bad = (let none : grid.BadMode words ≡ grid.NoMemory = no_fault_near message size held codewords drawn symbol (known cut) near (grid.BadMode words) bad in cc)

  -- the cut that is read is that of the symbol
  pub cut_read : (other : Picture) → cuts pixels stand (Ok other) → (answer : Result LostReading Refusal) → reads_sight (known other) answer → other ≡ cut
  unfolding cuts ModeBehind
  cut_read other c answer read =
      let behind = answer_behind other c.size (cut_found pixels stand c.size other first.shows c.sized c.is_cut) c.good answer read in
      same_cut c.size other c.sized c.is_cut behind.0 behind.1 behind.2

  pub cut_not_refused : (refusal : Refusal) → cuts pixels stand (Err refusal) → ⊥
  unfolding cuts
  cut_not_refused refusal (inl (none, is_refusal)) = none size cut symbol.sized is
  cut_not_refused refusal (inr (words, bad, is_refusal)) = good words (bad.each size cut symbol.sized is)

module _ (bytes : List ℕ) (drawn : DrawnMessage) (sight : Sight) (near : IsNearDrawn drawn sight) (found : IsFoundIn bytes drawn.size sight) where
  near_cut : IsNearSeen drawn.size drawn.held near.codewords near.grid (known found.cut)
  near_cut = subst (IsNearSeen drawn.size drawn.held near.codewords near.grid) found.sight_is near.near

  same_pixels : (pixels : Picture) → bmp_pixels bytes (Ok pixels) → pixels ≡ found.pixels
  same_pixels pixels shown = ap (value_of found.pixels) (sym shown ∙ found.shown)

  cuts_here : (pixels : Picture) (stand : Stand) → bmp_pixels bytes (Ok pixels) → IsFirstStand pixels stand → (answer : Result Picture Refusal) → cuts pixels stand answer
      → cuts found.pixels found.stand answer
  cuts_here pixels stand shown first answer is =
      let same = same_pixels pixels shown in
      let here : IsFirstStand found.pixels stand = subst (λ (p : Picture). IsFirstStand p stand) same first in
      subst (λ (z : Stand). cuts found.pixels z answer) (first_once found.pixels stand found.stand here found.first) (subst (λ (p : Picture). cuts p stand answer) same is)

  -- what is seen and has an answer is what the image has to show of the symbol.
  found_seen : (other : Sight) → sees_anywhere bytes (Ok other) → (answer : Result LostReading Refusal) → reads_sight other answer → other ≡ sight
  unfolding sees_anywhere locates
  found_seen other (pixels, shown, (stand, first, (cut, is_cut, is))) answer read =
      let sights : other ≡ known cut = ap (value_of other) is in
      let same : cut ≡ found.cut =
      cut_read found.pixels found.stand drawn.message drawn.size drawn.held near.codewords near.grid found.cut found.first near.symbol near_cut found.is_cut cut
      (cuts_here pixels stand shown first (Ok cut) is_cut) answer (subst (λ (z : Sight). reads_sight z answer) sights read) in
      sights ∙ ap known same ∙ sym found.sight_is

  -- such an image is not refused
  found_not_refused : (refusal : Refusal) → sees_anywhere bytes (Err refusal) → ⊥
  unfolding sees_anywhere locates
  found_not_refused refusal (inl (fault, gives, is)) = (let e = sym found.shown ∙ gives in cc)
  found_not_refused refusal (inr (pixels, shown, inl (none, is))) =
      subst HasNoStand (same_pixels pixels shown) none found.stand found.first.ranged found.first.shows
  found_not_refused refusal (inr (pixels, shown, inr (stand, first, inl refused))) =
      cut_not_refused found.pixels found.stand drawn.message drawn.size drawn.held near.codewords near.grid found.cut found.first near.symbol near_cut found.is_cut refusal
      (cuts_here pixels stand shown first (Err refusal) refused)
  found_not_refused refusal (inr (pixels, shown, inr (stand, first, inr (cut, is_cut, is)))) = cc

pub anywhere_laws : (bytes : List ℕ) → FrameLaws (sees_anywhere bytes) (IsFoundIn bytes)
anywhere_laws bytes = record {
  one = sees_anywhere_one bytes;
  near_seen = λ drawn sight other near found seen answer read. found_seen bytes drawn sight near found other seen answer read;
  not_refused = λ drawn sight near found refusal refused. found_not_refused bytes drawn sight near found refusal refused;
}
