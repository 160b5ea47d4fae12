-- The stuffed codewords of some bits can be named in the mode message of the smallest size that holds the bits.
use Rattle.std.proofs.Common.{◌≡◌, ℕ, ◌<◌, Bool, List, length, subst, sym}
use Rattle.aztec_layout.specs.declared.allowed.Allowed.{Allowed}
use Rattle.aztec_layout.specs.declared.sizes.Size.{Size}
use Rattle.aztec_layout.specs.ModeMessage.{CanHold}
use Rattle.aztec_layout.specs.Sizes.{codeword_width}
use Rattle.aztec_layout.specs.Smallest.{IsSmallest}
use Rattle.aztec_layout.specs.Stuffing.{IsStuffed}
use Rattle.aztec_layout.proofs.SizeLemmas.{can_hold}
use Rattle.aztec_layout.proofs.StuffingLemmas.{stuffed_some}

pub held_fits : (bits : List Bool) (words : List ℕ) (allowed : Allowed) (size : Size) (width held : ℕ) → 0 < length bits → IsSmallest bits allowed size
    → width ≡ codeword_width size → IsStuffed width bits words → held ≡ length words → CanHold size held
held_fits bits words allowed size width held some smallest width_is stuffed held_is =
    let here : IsStuffed (codeword_width size) bits words = subst (λ (w : ℕ). IsStuffed w bits words) width_is stuffed in
    subst (λ (n : ℕ). CanHold size n) (sym held_is) (can_hold bits words allowed size smallest here (stuffed_some (codeword_width size) bits words here some))
