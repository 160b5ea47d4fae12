-- What a refusal says of drawn bits, it says of their elements.
use Rattle.std.proofs.Common.{Bool, List}
use Rattle.bar_base.specs.declared.element.Element.{Element}
use Rattle.aztec_best.specs.Shortest.{IsDrawn}
use Rattle.aztec_layout.specs.declared.allowed.Allowed.{Allowed}
use Rattle.aztec_draw.specs.Symbol.{IsBitsFault, IsDrawFault}
use Rattle.aztec_draw.specs.declared.fault.DrawFault.{DrawFault}
use Rattle.aztec_draw.specs.declared.fault.DrawFault.TheVariants.{NoMemory, NoFit}

pub draw_fault : (append : Bool) (elements : List Element) (bits : List Bool) (allowed : Allowed) → IsDrawn append elements bits
    → (fault : DrawFault) → IsBitsFault bits allowed fault → IsDrawFault append elements allowed fault
draw_fault append elements bits allowed drawn NoMemory h = tt
draw_fault append elements bits allowed drawn (NoFit misfit) h = record { spelling = bits; drawn = drawn; no_fit = h }
