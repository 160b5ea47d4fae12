use Rattle.std.proofs.Common.{◌≡◌, ◌<◌, ◌≤◌, ℕ, false, List, None, get_or, length, subst, arith}
use Rattle.std.specs.Prelude.{All}
use Rattle.std.proofs.lemmas.List.{get_or_default}
use Rattle.bar_base.specs.declared.element.Element.{Element}
use Rattle.aztec_modes.specs.Entry.{bytes_as_elements}
use Rattle.aztec_layout.specs.declared.allowed.Allowed.{Allowed}
use Rattle.aztec_layout.specs.declared.choice.NoFit.{NoFit as Misfit}
use Rattle.aztec_layout.specs.Allowed.{allowed_of}
use Rattle.aztec_draw.specs.Symbol.{HasNoSymbol, IsDrawFault}
use Rattle.aztec_draw.specs.declared.fault.DrawFault.{DrawFault}
use Rattle.aztec_draw.specs.declared.fault.DrawFault.TheVariants.{NoFit}
use Rattle.zint_demo.proofs.AlwaysFits.{always_fits}
use Rattle.zint_demo.proofs.demonstration.draw_bytes.Goals as goal

never : (bytes : List ℕ) (elements : List Element) (allowed : Allowed) (fault : DrawFault) (misfit : Misfit) → All (λ byte. byte < 256) bytes → 0 < length bytes
    → length bytes ≤ 1500 → elements ≡ bytes_as_elements bytes → allowed ≡ allowed_of 23 None → fault ≡ NoFit misfit → IsDrawFault false elements allowed fault → ⊥
never bytes elements allowed fault misfit small some few elements_is allowed_is fault_is refused =
    always_fits bytes misfit small some few
    (subst (λ (es : List Element). HasNoSymbol false es (allowed_of 23 None) misfit) elements_is
    (subst (λ (a : Allowed). HasNoSymbol false elements a misfit) allowed_is
    (subst (λ (f : DrawFault). IsDrawFault false elements allowed f) fault_is refused)))

bytes_small : (bytes : List ℕ) → ((i : ℕ) → get_or bytes i 0 < 256) → All (λ byte. byte < 256) bytes
bytes_small bytes each = λ k d inside. subst (λ (b : ℕ). b < 256) (get_or_default bytes k 0 d inside) (each k)

pub unreachable-requires : goal.unreachable-requires
unreachable-requires c =
    never c.args.bytes.now c.in_ok-elements.elements c.of.result c.in-Err-NoFit.field-0 c.in-Err-NoFit.field-0-0
    (bytes_small c.args.bytes.now (λ i. omega (arith, c.type_inv.bytes i))) c.requires.some c.requires.few c.in_ok-elements.ensures c.of.ensures.allowed
    c.in-Err-NoFit.field-0-is c.in-Err-NoFit.ensures.refused
