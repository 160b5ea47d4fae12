-- The code that begins the first spelling is the one that the search finds.
use Rattle.std.proofs.Common.{◌≡◌, ℕ, ◌<◌, Bool, List, ◌∷◌, length, drop, All, sym, subst}
use Rattle.bar_base.specs.Elements.{IsElement}
use Rattle.bar_base.specs.declared.element.Element.{Element}
use Rattle.aztec_modes.specs.declared.mode.Mode.{Mode}
use Rattle.aztec_modes.specs.declared.code.Code.{Code}
use Rattle.aztec_modes.specs.Spelling.{Spells}
use Rattle.aztec_modes.proofs.PathLaws.{path_only}
use Rattle.aztec_best.specs.declared.costs.Costs.{Costs}
use Rattle.aztec_best.specs.Bench.{IsFilledFrom}
use Rattle.aztec_best.specs.Shortest.{BeginsFirst}
use Rattle.aztec_best.specs.Picks.{IsFirstCheapest}
use Rattle.aztec_best.proofs.NextCodes.{next_there}
use Rattle.aztec_best.proofs.Drawing.{first_once, next_begins}

pub begins_cheapest : (table : List Costs) (es : List Element) → IsFilledFrom table es 0 → All IsElement es → (place : ℕ) (m : Mode) (code : Code) → place < length es
    → BeginsFirst m (drop place es) code → IsFirstCheapest table es place m code
begins_cheapest table es filled valid place m code inside (codes, bits, first) =
    let (found, next) = next_there table es filled valid place m inside in
    let (found_codes, found_bits, found_first) = next_begins table es filled valid place m found inside next in
    let same_bits : bits ≡ found_bits = first_once first found_first in
    let same = path_only (code ∷ codes) (found ∷ found_codes) first.spells
    (subst (λ (b : List Bool). Spells m (found ∷ found_codes) b (drop place es)) (sym same_bits) found_first.spells) in
    let codes_are : found ∷ found_codes ≡ code ∷ codes = same.0 in
    let code_is : found ≡ code = cc in
    subst (λ (k : Code). IsFirstCheapest table es place m k) code_is next
