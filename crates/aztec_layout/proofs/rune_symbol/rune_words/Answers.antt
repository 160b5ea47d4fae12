use Rattle.std.proofs.Common.{ℕ, List, [], ◌∷◌, ◌/◌, ◌%◌, subst}
use Rattle.galois.specs.CheckNumbers.{IsContinuation, polynomial_of}
use Rattle.aztec_layout.proofs.DrawnLemmas.{rune_message, rune_once}
use Rattle.aztec_layout.proofs.ModeLemmas.{same_two}
use Rattle.aztec_layout.proofs.rune_symbol.rune_words.Goals as goal

pub returns : goal.returns
returns c =
    let coded : IsContinuation 4 (polynomial_of 4) (c.args.value / 16 ∷ c.args.value % 16 ∷ []) 5 c.coded.result =
    subst (λ (front : List ℕ). IsContinuation 4 (polynomial_of 4) front 5 c.coded.result)
    (same_two _ _ (c.args.value / 16) (c.args.value % 16) c.from.ensures c.from-2.ensures) c.coded.ensures in
    record { message = rune_message c.args.value c.coded.result coded; only = λ others other. rune_once c.args.value c.coded.result others coded other }
