-- The first of several lists' elements.
use Rattle.std.proofs.Common.{◌≡◌, List, ◌++◌, Bool, refl}
use Rattle.std.specs.Prelude.{find}
use Rattle.std.specs.Option.{option_or}
use Rattle.std.proofs.lemmas.List.Folds.{find-append}

-- what is found in four lists, one after the other
pub find_in_four : {X : Type 0} (p : X → Bool) (a b c d : List X)
    → find p (a ++ b ++ c ++ d) ≡ option_or (option_or (option_or (find p a) (find p b)) (find p c)) (find p d)
find_in_four p a b c d = rw (find-append p (a ++ b ++ c) d, find-append p (a ++ b) c, find-append p a b) refl
