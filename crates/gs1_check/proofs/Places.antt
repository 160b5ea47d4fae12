-- Where no place passes, the search comes to the end.
use Rattle.std.proofs.Common.{◌≡◌, ◌∙◌, List, Bool, cond, length, Some, None, ap, sym, arith, inl, inr}
use Rattle.std.specs.List.{position, position_or_len}
use Rattle.std.proofs.lemmas.Bool.{cases_lt, lt-ltb}
use Rattle.bar_base.proofs.ListLemmas.{position_or_len-within}

pub none_first : {X : Type 0} (p : X → Bool) (xs : List X) → position p xs ≡ None → length xs ≡ position_or_len p xs
none_first p xs none =
    let within = position_or_len-within p xs in
    elim (cases_lt (position_or_len p xs) (length xs)) [
      | inl below ↦ let k = position_or_len p xs in let e : Some k ≡ None = ap (λ b. cond b (Some k) None) (sym (lt-ltb k (length xs) below)) ∙ none in cc
      | inr past ↦ omega arith
    ]
