-- What several writes of one piece, one after the other, have done.
use Rattle.std.proofs.Common.{◌≡◌, ℕ, ◌+◌, ◌-◌, ◌≤◌, List, length, take, drop, subst, sym, ap, ◌∙◌, arith, length-drop}
use Rattle.std.proofs.Math.Seq.{take-add}
use Rattle.std.proofs.lemmas.List.{take_all}
use Rattle.std.specs.declared.option.Option.{Option}
use Rattle.std.specs.Io.KnownBytes.{Appends}
use Rattle.std.proofs.KnownBytes.{Appends-trans}
use Rattle.bar_base.specs.Outside.{Rest}

-- the first bytes of the piece were written, the count has not fallen, and the rest is as it was
pub record WrittenSoFar (old new : Option (List ℕ)) (piece : List ℕ) (done : ℕ) (faults faults' : ℕ) (rest rest' : Rest) : Type 0 where
  pub within : done ≤ length piece
  pub front : Appends old new (take done piece)
  pub later : faults ≤ faults'
  pub same_rest : rest' ≡ rest

-- what the code calls the bytes behind the first ones
behind : (piece : List ℕ) (done : ℕ) → take (length piece - done) (drop done piece) ≡ drop done piece
behind piece done = take_all (length piece - done) (drop done piece) (omega (arith, length-drop done piece))

-- after one more write
pub WrittenSoFar-more : {old mid new : Option (List ℕ)} {piece : List ℕ} {done n f f' f'' : ℕ} {r r' r'' : Rest}
    → WrittenSoFar old mid piece done f f' r r' → n ≤ length (take (length piece - done) (drop done piece))
    → Appends mid new (take n (take (length piece - done) (drop done piece))) → f' ≤ f'' → r'' ≡ r'
    → WrittenSoFar old new piece (done + n) f f'' r r''
WrittenSoFar-more {old} {mid} {new} {piece} {done} {n} so_far fits written later same =
    let next : Appends mid new (take n (drop done piece)) = subst (λ rest. Appends mid new (take n rest)) (behind piece done) written in
    record {
      within = omega (arith, ap length (behind piece done), length-drop done piece);
      front = subst (Appends old new) (sym (take-add done n piece)) (Appends-trans old mid new (take done piece) (take n (drop done piece)) so_far.front next);
      later = omega arith;
      same_rest = same ∙ so_far.same_rest;
    }
