-- Bytes that are written piece by piece, whatever they are.
use Rattle.std.proofs.Common.{◌≡◌, ℕ, ◌≤◌, List, [], ◌++◌, refl, sym, ap, ◌∙◌, subst, arith, append_assoc}
use Rattle.std.proofs.lemmas.List.{append-nil}
use Rattle.std.specs.declared.option.Option.{Option}
use Rattle.std.specs.Io.KnownBytes.{Appends}
use Rattle.std.proofs.KnownBytes.{Appends-nil, Appends-trans}
use Rattle.bar_base.specs.Outside.{AppendsPrefix, Rest}
use Rattle.bar_base.proofs.Appended.{AppendsPrefix-after, AppendsPrefix-front}

-- Of these bytes a front was written, and the others are left; the count of faults has not fallen, and the rest is as it was.
pub record IsWriting (bytes left : List ℕ) (old new : Option (List ℕ)) (faults faults' : ℕ) (rest rest' : Rest) : Type 0 where
  pub done : List ℕ
  pub parts : done ++ left ≡ bytes
  pub appended : Appends old new done
  pub later : faults ≤ faults'
  pub same_rest : rest' ≡ rest

-- nothing was written yet
pub IsWriting-none : (bytes left : List ℕ) (old : Option (List ℕ)) (faults : ℕ) (rest : Rest) → left ≡ bytes
    → IsWriting bytes left old old faults faults rest rest
IsWriting-none bytes left old faults rest same = record {
  done = [];
  parts = same;
  appended = Appends-nil old;
  later = omega arith;
  same_rest = refl;
}

-- after one more piece
pub IsWriting-more : {bytes left : List ℕ} (piece later_bytes : List ℕ) {old mid new : Option (List ℕ)} {f f' f'' : ℕ} {r r' r'' : Rest}
    → IsWriting bytes left old mid f f' r r' → left ≡ piece ++ later_bytes → Appends mid new piece → f' ≤ f'' → r'' ≡ r'
    → IsWriting bytes later_bytes old new f f'' r r''
IsWriting-more piece later_bytes {old} {mid} {new} so_far splits written later same = record {
  done = so_far.done ++ piece;
  parts = append_assoc so_far.done piece later_bytes ∙ ap (λ (bytes : List ℕ). so_far.done ++ bytes) (sym splits) ∙ so_far.parts;
  appended = Appends-trans old mid new so_far.done piece so_far.appended written;
  later = omega arith;
  same_rest = same ∙ so_far.same_rest;
}

-- all was written
pub IsWriting-all : {bytes left : List ℕ} {old new : Option (List ℕ)} {f f' : ℕ} {r r' : Rest}
    → IsWriting bytes left old new f f' r r' → left ≡ [] → Appends old new bytes
IsWriting-all {old = old} {new = new} so_far nothing_left =
    subst (Appends old new) (sym (append-nil so_far.done) ∙ ap (λ (rest : List ℕ). so_far.done ++ rest) (sym nothing_left) ∙ so_far.parts) so_far.appended

-- of one more piece a part was written
pub IsWriting-part : {bytes left : List ℕ} (piece later_bytes : List ℕ) {old mid new : Option (List ℕ)} {f f' : ℕ} {r r' : Rest}
    → IsWriting bytes left old mid f f' r r' → left ≡ piece ++ later_bytes → AppendsPrefix mid new piece → AppendsPrefix old new bytes
IsWriting-part {bytes} {left} piece later_bytes {old} {mid} {new} so_far splits part =
    let rest : AppendsPrefix mid new (piece ++ later_bytes) = AppendsPrefix-front later_bytes part in
    let whole : so_far.done ++ (piece ++ later_bytes) ≡ bytes = ap (λ (bytes : List ℕ). so_far.done ++ bytes) (sym splits) ∙ so_far.parts in
    subst (AppendsPrefix old new) whole (AppendsPrefix-after so_far.done so_far.appended rest)
