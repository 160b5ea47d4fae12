-- Bytes that are put piece by piece behind those that wait in a buffer, whatever they are.
use Rattle.std.proofs.Common.{◌≡◌, ℕ, ◌≤◌, List, [], ◌++◌, refl, sym, ap, ◌∙◌, subst, arith, append_assoc}
use Rattle.std.proofs.lemmas.List.{append-nil}
use Rattle.std.specs.declared.option.Option.{Option}
use Rattle.std.specs.Io.KnownBytes.{Appends}
use Rattle.std.proofs.KnownBytes.{Appends-nil, Appends-trans}
use Rattle.bar_base.specs.Buffered.{WritesFront}
use Rattle.bar_base.specs.Outside.{AppendsPrefix, Rest}
use Rattle.bar_base.proofs.Appended.{AppendsPrefix-after, AppendsPrefix-front}

-- Of these bytes a front was written, the next wait, and the others are left; the count of faults has not fallen, and the rest is as it was.
pub record IsPutting (bytes left waiting : List ℕ) (old new : Option (List ℕ)) (faults faults' : ℕ) (rest rest' : Rest) : Type 0 where
  pub done : List ℕ
  pub parts : done ++ (waiting ++ left) ≡ bytes
  pub appended : Appends old new done
  pub later : faults ≤ faults'
  pub same_rest : rest' ≡ rest

-- nothing was written yet
pub IsPutting-none : (bytes left waiting : List ℕ) (old : Option (List ℕ)) (faults : ℕ) (rest : Rest) → waiting ++ left ≡ bytes
    → IsPutting bytes left waiting old old faults faults rest rest
IsPutting-none bytes left waiting old faults rest same = record {
  done = [];
  parts = same;
  appended = Appends-nil old;
  later = omega arith;
  same_rest = refl;
}

-- after one more piece
pub IsPutting-more : {bytes left waiting waiting' : List ℕ} (piece later_bytes : List ℕ) {old mid new : Option (List ℕ)} {f f' f'' : ℕ} {r r' r'' : Rest}
    → IsPutting bytes left waiting old mid f f' r r' → left ≡ piece ++ later_bytes → WritesFront mid new (waiting ++ piece) waiting' → f' ≤ f'' → r'' ≡ r'
    → IsPutting bytes later_bytes waiting' old new f f'' r r''
IsPutting-more {waiting = waiting} {waiting' = waiting'} piece later_bytes {old} {mid} {new} so_far splits moves later same = record {
  done = so_far.done ++ moves.written;
  parts = append_assoc so_far.done moves.written (waiting' ++ later_bytes)
      ∙ ap (λ (bytes : List ℕ). so_far.done ++ bytes) (sym (append_assoc moves.written waiting' later_bytes) ∙ ap (λ (bytes : List ℕ). bytes ++ later_bytes) moves.parts
      ∙ append_assoc waiting piece later_bytes ∙ ap (λ (bytes : List ℕ). waiting ++ bytes) (sym splits)) ∙ so_far.parts;
  appended = Appends-trans old mid new so_far.done moves.written so_far.appended moves.appended;
  later = omega arith;
  same_rest = same ∙ so_far.same_rest;
}

-- past the last piece the bytes are what was written and what waits
no_more : {bytes left waiting : List ℕ} {old new : Option (List ℕ)} {f f' : ℕ} {r r' : Rest}
    → (so_far : IsPutting bytes left waiting old new f f' r r') → left ≡ [] → so_far.done ++ waiting ≡ bytes
no_more {waiting = waiting} so_far nothing_left =
    ap (λ (bytes : List ℕ). so_far.done ++ bytes) (sym (append-nil waiting) ∙ ap (λ (rest : List ℕ). waiting ++ rest) (sym nothing_left)) ∙ so_far.parts

-- all was put
pub IsPutting-put : {bytes left waiting : List ℕ} {old new : Option (List ℕ)} {f f' : ℕ} {r r' : Rest}
    → IsPutting bytes left waiting old new f f' r r' → left ≡ [] → WritesFront old new bytes waiting
IsPutting-put so_far nothing_left = record { written = so_far.done; parts = no_more so_far nothing_left; appended = so_far.appended }

-- all was put, and what waited was written
pub IsPutting-all : {bytes left waiting : List ℕ} {old mid : Option (List ℕ)} {f f' : ℕ} {r r' : Rest} (new : Option (List ℕ))
    → IsPutting bytes left waiting old mid f f' r r' → left ≡ [] → Appends mid new waiting → Appends old new bytes
IsPutting-all {waiting = waiting} {old} {mid} new so_far nothing_left last =
    subst (Appends old new) (no_more so_far nothing_left) (Appends-trans old mid new so_far.done waiting so_far.appended last)

-- of what waits a part was written
pub IsPutting-part : {bytes left waiting : List ℕ} {old mid new : Option (List ℕ)} {f f' : ℕ} {r r' : Rest}
    → IsPutting bytes left waiting old mid f f' r r' → AppendsPrefix mid new waiting → AppendsPrefix old new bytes
IsPutting-part {left = left} {waiting = waiting} {old} {mid} {new} so_far part =
    let rest : AppendsPrefix mid new (waiting ++ left) = AppendsPrefix-front left part in
    subst (AppendsPrefix old new) so_far.parts (AppendsPrefix-after so_far.done so_far.appended rest)

-- of what waits and one more piece a part was written
pub IsPutting-part_piece : {bytes left waiting : List ℕ} (piece later_bytes : List ℕ) {old mid new : Option (List ℕ)} {f f' : ℕ} {r r' : Rest}
    → IsPutting bytes left waiting old mid f f' r r' → left ≡ piece ++ later_bytes → AppendsPrefix mid new (waiting ++ piece) → AppendsPrefix old new bytes
IsPutting-part_piece {bytes} {left} {waiting} piece later_bytes {old} {mid} {new} so_far splits part =
    let rest : AppendsPrefix mid new ((waiting ++ piece) ++ later_bytes) = AppendsPrefix-front later_bytes part in
    let whole : so_far.done ++ ((waiting ++ piece) ++ later_bytes) ≡ bytes =
    ap (λ (bytes : List ℕ). so_far.done ++ bytes) (append_assoc waiting piece later_bytes ∙ ap (λ (bytes : List ℕ). waiting ++ bytes) (sym splits)) ∙ so_far.parts in
    subst (AppendsPrefix old new) whole (AppendsPrefix-after so_far.done so_far.appended rest)
