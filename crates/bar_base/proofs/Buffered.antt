-- Bytes that wait in a buffer until they are written, piece after piece.
use Rattle.std.proofs.Common.{◌≡◌, ℕ, List, [], ◌++◌, sym, ap, ◌∙◌, subst, append_assoc, append-nil}
use Rattle.std.specs.declared.option.Option.{Option}
use Rattle.std.specs.Io.KnownBytes.{Appends}
use Rattle.std.proofs.KnownBytes.{Appends-nil, Appends-trans}
use Rattle.bar_base.specs.Buffered.{WritesFront}
use Rattle.bar_base.specs.Outside.{AppendsPrefix}
use Rattle.bar_base.proofs.Appended.{AppendsPrefix-after}

-- nothing was written, and all waits
pub WritesFront-none : (same : Option (List ℕ)) (bytes waiting : List ℕ) → waiting ≡ bytes → WritesFront same same bytes waiting
WritesFront-none same bytes waiting is = record { written = []; parts = is; appended = Appends-nil same }

-- all that waited was written, and what came waits
pub WritesFront-front : (old new : Option (List ℕ)) (front back waiting : List ℕ) → Appends old new front → waiting ≡ back → WritesFront old new (front ++ back) waiting
WritesFront-front old new front back waiting written is = record { written = front; parts = ap (λ (xs : List ℕ). front ++ xs) is; appended = written }

-- all was written, in two pieces
pub WritesFront-both : (old mid new : Option (List ℕ)) (front back waiting : List ℕ) → Appends old mid front → Appends mid new back → waiting ≡ []
    → WritesFront old new (front ++ back) waiting
WritesFront-both old mid new front back waiting first second is = record {
  written = front ++ back;
  parts = ap (λ (xs : List ℕ). (front ++ back) ++ xs) is ∙ append-nil (front ++ back);
  appended = Appends-trans old mid new front back first second;
}

-- after one more piece
pub WritesFront-more : {old mid new : Option (List ℕ)} {bytes waiting : List ℕ} (piece waiting' : List ℕ)
    → WritesFront old mid bytes waiting → WritesFront mid new (waiting ++ piece) waiting' → WritesFront old new (bytes ++ piece) waiting'
WritesFront-more {old} {mid} {new} {bytes} {waiting} piece waiting' first second = record {
  written = first.written ++ second.written;
  parts = append_assoc first.written second.written waiting' ∙ ap (λ (xs : List ℕ). first.written ++ xs) second.parts
      ∙ sym (append_assoc first.written waiting piece) ∙ ap (λ (xs : List ℕ). xs ++ piece) first.parts;
  appended = Appends-trans old mid new first.written second.written first.appended second.appended;
}

-- once what waits is written, all is
pub WritesFront-all : (old mid new : Option (List ℕ)) (bytes waiting : List ℕ) → WritesFront old mid bytes waiting → Appends mid new waiting → Appends old new bytes
WritesFront-all old mid new bytes waiting first last =
    subst (Appends old new) first.parts (Appends-trans old mid new first.written waiting first.appended last)

-- a prefix of what waits and came makes a prefix of all
pub WritesFront-part : {old mid new : Option (List ℕ)} {bytes waiting : List ℕ} (piece : List ℕ)
    → WritesFront old mid bytes waiting → AppendsPrefix mid new (waiting ++ piece) → AppendsPrefix old new (bytes ++ piece)
WritesFront-part {old} {mid} {new} {bytes} {waiting} piece first part =
    subst (AppendsPrefix old new) (sym (append_assoc first.written waiting piece) ∙ ap (λ (xs : List ℕ). xs ++ piece) first.parts)
    (AppendsPrefix-after first.written first.appended part)

pub ruleset buffered = (WritesFront-none, WritesFront-front, WritesFront-both)
