-- Bytes that were appended, whole or in part, and counts of faults, over several calls.
use Rattle.std.proofs.Common.{◌≡◌, ℕ, ◌+◌, ◌≤◌, List, ◌++◌, length, take, min, subst, sym, ◌∙◌, arith, Result, Err, Ok, OnErr}
use Rattle.std.proofs.Math.Seq.{take-append-add, take-length}
use Rattle.std.proofs.lemmas.List.{take-append-le, take_min}
use Rattle.std.specs.declared.option.Option.{Option}
use Rattle.std.specs.Io.KnownBytes.{Appends}
use Rattle.std.proofs.KnownBytes.{Appends-nil, Appends-trans}
use Rattle.bar_base.specs.Faults.{Rose}
use Rattle.bar_base.specs.Outside.{AppendsPrefix}

-- what holds, holds of a refusal
pub on_refusal : {T E P : Type 0} (result : Result T E) → P → OnErr result P
on_refusal (Ok value) holds = tt
on_refusal (Err error) holds = holds

-- nothing is a prefix of any bytes
pub AppendsPrefix-none : (same : Option (List ℕ)) (bytes : List ℕ) → AppendsPrefix same same bytes
AppendsPrefix-none same bytes = record { count = 0; prefix = Appends-nil same }

-- the whole is a prefix
pub AppendsPrefix-whole : (old new : Option (List ℕ)) (bytes : List ℕ) → Appends old new bytes → AppendsPrefix old new bytes
AppendsPrefix-whole old new bytes whole = record { count = length bytes; prefix = subst (Appends old new) (sym (take-length bytes)) whole }

-- the first bytes of the front are the first of the whole
take-front : (count : ℕ) (front back : List ℕ) → take (min count (length front)) (front ++ back) ≡ take count front
take-front count front back = take-append-le (min count (length front)) front back (omega arith) ∙ take_min count front

-- a prefix of the front is a prefix of the whole
pub AppendsPrefix-front : {old new : Option (List ℕ)} {front : List ℕ} (back : List ℕ) → AppendsPrefix old new front → AppendsPrefix old new (front ++ back)
AppendsPrefix-front {old} {new} {front} back part =
    record { count = min part.count (length front); prefix = subst (Appends old new) (sym (take-front part.count front back)) part.prefix }

-- after the front a prefix of what follows
pub AppendsPrefix-after : {old mid new : Option (List ℕ)} (front : List ℕ) {back : List ℕ} → Appends old mid front → AppendsPrefix mid new back → AppendsPrefix old new (front ++ back)
AppendsPrefix-after {old} {mid} {new} front {back} whole part =
    record { count = length front + part.count; prefix = subst (Appends old new) (sym (take-append-add front back part.count)) (Appends-trans old mid new front (take part.count back) whole part.prefix) }

-- a fault that was counted in a part was counted in the whole
pub Rose-in_part : (first old new last : ℕ) → first ≤ old → old ≤ new → Rose old new → new ≤ last → Rose first last
Rose-in_part first old new last before later rose after = grind arith

pub ruleset appended = (AppendsPrefix-none, AppendsPrefix-front, AppendsPrefix-after, Appends-nil, Appends-trans)
