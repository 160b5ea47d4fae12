-- What was written over files that are the same, and what it leaves of every other file.
use Rattle.std.proofs.Common.{◌≡◌, ℕ, List, Option, Some, None, cond, take, refl, sym, ap, subst, ◌∙◌, inl, inr}
use Rattle.std.specs.FinMap.{get, insert}
use Rattle.std.specs.Option.{option_and_then, option_map}
use Rattle.bar_base.specs.Faults.{Rose}
use Rattle.bar_base.specs.Files.{FileMap, FilesState, HoldsFile, SameFiles, files_in}
use Rattle.bar_base.proofs.NameMaps.{bytes_eq-other, get-inserted}
use Rattle.bar_base.proofs.NamedFile.{HoldsFile-over, HoldsPart-over}
use Rattle.zint_cli.specs.Effects.{HoldsText, HoldsTextPart, WriteFaulted, file_in}

-- what was written over files that are the same
pub text_over : (output : Option (List ℕ)) (text : List ℕ) (out out' : Option (List ℕ)) (old mid new : Option FilesState)
    → SameFiles old mid → HoldsText output text out out' mid new → HoldsText output text out out' old new
text_over None text out out' old mid new same (appended, kept) = (appended, kept ∙ same)
text_over (Some name) text out out' old mid new same holds = HoldsFile-over name text old mid new same holds

pub part_over : (output : Option (List ℕ)) (text : List ℕ) (out out' : Option (List ℕ)) (old mid new : Option FilesState)
    → SameFiles old mid → HoldsTextPart output text out out' mid new → HoldsTextPart output text out out' old new
part_over None text out out' old mid new same (appended, kept) = (appended, kept ∙ same)
part_over (Some name) text out out' old mid new same holds = HoldsPart-over name text old mid new same holds

pub faulted_over : (output : Option (List ℕ)) (Faulted : Type 0) (old mid new : ℕ) → mid ≡ old → WriteFaulted output Faulted (Rose mid new)
    → WriteFaulted output Faulted (Rose old new)
faulted_over None Faulted old mid new same faulted = faulted
faulted_over (Some name) Faulted old mid new same faulted = subst (λ count. Rose count new) same faulted

-- where all files are the same, each one is
pub same_file : (name : List ℕ) (old new : Option FilesState) → SameFiles old new → file_in name new ≡ file_in name old
same_file name old new same = ap (λ (files : Option FileMap). option_and_then (λ files. get files name) files) same

inserted_other : (name written bytes : List ℕ) (files : Option FileMap) → (written ≡ name → ⊥)
    → option_and_then (λ files. get files name) (option_map (λ files. insert files written bytes) files) ≡ option_and_then (λ files. get files name) files
inserted_other name written bytes None other = refl
inserted_other name written bytes (Some files) other =
    get-inserted files written bytes name ∙ ap (λ same. cond same (Some bytes) (get files name)) (bytes_eq-other name written (λ is. other (sym is)))

-- where one file holds what was written, every other one is the same
other_file : (name written bytes : List ℕ) (old new : Option FilesState) → (written ≡ name → ⊥) → HoldsFile written bytes old new
    → file_in name new ≡ file_in name old
other_file name written bytes old new other holds =
    ap (λ (files : Option FileMap). option_and_then (λ files. get files name) files) holds ∙ inserted_other name written bytes (files_in old) other

some_name : {A : Type 0} (x y : A) → x ≡ y → Some x ≡ Some y
some_name x y is = ap Some is

-- where a text was written, every file but that of the output is the same,
pub text_other : (name : List ℕ) (output : Option (List ℕ)) (text : List ℕ) (out out' : Option (List ℕ)) (old new : Option FilesState)
    → (output ≡ Some name → ⊥) → HoldsText output text out out' old new → file_in name new ≡ file_in name old
text_other name None text out out' old new other (appended, same) = same_file name old new same
text_other name (Some written) text out out' old new other holds =
    other_file name written text old new (λ is. other (some_name written name is)) holds

-- and so where a part of it was
pub part_other : (name : List ℕ) (output : Option (List ℕ)) (text : List ℕ) (out out' : Option (List ℕ)) (old new : Option FilesState)
    → (output ≡ Some name → ⊥) → HoldsTextPart output text out out' old new → file_in name new ≡ file_in name old
part_other name None text out out' old new other (appended, same) = same_file name old new same
part_other name (Some written) text out out' old new other (inl same) = same_file name old new same
part_other name (Some written) text out out' old new other (inr (count, holds)) =
    other_file name written (take count text) old new (λ is. other (some_name written name is)) holds
