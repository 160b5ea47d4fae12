-- What reading an input says of its content.
use Rattle.std.proofs.Common.{◌≡◌, ◌<◌, ℕ, List, Some, None, length, refl, sym, ap, ◌∙◌, subst, true, false, if◌then◌else◌, nat_eq, codes, IfSome}
use Rattle.std.specs.declared.option.Option.{Option}
use Rattle.std.specs.Option.{option_map}
use Rattle.std.specs.List.{starts_with}
use Rattle.bar_base.specs.Files.{FilesState, Reading, Lacks, Opens, left_of, beside_left, beside_reading, files_in, SameFiles}
use Rattle.bar_base.specs.Limits.{most_bytes}
use Rattle.bar_base.specs.Input.{limit_for, IsTooLong}
use Rattle.zint_answers.specs.declared.detail.Unit.TheVariants.{Bytes}
use Rattle.zint_answers.specs.declared.refusal.Refusal.TheVariants.{TooLong}
use Rattle.zint_cli.specs.Content.{known, missing, content_left, file_content, named_content, IsPastLimit, IsOverLimit, IsContent}

-- where both limits are one, it counts for every input
pub limit_same : (limit : ℕ) (input : List ℕ) → limit_for limit limit input ≡ limit
limit_same limit input = elim (starts_with nat_eq input (codes "BM")) as (λ b. (if b then limit else limit) ≡ limit) [ true ↦ refl | false ↦ refl ]

-- all that was left is the content
pub content_taken : (left : Option (List ℕ)) (bytes : List ℕ) → IfSome left (λ input. bytes ≡ input) → IsContent (content_left left) bytes
content_taken None bytes whole = tt
content_taken (Some input) bytes whole = whole

-- bytes past the limit that counts for them
past_limit : (picture_limit counts : ℕ) (bytes : List ℕ) → counts ≡ limit_for most_bytes picture_limit bytes → counts < length bytes
    → IsPastLimit picture_limit bytes (TooLong counts Bytes)
past_limit picture_limit counts bytes is longer =
    let P : ℕ → Type 0 = λ limit. limit < length bytes in
    (subst P is longer, ap (λ limit. TooLong limit Bytes) is)

-- an input that was too long is a content that is too long
pub content_long : (picture_limit : ℕ) (old new : Option (List ℕ)) (counts : ℕ) → IsTooLong most_bytes picture_limit old new counts
    → IsOverLimit picture_limit (content_left old) (TooLong counts Bytes)
content_long picture_limit None new counts long =
    (long.prefix, past_limit picture_limit counts long.prefix long.counts_for_prefix long.longer)
content_long picture_limit (Some input) new counts long = past_limit picture_limit counts input long.whole.0 long.whole.1

pub ruleset reading = (limit_same, content_taken, content_long)

-- a file that was opened has the content of its name left
pub opened_content : (name : List ℕ) (old new : Option FilesState) → Opens name old new → option_map beside_reading new ≡ option_map beside_reading old
    → content_left (left_of new) ≡ named_content name old
opened_content name None None opens beside = refl
opened_content name None (Some t) opens beside = cc
opened_content name (Some s) None opens beside = absurd opens
opened_content name (Some s) (Some t) opens beside =
    let read : content_left (option_map {T = Reading} (λ r. r.left) t.reading) ≡ known opens.0 =
    ap (λ r. content_left (option_map {T = Reading} (λ x. x.left) r)) opens.2 in
    read ∙ sym (ap file_content opens.1)

-- a name that the told files lack has no content
pub content_lacks : (name : List ℕ) (files : Option FilesState) → Lacks name files → named_content name files ≡ missing
content_lacks name None lacks = absurd lacks
content_lacks name (Some s) lacks = ap file_content lacks

-- reading leaves the files
pub same_beside_left : (old new : Option FilesState) → option_map beside_left new ≡ option_map beside_left old → SameFiles old new
same_beside_left None None beside = refl
same_beside_left None (Some t) beside = cc
same_beside_left (Some s) None beside = cc
same_beside_left (Some s) (Some t) beside = ap (λ (state : Option FilesState). files_in state) beside

pub same_beside_reading : (old new : Option FilesState) → option_map beside_reading new ≡ option_map beside_reading old → SameFiles old new
same_beside_reading None None beside = refl
same_beside_reading None (Some t) beside = cc
same_beside_reading (Some s) None beside = cc
same_beside_reading (Some s) (Some t) beside = ap (λ (state : Option FilesState). files_in state) beside

pub ruleset opening = (opened_content, content_lacks, same_beside_left, same_beside_reading)
