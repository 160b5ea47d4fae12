-- The content of the input that a request names.
use Rattle.std.specs.Prelude.{◌≡◌, ◌<◌, ◌≤◌, ℕ, Bool, List, Option, Some, None, false, length, codes, if◌then◌else◌, MatchBool, Ok, Err}
use Rattle.std.specs.FinMap.{get}
use Rattle.std.specs.Str.{bytes_eq}
use Rattle.bar_base.specs.Files.{FilesState}
use Rattle.bar_base.specs.Input.{limit_for}
use Rattle.bar_base.specs.Limits.{most_bytes}
use Rattle.bar_base.specs.Steps.{Step}
use Rattle.zint_answers.specs.declared.detail.Unit.TheVariants.{Bytes}
use Rattle.zint_answers.specs.declared.refusal.Refusal.{Refusal}
use Rattle.zint_answers.specs.declared.refusal.Refusal.TheVariants.{TooLong}
use Rattle.zint_settings.specs.Settings.{MessageOrigin, from_text, from_input}

-- What is known of a content: its bytes; that it is missing, for there is no file of its name; or nothing.
pub data Content : Type 0 where
  known : List ℕ → Content
  missing : Content
  unknown : Content

-- what is left of an input, where that is known
abbrev pub content_left : Option (List ℕ) → Content
content_left None = unknown
content_left (Some bytes) = known bytes

-- the bytes of a file that may be there
abbrev pub file_content : Option (List ℕ) → Content
file_content None = missing
file_content (Some bytes) = known bytes

-- the content of the file of a name
abbrev pub named_content : (name : List ℕ) → Option FilesState → Content
named_content name None = unknown
named_content name (Some state) = file_content (get state.files name)

-- the name of standard input
abbrev pub is_standard : (name : List ℕ) → Bool
is_standard name = bytes_eq name (codes "-")

-- The content that is drawn or read: the text itself, what is left of standard input, or the file of the name.
abbrev pub content_of : MessageOrigin → (left : Option (List ℕ)) → (files : Option FilesState) → Content
content_of (from_text bytes) left files = known bytes
content_of (from_input name) left files = if is_standard name then content_left left else named_content name files

-- whether what is left of standard input is asked for
abbrev pub names_standard : MessageOrigin → Bool
names_standard (from_text bytes) = false
names_standard (from_input name) = is_standard name

-- bytes are the content, as far as that is known
abbrev pub IsContent : Content → (bytes : List ℕ) → Type 0
IsContent (known content) bytes = bytes ≡ content
IsContent missing bytes = ⊥
IsContent unknown bytes = Unit {0}

-- Bytes are more than the limit that counts for them, which the refusal names. Where they begin with `BM` that is the limit of pictures,
-- else that of data and of grids.
abbrev pub IsPastLimit : (picture_limit : ℕ) → (bytes : List ℕ) → Refusal → Type 0
IsPastLimit picture_limit bytes refusal =
    let limit = limit_for most_bytes picture_limit bytes in (limit < length bytes) × (refusal ≡ TooLong limit Bytes)

-- the content has too many bytes, as far as it is known: else the bytes are that were read of it
abbrev pub IsOverLimit : (picture_limit : ℕ) → Content → Refusal → Type 0
IsOverLimit picture_limit (known content) refusal = IsPastLimit picture_limit content refusal
IsOverLimit picture_limit missing refusal = ⊥
IsOverLimit picture_limit unknown refusal = (bytes : List ℕ) × IsPastLimit picture_limit bytes refusal

-- The bytes of a content, as far as it is known; or that there are too many of them.
abbrev pub raw_of : (picture_limit : ℕ) → Content → Step (List ℕ) Refusal
raw_of picture_limit content (Ok raw) = IsContent content raw × (length raw ≤ limit_for most_bytes picture_limit raw)
raw_of picture_limit content (Err refusal) = IsOverLimit picture_limit content refusal

-- a fault was counted where the origin was read: standard input counts its own, and the files count those in reading
abbrev pub ReadFaulted : MessageOrigin → (input_faulted files_faulted : Type 0) → Type 0
ReadFaulted (from_text bytes) input_faulted files_faulted = ⊥
ReadFaulted (from_input name) input_faulted files_faulted = MatchBool (is_standard name) input_faulted files_faulted

-- the input of the origin was read to its end; a text needs no reading
abbrev pub HasEnded : MessageOrigin → (input_ended file_ended : Type 0) → Type 0
HasEnded (from_text bytes) input_ended file_ended = Unit {0}
HasEnded (from_input name) input_ended file_ended = MatchBool (is_standard name) input_ended file_ended
