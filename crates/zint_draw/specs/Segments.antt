-- Segments behind the data of a message, each in a character set of its own (ISO/IEC 24778, ECI), and the whole message.
use Rattle.std.specs.Prelude.{◌≡◌, ◌+◌, ◌++◌, ℕ, Bool, List, [], ◌∷◌, length, Option, Some, Result, Ok, Err, nat_lt, if◌then◌else◌}
use Rattle.std.specs.List.{sum_by}
use Rattle.bar_base.specs.Limits.{most_bytes}
use Rattle.bar_base.specs.declared.element.Element.{Element}
use Rattle.bar_base.specs.declared.message.Append.{Append}
use Rattle.bar_base.specs.declared.message.Message.{Message}
use Rattle.aztec_modes.specs.Message.{message_elements}
use Rattle.bar_base.specs.Steps.{Step, ◌>>=◌, only}
use Rattle.zint_answers.specs.declared.detail.Unit.TheVariants.{Bytes}
use Rattle.zint_answers.specs.declared.fault.Fault.{Fault}
use Rattle.zint_answers.specs.declared.fault.Fault.TheVariants.{Refused}
use Rattle.zint_answers.specs.declared.refusal.Refusal.{Refusal}
use Rattle.zint_answers.specs.declared.refusal.Refusal.TheVariants.{BadData, BadSegment, TooLong}
use Rattle.zint_settings.specs.Settings.{DrawingRequest, SegmentText}
use Rattle.zint_settings.specs.declared.drawing_options.DrawingOptions.{DrawingOptions}
use Rattle.zint_draw.specs.Data.{data_of, not_empty}
use Rattle.zint_draw.specs.Message.{data_kind, message_for}
use Rattle.zint_draw.specs.declared.message.DataKind.{DataKind}
use Rattle.zint_draw.specs.declared.message.DataKind.TheVariants as kind

-- how many bytes the texts of segments have together
abbrev pub bytes_in_segments : List SegmentText → ℕ
bytes_in_segments segments = sum_by (λ segment. length segment.text) segments

-- a content that has at most 65,536 bytes together with the segments behind it
abbrev pub within_bytes : List SegmentText → (raw : List ℕ) → Result (List ℕ) Refusal
within_bytes segments raw =
    if nat_lt most_bytes (length raw + bytes_in_segments segments) then Err (TooLong most_bytes Bytes) else Ok raw

-- what a refusal of bad data is where the data is that of a segment: it tells the number
abbrev pub told_of : (number : ℕ) → Refusal → Refusal
told_of number (BadData kind place) = BadSegment kind place number
told_of number refusal = refusal

-- a fault of the same, where it is a refusal
abbrev pub fault_in : (number : ℕ) → Fault → Fault
fault_in number (Refused refusal) = Refused (told_of number refusal)
fault_in number fault = fault

-- A step with the data of a segment, whose refusals tell its number.
abbrev pub in_segment : {A : Type 0} → (number : ℕ) → Step A Refusal → Step A Refusal
in_segment number step (Ok value) = step (Ok value)
in_segment number step (Err refusal) = (own : Refusal) × step (Err own) × (refusal ≡ told_of number own)

-- What the data of a segment is: bytes, or text in the set of its ECI, which is written.
abbrev pub segment_kind : (binary : Bool) → (eci : ℕ) → DataKind
segment_kind binary eci = if binary then kind.Bytes (Some eci) else kind.Text (Some eci)

-- The elements of a segment: those of a message of its data, which are its ECI and then its bytes.
unfoldable pub segment_elements : DrawingOptions → SegmentText → Step (List Element) Refusal
segment_elements options segment = do
  bytes ← data_of options.escapes segment.text
  some ← only (not_empty bytes)
  message ← message_for (segment_kind options.binary segment.eci) some
  only (Ok (message_elements message))

-- The elements of segments, joined in their order; the first one has the number.
unfoldable pub segments_elements : DrawingOptions → (number : ℕ) → List SegmentText → Step (List Element) Refusal
segments_elements options number [] = only (Ok [])
segments_elements options number (segment ∷ segments) = do
  first ← in_segment number (segment_elements options segment)
  more ← segments_elements options (number + 1) segments
  only (Ok (first ++ more))

-- a message in its place in a structured append set, where it has one, with more elements behind its body
abbrev pub continued : Message → Option Append → (more : List Element) → Message
continued message append more = record message { append = append; body = message.body ++ more }

-- The message of data and of the segments behind it.
unfoldable pub message_of : DrawingRequest → (bytes : List ℕ) → Step Message Refusal
message_of request bytes = do
  plain ← message_for (data_kind request.options) bytes
  more ← segments_elements request.options 1 request.segments
  only (Ok (continued plain request.append more))
