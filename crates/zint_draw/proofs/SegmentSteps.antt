-- Segments one after the other, and what is behind the body of a message.
use Rattle.std.proofs.Common.{◌≡◌, ℕ, ◌+◌, ◌<◌, ◌≤◌, List, [], ◌∷◌, ◌++◌, Bool, true, false, Option, Some, None, Ok, is_some, nat_le, option_map, length, map, get_or, take, drop, slice_get, append-nil, append_assoc, ap, sym, subst, refl, arith, ◌∙◌}
use Rattle.std.proofs.lemmas.Bool.{lt-leb}
use Rattle.std.proofs.lemmas.List.{drop_all, length-map}
use Rattle.std.proofs.lemmas.List.Elements.{All-nil}
use Rattle.std.proofs.lemmas.List.Sums.{sum_by_more, sum_by_more_le}
use Rattle.std.proofs.lemmas.Option.{get_or_from_slice_get, slice_get-get_or, slice_get-map, slice_get_within}
use Rattle.bar_base.specs.declared.element.Element.{Element}
use Rattle.bar_base.proofs.ListLemmas.{drop_here}
use Rattle.input_escapes.proofs.Uniqueness.{only_bytes}
use Rattle.bar_base.specs.Steps.{Step, Then, only}
use Rattle.zint_answers.specs.Steps.{Refuses}
use Rattle.zint_answers.specs.declared.fault.Fault.{Fault}
use Rattle.zint_answers.specs.declared.fault.Fault.TheVariants.{NoMemory, Unread, Unwritten, Refused}
use Rattle.zint_answers.proofs.Steps.{refused_first, refused_later}
use Rattle.zint_settings.specs.Settings.{SegmentText, append_in, segment_in}
use Rattle.zint_settings.specs.declared.drawing_options.DrawingOptions.{DrawingOptions}
use Rattle.zint_settings.specs.declared.segment.Segment.{Segment}
use Rattle.zint_settings.specs.declared.set_place.SetPlace.{SetPlace}
use Rattle.zint_draw.specs.Data.{data_of, not_empty}
use Rattle.zint_draw.specs.Segments.{bytes_in_segments, fault_in, in_segment, segment_elements, segments_elements}
use Rattle.zint_answers.specs.declared.refusal.Refusal.{Refusal}

-- a segment of the settings, as one of a request
pub segment_here : (segments : List Segment) (place : ℕ) (segment : Segment) → place < length segments → segment ≡ get_or segments place segment
    → slice_get (map segment_in segments) place ≡ Some (segment_in segment)
segment_here segments place segment within is =
    slice_get-map segment_in segments place
    ∙ ap (option_map segment_in) (slice_get-get_or segments place segment within ∙ ap Some (sym is))

pub none_left : (segments : List Segment) (place : ℕ) → length segments ≤ place → drop place (map segment_in segments) ≡ []
none_left segments place past = drop_all place (map segment_in segments) (omega (arith, past, length-map segments segment_in))

-- the room for the bytes of segments: the next one is longer than what is left of it, or takes its part of it
pub room_passed : (segments : List SegmentText) (place room most : ℕ) (segment : SegmentText) → room + bytes_in_segments (take place segments) ≡ most
    → slice_get segments place ≡ Some segment → room < length segment.text → nat_le (bytes_in_segments segments) most ≡ false
room_passed segments place room most segment before here over =
    lt-leb (bytes_in_segments segments) most (omega (
      arith,
      before,
      over,
      sum_by_more_le (λ (s : SegmentText). length s.text) segments place segment (slice_get_within segments place segment here),
      ap (λ (s : SegmentText). length s.text) (get_or_from_slice_get segments place segment segment here),
    ))

pub room_left : (segments : List SegmentText) (place room left most : ℕ) (segment : SegmentText) → room + bytes_in_segments (take place segments) ≡ most
    → slice_get segments place ≡ Some segment → left + length segment.text ≡ room
    → left + bytes_in_segments (take (place + 1) segments) ≡ most
room_left segments place room left most segment before here is =
    omega (
      arith,
      before,
      is,
      sum_by_more (λ (s : SegmentText). length s.text) segments place segment (slice_get_within segments place segment here),
      ap (λ (s : SegmentText). length s.text) (get_or_from_slice_get segments place segment segment here),
    )

-- a fault of a step is one of the step in a segment
pub refuses_in : (number : ℕ) (step : Step (List Element) Refusal) (fault told : Fault) → told ≡ fault_in number fault → Refuses step fault
    → Refuses (in_segment number step) told
refuses_in number step NoMemory told is refused = subst (Refuses (in_segment number step)) (sym is) tt
refuses_in number step Unread told is refused = absurd refused
refuses_in number step Unwritten told is refused = absurd refused
refuses_in number step (Refused refusal) told is refused = subst (Refuses (in_segment number step)) (sym is) (refusal, refused, refl)

-- only a text with bytes has data
text_there : (escapes : Bool) (text data_bytes : List ℕ) → data_of escapes text (Ok data_bytes) → 0 < length data_bytes → 0 < length text
unfolding data_of
text_there escapes (byte ∷ text) data_bytes is some = omega arith
text_there true [] data_bytes stands some =
    let none : [] ≡ data_bytes =
    only_bytes [] [] data_bytes (record { pieces = []; each = All-nil _; text_is = refl; bytes_are = refl }) stands in
    absurd (omega (arith, ap (λ (bytes : List ℕ). length bytes) none, some))
text_there false [] data_bytes is some =
    let none : data_bytes ≡ [] = cc in
    absurd (omega (arith, ap (λ (bytes : List ℕ). length bytes) none, some))

pub some_there : (bytes some : List ℕ) → Ok some ≡ not_empty bytes → 0 < length bytes
some_there [] some is = cc
some_there (byte ∷ bytes) some is = omega arith

segment_there : (options : DrawingOptions) (segment : SegmentText) (elements : List Element) → segment_elements options segment (Ok elements)
    → 0 < length segment.text
unfolding segment_elements
segment_there options segment elements (bytes, is_data, (some, some_is, rest)) =
    text_there options.escapes segment.text bytes is_data (some_there bytes some some_is)

-- The segments in front of a place are done: with the elements of the others behind theirs, all are, and what refuses one of the others
-- refuses all. There are at most as many segments as bytes in them.
pub record SegmentsDone (options : DrawingOptions) (segments : List SegmentText) (place number : ℕ) (elements : List Element) : Type 0 where
  pub number_is : number ≡ place + 1
  pub few : place ≤ bytes_in_segments (take place segments)
  pub given : (more : List Element) → segments_elements options number (drop place segments) (Ok more)
      → segments_elements options 1 segments (Ok (elements ++ more))
  pub refused : (fault : Fault) → Refuses (segments_elements options number (drop place segments)) fault
      → Refuses (segments_elements options 1 segments) fault

pub none_done : (options : DrawingOptions) (segments : List SegmentText) → SegmentsDone options segments 0 1 []
none_done options segments = record {
  number_is = refl;
  few = omega arith;
  given = λ more is. is;
  refused = λ fault is. is;
}

-- the next segment, and those behind it
behind : (options : DrawingOptions) (segments : List SegmentText) (place number : ℕ) (segment : SegmentText) (rest : List SegmentText) (own more : List Element)
    → drop place segments ≡ segment ∷ rest → in_segment number (segment_elements options segment) (Ok own)
    → segments_elements options (number + 1) rest (Ok more) → segments_elements options number (drop place segments) (Ok (own ++ more))
unfolding segments_elements
behind options segments place number segment rest own more is is_own is_more =
    subst (λ (front : List SegmentText). segments_elements options number front (Ok (own ++ more))) (sym is) (own, is_own, (more, is_more, refl))

-- what is behind the first of segments
abbrev pub RestOf : DrawingOptions → (number : ℕ) → List SegmentText → (first : List Element) → Step (List Element) Refusal
RestOf options number rest first = Then (segments_elements options number rest) (λ more. only (Ok (first ++ more)))

refused_behind : (options : DrawingOptions) (segments : List SegmentText) (place number : ℕ) (segment : SegmentText) (rest : List SegmentText) (own : List Element)
    (fault : Fault) → drop place segments ≡ segment ∷ rest → in_segment number (segment_elements options segment) (Ok own)
    → Refuses (segments_elements options (number + 1) rest) fault → Refuses (segments_elements options number (drop place segments)) fault
unfolding segments_elements
refused_behind options segments place number segment rest own fault is is_own refused =
    subst (λ (front : List SegmentText). Refuses (segments_elements options number front) fault) (sym is)
    (refused_later (in_segment number (segment_elements options segment)) (RestOf options (number + 1) rest) own fault is_own
    (refused_first (segments_elements options (number + 1) rest) (λ more. only (Ok (own ++ more))) fault refused))

refused_here : (options : DrawingOptions) (segments : List SegmentText) (place number : ℕ) (segment : SegmentText) (rest : List SegmentText) (fault : Fault)
    → drop place segments ≡ segment ∷ rest → Refuses (in_segment number (segment_elements options segment)) fault
    → Refuses (segments_elements options number (drop place segments)) fault
unfolding segments_elements
refused_here options segments place number segment rest fault is refused =
    subst (λ (front : List SegmentText). Refuses (segments_elements options number front) fault) (sym is)
    (refused_first (in_segment number (segment_elements options segment)) (RestOf options (number + 1) rest) fault refused)

-- one segment more
pub more_done : (options : DrawingOptions) (segments : List SegmentText) (place number : ℕ) (elements own longer : List Element) (segment : SegmentText)
    → SegmentsDone options segments place number elements → slice_get segments place ≡ Some segment
    → in_segment number (segment_elements options segment) (Ok own) → longer ≡ elements ++ own
    → SegmentsDone options segments (place + 1) (number + 1) longer
more_done options segments place number elements own longer segment done here is_own is =
    let front = drop_here segments place segment here in
    record {
      number_is = omega (arith, done.number_is);
      few = omega (
        arith,
        done.few,
        sum_by_more (λ (s : SegmentText). length s.text) segments place segment (slice_get_within segments place segment here),
        ap (λ (s : SegmentText). length s.text) (get_or_from_slice_get segments place segment segment here),
        segment_there options segment own is_own,
      );
      given = λ more is_more.
          subst (λ (e : List Element). segments_elements options 1 segments (Ok e)) (sym (ap (λ (e : List Element). e ++ more) is ∙ append_assoc elements own more))
          (done.given (own ++ more) (behind options segments place number segment (drop (place + 1) segments) own more front is_own is_more));
      refused = λ fault refused.
          done.refused fault (refused_behind options segments place number segment (drop (place + 1) segments) own fault front is_own refused);
    }

-- a refusal of the next segment
pub refused_next : (options : DrawingOptions) (segments : List SegmentText) (place number : ℕ) (elements : List Element) (segment : SegmentText) (fault : Fault)
    → SegmentsDone options segments place number elements → slice_get segments place ≡ Some segment
    → Refuses (in_segment number (segment_elements options segment)) fault → Refuses (segments_elements options 1 segments) fault
refused_next options segments place number elements segment fault done here refused =
    let front = drop_here segments place segment here in
    done.refused fault (refused_here options segments place number segment (drop (place + 1) segments) fault front refused)

no_more : (options : DrawingOptions) (number : ℕ) → segments_elements options number [] (Ok [])
unfolding segments_elements
no_more options number = refl

-- all segments
pub all_done : (options : DrawingOptions) (segments : List SegmentText) (place number : ℕ) (elements : List Element)
    → SegmentsDone options segments place number elements → drop place segments ≡ [] → segments_elements options 1 segments (Ok elements)
all_done options segments place number elements done over =
    subst (λ (e : List Element). segments_elements options 1 segments (Ok e)) (append-nil elements)
    (done.given [] (subst (λ (front : List SegmentText). segments_elements options number front (Ok [])) (sym over) (no_more options number)))

-- a symbol is one of a set where a place is asked for
pub asked_for_set : (place : Option SetPlace) → is_some (option_map append_in place) ≡ is_some place
asked_for_set None = refl
asked_for_set (Some place) = refl
