-- A content has one answer: its data and their message, or their first fault.
use Rattle.std.proofs.Common.{◌≡◌, ℕ, ◌+◌, inl, inr, Bool, List, [], ◌∷◌, sym, ap, ◌∙◌}
use Rattle.std.specs.Prelude.{Ok, Err, Option}
use Rattle.eci_sets.specs.declared.fault.SetFault.TheVariants.{NoCharacter}
use Rattle.gs1_check.specs.ElementStrings.{brackets_of, text_body}
use Rattle.input_escapes.specs.Escapes.{Head, out_of_range, short, unknown}
use Rattle.input_escapes.specs.Texts.{StandsFor, Stops}
use Rattle.input_escapes.proofs.Uniqueness.{IsNoPiece, only_bytes, stands_for_none, stops_once}
use Rattle.bar_base.specs.Steps.{Step, only}
use Rattle.zint_answers.specs.declared.detail.Kind.TheVariants.{Character, Escape}
use Rattle.zint_answers.specs.declared.refusal.Refusal.{Refusal}
use Rattle.zint_answers.specs.declared.refusal.Refusal.TheVariants.{BadData}
use Rattle.zint_settings.specs.Settings.{DrawingRequest, SegmentText}
use Rattle.zint_settings.specs.declared.drawing_options.DrawingOptions.{DrawingOptions}
use Rattle.zint_draw.specs.Data.{IsBadEscape, data_of, not_empty, unescaped}
use Rattle.zint_draw.specs.Message.{data_kind, encoded_in, gs1_fault, gs1_message, latin1_message, message_for, set_for, text_message, whole_text}
use Rattle.zint_draw.specs.Segments.{in_segment, message_of, segment_elements, segment_kind, segments_elements, told_of}
use Rattle.zint_draw.specs.declared.message.DataKind.{DataKind}
use Rattle.zint_draw.specs.declared.message.DataKind.TheVariants as kind
use Rattle.bar_base.proofs.OneStep.{IsOne, either_one, error_of, only_one, then_one, value_of}
use Rattle.zint_answers.proofs.OneStep.{answered_one}

-- A backslash stops a text, with a head that begins no piece.
record IsStopped (text : List ℕ) (place : ℕ) : Type 0 where
  here : Head
  stops : Stops text place here
  none : IsNoPiece here

no_unknown : IsNoPiece unknown
no_unknown n b e = cc

no_short : IsNoPiece short
no_short n b e = cc

no_range : IsNoPiece out_of_range
no_range n b e = cc

stopped : (text : List ℕ) (place : ℕ) → IsBadEscape text place → IsStopped text place
stopped text place (inl is) = record { here = unknown; stops = is; none = no_unknown }
stopped text place (inr (inl is)) = record { here = short; stops = is; none = no_short }
stopped text place (inr (inr is)) = record { here = out_of_range; stops = is; none = no_range }

not_stopped : (text bytes : List ℕ) (place : ℕ) → StandsFor text bytes → IsBadEscape text place → ⊥
not_stopped text bytes place is bad = let s = stopped text place bad in stands_for_none text bytes place s.here is s.stops s.none

-- A text with escapes stands for one list of bytes, or has one first bad escape.
unescaped_one : (text : List ℕ) → IsOne (unescaped text)
unescaped_one text (Ok a) (Ok b) p q = ap (λ (v : List ℕ). Ok v) (only_bytes text a b p q)
unescaped_one text (Ok a) (Err s) p (place, bad, is) = absurd (not_stopped text a place p bad)
unescaped_one text (Err r) (Ok b) (place, bad, is) q = absurd (not_stopped text b place q bad)
unescaped_one text (Err r) (Err s) (place, bad, is) (place', bad', is') =
    let x = stopped text place bad in
    let y = stopped text place' bad' in
    let same : place ≡ place' = (stops_once text place place' x.here y.here x.stops y.stops x.none y.none).0 in
    ap (λ (e : Refusal). Err e) (is ∙ ap (λ (n : ℕ). BadData Escape n) same ∙ sym is')

pub data_one : (escapes : Bool) (raw : List ℕ) → IsOne (data_of escapes raw)
unfolding data_of
data_one escapes raw = either_one escapes (unescaped raw) (only (Ok raw)) (unescaped_one raw) (only_one (Ok raw))

no_character : (a b : ℕ) → NoCharacter a ≡ NoCharacter b → a ≡ b
no_character a b e = cc

encoded_one : (eci : ℕ) (text : List ℕ) → IsOne (encoded_in eci text)
encoded_one eci text (Ok a) (Ok b) p q = ap (λ (v : List ℕ). Ok v) (ap (value_of a) (sym p ∙ q))
encoded_one eci text (Ok a) (Err s) p (place, gives, is) = let e = sym p ∙ gives in cc
encoded_one eci text (Err r) (Ok b) (place, gives, is) q = let e = sym q ∙ gives in cc
encoded_one eci text (Err r) (Err s) (place, gives, is) (place', gives', is') =
    let same : place ≡ place' = no_character place place' (ap (error_of (NoCharacter place)) (sym gives ∙ gives')) in
    ap (λ (e : Refusal). Err e) (is ∙ ap (λ (n : ℕ). BadData Character n) same ∙ sym is')

gs1_one : (parens : Bool) (bytes : List ℕ) → IsOne (gs1_message parens bytes)
unfolding gs1_message
gs1_one parens bytes = then_one _ _ (answered_one gs1_fault (text_body (brackets_of parens) bytes)) (λ body. only_one _)

text_one : (eci : Option ℕ) (bytes : List ℕ) → IsOne (text_message eci bytes)
unfolding text_message
text_one eci bytes = then_one _ _ (only_one (whole_text bytes)) (λ text. then_one _ _ (encoded_one (set_for eci text) text) (λ encoded. only_one _))

latin1_one : (bytes : List ℕ) → IsOne (latin1_message bytes)
unfolding latin1_message
latin1_one bytes = then_one _ _ (only_one (whole_text bytes)) (λ text. then_one _ _ (encoded_one 3 text) (λ encoded. only_one _))

-- Data has one message, or one refusal.
pub message_one : (is : DataKind) (bytes : List ℕ) → IsOne (message_for is bytes)
unfolding message_for
message_one (kind.Gs1 parens) bytes = gs1_one parens bytes
message_one (kind.Bytes eci) bytes = only_one _
message_one (kind.Text eci) bytes = text_one eci bytes
message_one kind.Latin1 bytes = latin1_one bytes

in_segment_one : {A : Type 0} (number : ℕ) (step : Step A Refusal) → IsOne step → IsOne (in_segment number step)
in_segment_one number step once (Ok a) (Ok b) p q = once (Ok a) (Ok b) p q
in_segment_one number step once (Ok a) (Err s) p (own, is_own, is) = let e = once (Ok a) (Err own) p is_own in cc
in_segment_one number step once (Err r) (Ok b) (own, is_own, is) q = let e = once (Err own) (Ok b) is_own q in cc
in_segment_one number step once (Err r) (Err s) (own, is_own, is) (own', is_own', is') =
    let same : own ≡ own' = ap (error_of own) (once (Err own) (Err own') is_own is_own') in
    ap (λ (e : Refusal). Err e) (is ∙ ap (told_of number) same ∙ sym is')

segment_one : (options : DrawingOptions) (segment : SegmentText) → IsOne (segment_elements options segment)
unfolding segment_elements
segment_one options segment =
    then_one _ _ (data_one options.escapes segment.text)
    (λ bytes. then_one _ _ (only_one (not_empty bytes))
    (λ some. then_one _ _ (message_one (segment_kind options.binary segment.eci) some) (λ message. only_one _)))

segments_one : (options : DrawingOptions) (number : ℕ) (segments : List SegmentText) → IsOne (segments_elements options number segments)
unfolding segments_elements
segments_one options number [] = only_one _
segments_one options number (segment ∷ segments) =
    then_one _ _ (in_segment_one number (segment_elements options segment) (segment_one options segment))
    (λ first. then_one _ _ (segments_one options (number + 1) segments) (λ more. only_one _))

-- Data and the segments behind it have one message, or one refusal.
pub whole_message_one : (request : DrawingRequest) (bytes : List ℕ) → IsOne (message_of request bytes)
unfolding message_of
whole_message_one request bytes =
    then_one _ _ (message_one (data_kind request.options) bytes)
    (λ plain. then_one _ _ (segments_one request.options 1 request.segments) (λ more. only_one _))
