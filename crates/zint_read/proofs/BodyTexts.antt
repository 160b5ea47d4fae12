-- The body of a message as a line, element by element, and its text.
use Rattle.std.proofs.Common.{◌≡◌, ℕ, ◌+◌, ◌<◌, List, [], ◌∷◌, ◌++◌, take, length, get_or, refl, ap, sym, ◌∙◌, append_assoc, Option, Some, None, Result, Ok, Err, IfOk}
use Rattle.std.specs.Prelude.{MatchOption, option_map}
use Rattle.std.specs.List.{flat_map}
use Rattle.std.proofs.lemmas.Grind.{flat_map-append}
use Rattle.std.proofs.lemmas.List.{append-nil}
use Rattle.std.proofs.lemmas.Option.{slice_get-get_or}
use Rattle.bar_base.specs.declared.element.Element.{Element}
use Rattle.bar_base.specs.declared.element.Element.TheVariants as element
use Rattle.bar_base.proofs.ListLemmas.{take_next}
use Rattle.bar_base.specs.declared.message.Message.{Message}
use Rattle.input_escapes.specs.Escapes.{escaped}
use Rattle.zint_read.specs.ReadReport.{IsDecoded, IsMessageText, body_text, element_text, escaped_bytes}

-- no element yet, and no byte that waits
pub body_begins : (report : List ℕ) → report ++ escaped_bytes [] ≡ report ++ body_text []
unfolding body_text
body_begins report = refl

-- one element more
pub body_next : (report : List ℕ) (body : List Element) (i : ℕ) (d : Element) → i < length body
    → (report ++ body_text (take i body)) ++ element_text (get_or body i d) ≡ report ++ body_text (take (i + 1) body)
unfolding body_text
body_next report body i d inside =
    append_assoc report (flat_map element_text (take i body)) (element_text (get_or body i d))
    ∙ ap (λ (rest : List ℕ). report ++ rest)
    (sym (ap (flat_map element_text) (take_next body i (get_or body i d) (slice_get-get_or body i d inside))
    ∙ flat_map-append element_text (take i body) (get_or body i d ∷ [])
    ∙ ap (λ (rest : List ℕ). flat_map element_text (take i body) ++ rest) (append-nil (element_text (get_or body i d)))))

-- a byte waits with those before it
pub byte_waits : (report bytes : List ℕ) (byte : ℕ)
    → report ++ escaped_bytes (bytes ++ byte ∷ []) ≡ (report ++ escaped_bytes bytes) ++ element_text (element.Byte byte)
unfolding element_text
byte_waits report bytes byte =
    ap (λ (rest : List ℕ). report ++ rest)
    (flat_map-append escaped bytes (byte ∷ []) ∙ ap (λ (rest : List ℕ). escaped_bytes bytes ++ rest) (append-nil (escaped byte)))
    ∙ sym (append_assoc report (escaped_bytes bytes) (escaped byte))

-- What a result holds, seen otherwise.
joined_so : {X : Type 0} (view : X → List ℕ) (message : Message) (shown : Option X)
    → MatchOption shown ((text : List ℕ) → IsMessageText message text → ⊥) (λ text. IsMessageText message (view text))
    → IsDecoded message (option_map view shown)
joined_so view message None none = none
joined_so view message (Some text) is = is

pub joined : {X E : Type 0} (view : X → List ℕ) (message : Message) (result : Result (Option X) E)
    → IfOk result (λ shown. MatchOption shown ((text : List ℕ) → IsMessageText message text → ⊥) (λ text. IsMessageText message (view text)))
    → IfOk result (λ shown. IsDecoded message (option_map view shown))
joined view message (Ok shown) is = joined_so view message shown is
joined view message (Err fault) is = is
