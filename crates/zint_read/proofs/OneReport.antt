-- A reading has one report.
use Rattle.std.proofs.Common.{◌≡◌, Bool, true, false, ℕ, List, ◌++◌, Some, refl, sym, ap, ◌∙◌}
use Rattle.std.specs.Prelude.{Option, None, MatchBool, MatchOption}
use Rattle.bar_base.specs.declared.message.Message.{Message}
use Rattle.eci_sets.proofs.Walking.{only_text}
use Rattle.gs1_check.specs.LeadingStrings.{HasNoText, IsOnlyText}
use Rattle.symbol_reader.specs.declared.reading.LostReading.{LostReading}
use Rattle.zint_read.specs.ReadReport.{IsDecoded, IsGs1Text, IsMessageText, IsReportOf, IsToldBehind, gs1_line, message_lines, symbol_lines, text_line}

-- What may stand behind a name, or that nothing may, is one.
pub option_once : (Nothing : Type 0) (Is : List ℕ → Type 0) → ((t : List ℕ) → Nothing → Is t → ⊥) → ((t u : List ℕ) → Is t → Is u → t ≡ u)
    → (a b : Option (List ℕ)) → MatchOption a Nothing Is → MatchOption b Nothing Is → a ≡ b
option_once Nothing Is apart same None None p q = refl
option_once Nothing Is apart same None (Some u) p q = absurd (apart u p q)
option_once Nothing Is apart same (Some t) None p q = absurd (apart t q p)
option_once Nothing Is apart same (Some t) (Some u) p q = ap (λ (x : List ℕ). Some x) (same t u p q)

gs1_once : (message : Message) (a b : Option (List ℕ)) → IsGs1Text message a → IsGs1Text message b → a ≡ b
gs1_once message a b = elim (message.gs1) as (λ (g : Bool).
    MatchBool g (MatchOption a (HasNoText message.body) (λ text. IsOnlyText text message.body)) (a ≡ None)
    → MatchBool g (MatchOption b (HasNoText message.body) (λ text. IsOnlyText text message.body)) (b ≡ None) → a ≡ b) [
      | true ↦ option_once (HasNoText message.body) (λ text. IsOnlyText text message.body) (λ t none is. none t is.0) (λ t u p q. q.1 t p.0) a b
      | false ↦ λ p q. p ∙ sym q
    ]

decoded_once : (message : Message) (a b : Option (List ℕ)) → IsDecoded message a → IsDecoded message b → a ≡ b
decoded_once message =
    option_once ((text : List ℕ) → IsMessageText message text → ⊥) (IsMessageText message) (λ t none is. none t is)
    (λ t u p q. only_text message.eci message.body u t q p)

-- The lines of a message behind others are one report.
told_once : (front : List ℕ) (message : Message) (a b : List ℕ) → IsToldBehind front message a → IsToldBehind front message b → a ≡ b
told_once front message a b p q =
    p.lines
    ∙ ap (λ (g : Option (List ℕ)). ((front ++ message_lines message) ++ gs1_line g) ++ text_line p.text) (gs1_once message p.gs1 q.gs1 p.shown q.shown)
    ∙ ap (λ (t : Option (List ℕ)). ((front ++ message_lines message) ++ gs1_line q.gs1) ++ text_line t)
    (decoded_once message p.text q.text p.decoded q.decoded)
    ∙ sym q.lines

-- A reading has one report.
pub report_once : (tells_lost : Bool) (read : LostReading) (a b : List ℕ) → IsReportOf tells_lost read a → IsReportOf tells_lost read b → a ≡ b
report_once tells_lost read = told_once (symbol_lines tells_lost read) read.reading.message
