-- What the words of a call ask for, and the answers to it.
use Rattle.std.proofs.Common.{◌≡◌, ◌⊎◌, ℕ, List, Result, Ok, Err, refl, sym, subst, ◌∙◌, inl, inr, codes, string_bytes}
use Rattle.std.specs.Io.KnownBytes.{Appends}
use Rattle.bar_base.specs.Faults.{Rose}
use Rattle.bar_base.specs.Outside.{AppendsPrefix}
use Rattle.zint_answers.specs.FaultLine.{fault_text}
use Rattle.zint_answers.specs.Refusals.{refusal_detail, refusal_status}
use Rattle.zint_answers.specs.declared.fault.Fault.TheVariants.{Refused}
use Rattle.zint_answers.specs.declared.refusal.Refusal.{Refusal}
use Rattle.zint_answers.specs.declared.refusal.Refusal.TheVariants.{Usage, BadOption}
use Rattle.zint_words.specs.Outcome.{Outcome, usage, bad_option, settings}
use Rattle.zint_settings.specs.Settings.{DrawingRequest, OnDemonstration, OnDrawing, OnReading, Request, Task, demonstration, drawing, reading}
use Rattle.zint_settings.specs.declared.look.Look.{Look}
use Rattle.zint_cli.specs.Call.{asked, called, responds}
use Rattle.zint_cli.specs.Ending.{Answers, EndsWith, ForRequest, OnRequest, content}
use Rattle.zint_cli.specs.Outside.{Call}

-- a fact of each drawing that is asked for
pub on_drawing : (task : Task) (Holds : DrawingRequest → Type 0) → ((request : DrawingRequest) → task ≡ drawing request → Holds request) → OnDrawing task Holds
on_drawing (drawing request) Holds each = each request refl
on_drawing (reading look) Holds each = tt
on_drawing (demonstration number) Holds each = tt

pub on_reading : (task : Task) (Holds : Look → Type 0) → ((look : Look) → task ≡ reading look → Holds look) → OnReading task Holds
on_reading (drawing request) Holds each = tt
on_reading (reading look) Holds each = each look refl
on_reading (demonstration number) Holds each = tt

pub on_demonstration : (task : Task) (Holds Other : ℕ → Type 0) → ((number : ℕ) → Holds number → Other number) → OnDemonstration task Holds → OnDemonstration task Other
on_demonstration (drawing request) Holds Other each holds = tt
on_demonstration (reading look) Holds Other each holds = tt
on_demonstration (demonstration number) Holds Other each holds = each number holds

-- the status of a refusal, and what it is about
abbrev SaysSo : Refusal → (status : ℕ) → (detail : List ℕ) → Type 0
SaysSo refusal status detail = (refusal_status refusal ≡ status) × (refusal_detail refusal ≡ detail)

-- a refusal of words is that they ask for nothing, or that they break a rule
abbrev IsMisuse : Outcome → Refusal → Type 0
IsMisuse outcome refusal =
    ((outcome ≡ usage) × SaysSo refusal 1 (codes "usage")) ⊎ ((text : List ℕ) × (outcome ≡ bad_option text) × SaysSo refusal 8 text)

misuse : (outcome : Outcome) (refusal : Refusal) → asked outcome (Err refusal) → IsMisuse outcome refusal
misuse outcome Usage is = inl (is, (refl, refl))
misuse outcome (BadOption text) is = inr (string_bytes text, is, (refl, refl))
misuse outcome _ is = absurd is

-- words that make a request are not refused
pub not_refused : (outcome : Outcome) (request : Request) (refusal : Refusal) → outcome ≡ settings request → asked outcome (Err refusal) → ⊥
not_refused outcome request refusal is refused = by_misuse (misuse outcome refusal refused)
  where
    by_misuse : IsMisuse outcome refusal → ⊥
    by_misuse (inl (none, line)) = let e = sym is ∙ none in cc
    by_misuse (inr (text, broken, line)) = let e = sym is ∙ broken in cc

-- two refusals of the same words say the same
pub one_misuse : (outcome : Outcome) (one other : Refusal) → asked outcome (Err one) → asked outcome (Err other)
    → (refusal_status one ≡ refusal_status other) × (refusal_detail one ≡ refusal_detail other)
one_misuse outcome one other p q = by_misuse (misuse outcome one p) (misuse outcome other q)
  where
    by_misuse : IsMisuse outcome one → IsMisuse outcome other → (refusal_status one ≡ refusal_status other) × (refusal_detail one ≡ refusal_detail other)
    by_misuse (inl (none, says)) (inl (none', says')) = (says.0 ∙ sym says'.0, says.1 ∙ sym says'.1)
    by_misuse (inl (none, says)) (inr (text, broken, says')) = let e = sym none ∙ broken in absurd (cc)
    by_misuse (inr (text, broken, says)) (inl (none, says')) = let e = sym none ∙ broken in absurd (cc)
    by_misuse (inr (text, broken, says)) (inr (text', broken', says')) =
        let e = sym broken ∙ broken' in
        let same : text ≡ text' = cc in
        (says.0 ∙ sym says'.0, says.1 ∙ same ∙ sym says'.1)

module _ {I O E : Type 0} (call : Call I O E) where
  -- the request that the words make is one
  pub of_request : (Holds : Request → Type 0) (request : Request) → call.outcome ≡ settings request → ForRequest call Holds → Holds request
  of_request Holds request is (other, other_is, holds) =
      let e = sym other_is ∙ is in
      let same : other ≡ request = cc in
      subst Holds same holds

  pub on_request : (Holds : Request → Type 0) (request : Request) → call.outcome ≡ settings request → Holds request → OnRequest call Holds
  on_request Holds request is holds = λ other other_is.
      let e = sym is ∙ other_is in
      let same : request ≡ other = cc in
      subst Holds same holds

  -- an answer to the call is one to its request,
  pub responded : (request : Request) → call.outcome ≡ settings request → (answer : Result (List ℕ) Refusal) → Answers call answer
      → responds request.task (content call request) answer
  unfolding called
  responded request is (Ok text) answers = of_request (λ r. responds r.task (content call r) (Ok text)) request is answers
  responded request is (Err refusal) (inl refused) = absurd (not_refused call.outcome request refusal is refused)
  responded request is (Err refusal) (inr answers) = of_request (λ r. responds r.task (content call r) (Err refusal)) request is answers

  -- and the other way round
  pub answers_request : (request : Request) → call.outcome ≡ settings request → (answer : Result (List ℕ) Refusal)
      → responds request.task (content call request) answer → Answers call answer
  unfolding called
  answers_request request is (Ok text) answer = (request, is, answer)
  answers_request request is (Err refusal) answer = inr (request, is, answer)

  pub answers_misuse : (refusal : Refusal) → asked call.outcome (Err refusal) → Answers call (Err refusal)
  unfolding called
  answers_misuse refusal refused = inl refused

  -- where a text answers the call, its words are not refused
  pub not_misused : (text : List ℕ) (refusal : Refusal) → Answers call (Ok text) → asked call.outcome (Err refusal) → ⊥
  unfolding called
  not_misused text refusal (request, is, answer) refused = not_refused call.outcome request refusal is refused

  -- an end with a refusal of the words is one with any refusal of them
  pub ends_misused : (one other : Refusal) → asked call.outcome (Err other) → EndsWith call (Refused one) → EndsWith call (Refused other)
  unfolding called
  ends_misused one other refused ends = by_cause ends.cause
    where
      WritesText : List ℕ → Type 0
      WritesText line = Appends call.old.err.bytes call.new.err.bytes line
          ⊎ (Rose call.old.err.faults call.new.err.faults × AppendsPrefix call.old.err.bytes call.new.err.bytes line)

      by_cause : Answers call (Err one) → EndsWith call (Refused other)
      by_cause (inl refused') = record {
        cause = inl refused;
        status_is = ends.status_is ∙ (one_misuse call.outcome one other refused' refused).0;
        line = subst (λ (detail : List ℕ). WritesText (fault_text (refusal_status other) detail)) (one_misuse call.outcome one other refused' refused).1
            (subst (λ (status : ℕ). WritesText (fault_text status (refusal_detail one))) (one_misuse call.outcome one other refused' refused).0 ends.line);
      }
      by_cause (inr (request, is, answer)) = absurd (not_refused call.outcome request other is refused)
