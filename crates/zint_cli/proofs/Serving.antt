-- The three ways in which a call ends: with its output, without an answer to its request, and without a request.
use Rattle.std.proofs.Common.{◌≡◌, ◌≢◌, ◌⊎◌, ℕ, List, Ok, Err, IsSome, true, false, refl, sym, ap, subst, ◌∙◌, inl, inr}
use Rattle.std.specs.declared.option.Option.{Option}
use Rattle.std.specs.Prelude.{MatchBool, Some}
use Rattle.std.specs.Io.KnownBytes.{IsAtEnd}
use Rattle.bar_base.specs.Faults.{Rose}
use Rattle.bar_base.specs.Files.{FilesState, SameFiles, left_of}
use Rattle.zint_answers.specs.FaultLine.{status_of}
use Rattle.bar_base.specs.Steps.{Step}
use Rattle.zint_answers.specs.Steps.{Refuses}
use Rattle.zint_answers.specs.declared.fault.Fault.{Fault}
use Rattle.zint_answers.specs.declared.fault.Fault.TheVariants.{NoMemory, Unread, Unwritten, Refused}
use Rattle.zint_answers.proofs.Statuses.{is_outside, refusal_inside}
use Rattle.zint_words.specs.Outcome.{settings}
use Rattle.zint_settings.specs.Settings.{MessageOrigin, OnDemonstration, Request, from_input, from_text}
use Rattle.zint_settings.proofs.Known.{IsFit}
use Rattle.zint_cli.specs.Call.{asked, responds}
use Rattle.zint_cli.specs.Content.{Content, HasEnded, ReadFaulted, is_standard, names_standard}
use Rattle.zint_cli.specs.Effects.{file_in, HoldsText, HoldsTextPart, WriteFaulted, WritesLine}
use Rattle.zint_cli.specs.Ending.{EndsWith, HasCause, OnRequest, Wrote, content}
use Rattle.zint_cli.specs.Headline.{ShowsNearGrid}
use Rattle.zint_cli.specs.Outside.{Call}
use Rattle.zint_cli.specs.Run.{Ran}
use Rattle.zint_cli.specs.inner.Stopped.{IsStopped}
use Rattle.zint_cli.proofs.FileLemmas.{faulted_over, part_other, part_over, same_file, text_other, text_over}
use Rattle.zint_cli.proofs.Promises.{promised}
use Rattle.zint_cli.proofs.Requests.{answers_misuse, answers_request, not_refused, of_request, on_demonstration, on_request}
use Rattle.zint_answers.specs.declared.refusal.Refusal.{Refusal}

-- what was read to its end stays so while the output is written
ended_over : (origin : MessageOrigin) (Ended Mid New : Type 0) → (Mid → New) → HasEnded origin Ended Mid → HasEnded origin Ended New
ended_over (from_text bytes) Ended Mid New later = λ ended. tt
ended_over (from_input name) Ended Mid New later = elim (is_standard name) as (λ b. MatchBool b Ended Mid → MatchBool b Ended New) [ true ↦ λ ended. ended | false ↦ later ]

-- only such an output has it
twelve_unwritten : (fault : Fault) → status_of fault ≡ 12 → fault ≡ Unwritten
twelve_unwritten NoMemory twelve = absurd (cc)
twelve_unwritten Unread twelve = absurd (cc)
twelve_unwritten Unwritten twelve = refl
twelve_unwritten (Refused refusal) twelve = (let e = sym (refusal_inside refusal) ∙ ap is_outside twelve in absurd (cc))

-- what stops a step is no failure to write
stopped_not_unwritten : {A : Type 0} (step : Step A Refusal) (content : Content) (faulted : Type 0) (fault : Fault) → IsStopped step content faulted fault
    → fault ≡ Unwritten → ⊥
stopped_not_unwritten step content faulted fault stopped is = subst (IsStopped step content faulted) is stopped

module _ {I O E : Type 0} (call : Call I O E) where
  -- A call that ends before it writes leaves its output.
  unwritten : (fault : Fault) → EndsWith call fault → call.status ≢ 0 → (fault ≡ Unwritten → ⊥)
      → call.new.out.object ≡ call.old.out.object → SameFiles call.old.files.state call.new.files.state
      → (OnRequest call (λ request. names_standard request.origin ≡ false) → call.new.input.object ≡ call.old.input.object)
      → EndsWith call NoMemory ⊎ OnRequest call (λ request. IsFit request.task) → Ran call
  unwritten fault ends some never out_kept same input_kept fit = promised call (record {
    ends = inr (fault, ends);
    written = λ zero. absurd (some zero);
    quiet = λ zero. absurd (some zero);
    silent = λ not_zero not_twelve. (out_kept, same);
    files_kept = λ name unnamed. same_file name call.old.files.state call.new.files.state same;
    out_kept = λ named. out_kept;
    input_kept = input_kept;
    ended = λ done. absurd (never_done done);
    demonstration = λ zero. absurd (some zero);
    fit = fit;
  })
    where
      never_done : (call.status ≡ 0) ⊎ (call.status ≡ 12) → ⊥
      never_done (inl zero) = some zero
      never_done (inr twelve) = never (twelve_unwritten fault (sym ends.status_is ∙ twelve))

  -- The words ask for nothing, or for nothing that is.
  pub not_asked : (fault : Fault) → Refuses (asked call.outcome) fault → call.status ≡ status_of fault → call.status ≢ 0
      → WritesLine call.old.err.bytes call.new.err.bytes call.old.err.faults call.new.err.faults fault
      → call.new.out.object ≡ call.old.out.object → SameFiles call.old.files.state call.new.files.state
      → call.new.input.object ≡ call.old.input.object → Ran call
  not_asked NoMemory refused status_is some line out_kept same input_kept =
      let ends : EndsWith call NoMemory = record { cause = tt; status_is = status_is; line = line } in
      unwritten NoMemory ends some (λ is. cc) out_kept same (λ unnamed. input_kept) (inl ends)
  not_asked Unread refused status_is some line out_kept same input_kept = absurd refused
  not_asked Unwritten refused status_is some line out_kept same input_kept = absurd refused
  not_asked (Refused refusal) refused status_is some line out_kept same input_kept =
      unwritten (Refused refusal) (record { cause = answers_misuse call refusal refused; status_is = status_is; line = line }) some (λ is. cc)
      out_kept same (λ unnamed. input_kept) (inr (λ request is. absurd (not_refused call.outcome request refusal is refused)))

  -- Why a request has no answer is why the call ended.
  cause_stopped : (request : Request) → call.outcome ≡ settings request → (fault : Fault)
      → IsStopped (responds request.task (content call request)) (content call request)
      (ReadFaulted request.origin (Rose call.old.input.faults call.new.input.faults) (Rose call.old.files.reading_faults call.new.files.reading_faults)) fault
      → HasCause call fault
  cause_stopped request is NoMemory stopped = tt
  cause_stopped request is Unread stopped = (request, is, stopped)
  cause_stopped request is Unwritten stopped = absurd stopped
  cause_stopped request is (Refused refusal) stopped = answers_request call request is (Err refusal) stopped

  pub not_answered : (request : Request) → call.outcome ≡ settings request → IsFit request.task → (fault : Fault)
      → IsStopped (responds request.task (content call request)) (content call request)
      (ReadFaulted request.origin (Rose call.old.input.faults call.new.input.faults) (Rose call.old.files.reading_faults call.new.files.reading_faults)) fault
      → call.status ≡ status_of fault → call.status ≢ 0
      → WritesLine call.old.err.bytes call.new.err.bytes call.old.err.faults call.new.err.faults fault
      → call.new.out.object ≡ call.old.out.object → SameFiles call.old.files.state call.new.files.state
      → (names_standard request.origin ≡ false → call.new.input.object ≡ call.old.input.object) → Ran call
  not_answered request is fit fault stopped status_is some line out_kept same input_kept =
      unwritten fault (record { cause = cause_stopped request is fault stopped; status_is = status_is; line = line }) some
      (stopped_not_unwritten (responds request.task (content call request)) (content call request) _ fault stopped) out_kept same (λ unnamed. input_kept (unnamed request is))
      (inr (on_request call (λ r. IsFit r.task) request is fit))

  -- The output was written, or not whole. `mid` is what the files hold between reading and writing.
  pub answered : (request : Request) → call.outcome ≡ settings request → IsFit request.task → (text : List ℕ) (mid : Option FilesState) (mid_faults : ℕ)
      → responds request.task (content call request) (Ok text) → OnDemonstration request.task (λ number. ShowsNearGrid number text)
      → HasEnded request.origin (IsAtEnd call.new.input.bytes) (IsAtEnd (left_of mid)) → SameFiles call.old.files.state mid
      → mid_faults ≡ call.old.files.writing_faults
      → (names_standard request.origin ≡ false → call.new.input.object ≡ call.old.input.object)
      → (call.status ≡ 0) ⊎ (call.status ≡ 12)
      → (call.status ≡ 0 → HoldsText request.output text call.old.out.bytes call.new.out.bytes mid call.new.files.state)
      → (call.status ≡ 12 → HoldsTextPart request.output text call.old.out.bytes call.new.out.bytes mid call.new.files.state)
      → (call.status ≡ 12 → WriteFaulted request.output (Rose call.old.out.faults call.new.out.faults) (Rose mid_faults call.new.files.writing_faults))
      → (IsSome request.output → call.new.out.object ≡ call.old.out.object)
      → (IsAtEnd (left_of mid) → IsAtEnd (left_of call.new.files.state))
      → (call.status ≡ 0 → call.new.err.object ≡ call.old.err.object)
      → (call.status ≡ 12 → WritesLine call.old.err.bytes call.new.err.bytes call.old.err.faults call.new.err.faults Unwritten) → Ran call
  answered request is fit text mid mid_faults responds near read_end same counted input_kept status written part faulted out_kept later quiet line =
      promised call (record {
        ends = by_status status;
        written = λ zero. (text, answers_request call request is (Ok text) responds, wrote zero);
        quiet = quiet;
        silent = λ not_zero not_twelve. absurd (never status not_zero not_twelve);
        files_kept = λ name unnamed. others name (λ named. unnamed (request, is, named)) status;
        out_kept = λ named. out_kept (of_request call (λ r. IsSome r.output) request is named);
        input_kept = λ unnamed. input_kept (unnamed request is);
        ended = λ done. (request, is, ended_over request.origin _ _ _ later read_end);
        demonstration = λ zero. on_request call _ request is (on_demonstration request.task _ _ (λ number near. (text, near, wrote zero)) near);
        fit = inr (on_request call (λ r. IsFit r.task) request is fit);
      })
    where
      wrote : call.status ≡ 0 → Wrote call text
      wrote zero = (request, is, text_over request.output text _ _ call.old.files.state mid call.new.files.state same (written zero))

      prefix : call.status ≡ 12 → HoldsTextPart request.output text call.old.out.bytes call.new.out.bytes call.old.files.state call.new.files.state
      prefix twelve = part_over request.output text _ _ call.old.files.state mid call.new.files.state same (part twelve)

      others : (name : List ℕ) → (request.output ≡ Some name → ⊥) → (call.status ≡ 0) ⊎ (call.status ≡ 12)
          → file_in name call.new.files.state ≡ file_in name call.old.files.state
      others name other (inl zero) =
          text_other name request.output text call.old.out.bytes call.new.out.bytes call.old.files.state call.new.files.state other (wrote zero).2
      others name other (inr twelve) =
          part_other name request.output text call.old.out.bytes call.new.out.bytes call.old.files.state call.new.files.state other (prefix twelve)

      never : (call.status ≡ 0) ⊎ (call.status ≡ 12) → call.status ≢ 0 → call.status ≢ 12 → ⊥
      never (inl zero) not_zero not_twelve = not_zero zero
      never (inr twelve) not_zero not_twelve = not_twelve twelve

      by_status : (call.status ≡ 0) ⊎ (call.status ≡ 12) → (call.status ≡ 0) ⊎ ((fault : Fault) × EndsWith call fault)
      by_status (inl zero) = inl zero
      by_status (inr twelve) = inr (
        Unwritten,
        record {
          cause = record {
            request = request;
            asked = is;
            text = text;
            answers = answers_request call request is (Ok text) responds;
            part = prefix twelve;
            faulted = faulted_over request.output _ call.old.files.writing_faults mid_faults call.new.files.writing_faults counted (faulted twelve);
          };
          status_is = twelve;
          line = line twelve;
        },
      )
