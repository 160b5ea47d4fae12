-- How a call ended and what it left gives all that is promised of it.
use Rattle.std.proofs.Common.{◌≡◌, ◌≢◌, ◌⊎◌, ℕ, List, Some, Result, Ok, Err, IsSome, false, sym, subst, ◌∙◌, inl, inr, arith}
use Rattle.std.specs.Io.KnownBytes.{IsAtEnd}
use Rattle.bar_base.specs.Files.{SameFiles, left_of}
use Rattle.bar_base.specs.Steps.{never_refused}
use Rattle.zint_answers.specs.declared.fault.Fault.{Fault}
use Rattle.zint_answers.specs.declared.fault.Fault.TheVariants.{NoMemory, Unread, Unwritten, Refused}
use Rattle.zint_answers.specs.declared.refusal.Refusal.{Refusal}
use Rattle.zint_words.specs.Outcome.{settings}
use Rattle.zint_settings.specs.Settings.{Request, reading}
use Rattle.zint_settings.proofs.Known.{IsFit}
use Rattle.zint_settings.specs.Looks.{IsLook}
use Rattle.zint_settings.specs.declared.look.Look.{Look}
use Rattle.zint_read.specs.readers.{Drawn, IsWithinLimit, IsWritten, ShowsNear, Tells, TellsWhole, reads}
use Rattle.zint_read.proofs.ReaderLaws.{AreTold, near_told, whole_told}
use Rattle.zint_cli.specs.Call.{asked, responds}
use Rattle.zint_cli.specs.Effects.{file_in}
use Rattle.zint_cli.specs.Content.{Content, HasEnded, known, names_standard}
use Rattle.zint_cli.specs.Ending.{Answers, EndsWith, Fails, FailsEarly, ForRequest, IsKnown, OnRequest, Wrote, content}
use Rattle.zint_cli.specs.Headline.{Demonstrates, HasSmallestSize, IsShortest, Reads, ShowsMessage}
use Rattle.zint_cli.specs.Outside.{Call}
use Rattle.zint_cli.specs.Run.{Ran}
use Rattle.zint_cli.proofs.Drawings.{draws_aztec, draws_fewest, each_message, each_shortest, each_smallest}
use Rattle.zint_cli.proofs.OneAnswer.{called_once}
use Rattle.zint_cli.proofs.Rows.{draws_rows}
use Rattle.zint_cli.proofs.Requests.{ends_misused, not_misused, not_refused, on_reading, responded}

-- How a call ended and what it left; and that its request is within the rules on values, unless memory was wanting.
pub record Left {I O E : Type 0} (call : Call I O E) : Type 0 where
  pub ends : (call.status ≡ 0) ⊎ ((fault : Fault) × EndsWith call fault)
  pub written : call.status ≡ 0 → (text : List ℕ) × Answers call (Ok text) × Wrote call text
  pub quiet : call.status ≡ 0 → call.new.err.object ≡ call.old.err.object
  pub silent : call.status ≢ 0 → call.status ≢ 12
      → (call.new.out.object ≡ call.old.out.object) × SameFiles call.old.files.state call.new.files.state
  pub files_kept : (name : List ℕ) → (ForRequest call (λ request. request.output ≡ Some name) → ⊥)
      → file_in name call.new.files.state ≡ file_in name call.old.files.state
  pub out_kept : ForRequest call (λ request. IsSome request.output) → call.new.out.object ≡ call.old.out.object
  pub input_kept : OnRequest call (λ request. names_standard request.origin ≡ false) → call.new.input.object ≡ call.old.input.object
  pub ended : (call.status ≡ 0) ⊎ (call.status ≡ 12)
      → ForRequest call (λ request. HasEnded request.origin (IsAtEnd call.new.input.bytes) (IsAtEnd (left_of call.new.files.state)))
  pub demonstration : Demonstrates call
  pub fit : EndsWith call NoMemory ⊎ OnRequest call (λ request. IsFit request.task)

-- every answer of a reading of known bytes says what every reading of them says
answer_told : (look : Look) (bytes : List ℕ) (Told : List ℕ → Type 0) → IsWithinLimit look bytes → AreTold look bytes Told
    → (answer : Result (List ℕ) Refusal) → responds (reading look) (known bytes) answer → never_refused Told answer
unfolding responds
answer_told look bytes Told within told (Ok text) (raw, (is, short), read) =
    told (Ok text) (subst (λ (b : List ℕ). reads look b (Ok text)) is read)
answer_told look bytes Told within told (Err refusal) (inl (longer, same)) = absurd (omega (arith, longer, within))
answer_told look bytes Told within told (Err refusal) (inr (raw, (is, short), read)) =
    told (Err refusal) (subst (λ (b : List ℕ). reads look b (Err refusal)) is read)

module _ {I O E : Type 0} (call : Call I O E) (left : Left call) where
  fit_at_zero : call.status ≡ 0 → OnRequest call (λ request. IsFit request.task)
  fit_at_zero zero = by_fit left.fit
    where
      by_fit : EndsWith call NoMemory ⊎ OnRequest call (λ request. IsFit request.task) → OnRequest call (λ request. IsFit request.task)
      by_fit (inl ends) = let e = sym zero ∙ ends.status_is in absurd (cc)
      by_fit (inr fit) = fit

  misused : (refusal : Refusal) → asked call.outcome (Err refusal) → EndsWith call (Refused refusal) ⊎ EndsWith call NoMemory
  misused refusal refused = by_end left.ends
    where
      by_end : (call.status ≡ 0) ⊎ ((fault : Fault) × EndsWith call fault) → EndsWith call (Refused refusal) ⊎ EndsWith call NoMemory
      by_end (inl zero) = let (text, answer, wrote) = left.written zero in absurd (not_misused call text refusal answer refused)
      by_end (inr (NoMemory, ends)) = inr ends
      by_end (inr (Unread, ends)) = let (request, is, why) = ends.cause in absurd (not_refused call.outcome request refusal is refused)
      by_end (inr (Unwritten, ends)) = absurd (not_refused call.outcome ends.cause.request refusal ends.cause.asked refused)
      by_end (inr (Refused other, ends)) = inl (ends_misused call other refusal refused ends)

  answered : IsKnown call → (text : List ℕ) → Answers call (Ok text) → ((call.status ≡ 0) × Wrote call text) ⊎ Fails call
  answered is_known text answer = by_end left.ends
    where
      by_end : (call.status ≡ 0) ⊎ ((fault : Fault) × EndsWith call fault) → ((call.status ≡ 0) × Wrote call text) ⊎ Fails call
      by_end (inl zero) =
          let (other, is, wrote) = left.written zero in
          let e = called_once call is_known (Ok other) (Ok text) is answer in
          let same : other ≡ text = cc in
          inl (zero, subst (Wrote call) same wrote)
      by_end (inr (NoMemory, ends)) = inr (inl (inl ends))
      by_end (inr (Unread, ends)) = inr (inl (inr ends))
      by_end (inr (Unwritten, ends)) = inr (inr ends)
      by_end (inr (Refused refusal, ends)) = let e = called_once call is_known (Ok text) (Err refusal) answer ends.cause in absurd (cc)

  refused : IsKnown call → (refusal : Refusal) → Answers call (Err refusal) → EndsWith call (Refused refusal) ⊎ FailsEarly call
  refused is_known refusal answer = by_end left.ends
    where
      no_text : (text : List ℕ) → Answers call (Ok text) → ⊥
      no_text text is = let e = called_once call is_known (Ok text) (Err refusal) is answer in cc

      by_end : (call.status ≡ 0) ⊎ ((fault : Fault) × EndsWith call fault) → EndsWith call (Refused refusal) ⊎ FailsEarly call
      by_end (inl zero) = let (text, is, wrote) = left.written zero in absurd (no_text text is)
      by_end (inr (NoMemory, ends)) = inr (inl ends)
      by_end (inr (Unread, ends)) = inr (inr ends)
      by_end (inr (Unwritten, ends)) = absurd (no_text ends.cause.text ends.cause.answers)
      by_end (inr (Refused other, ends)) =
          let e = called_once call is_known (Err other) (Err refusal) ends.cause answer in
          let same : other ≡ refusal = cc in
          inl (subst (λ r. EndsWith call (Refused r)) same ends)

  -- Bytes that show what was drawn so are read so, where they are within the limit and every answer to them tells it so.
  reads_so : (Shows : (look : Look) → (bytes : List ℕ) → Drawn look → Type 0) (Told : (look : Look) → Drawn look → (report : List ℕ) → Type 0)
      → ((look : Look) (bytes : List ℕ) (drawn : Drawn look) → IsLook look → Shows look bytes drawn → IsWithinLimit look bytes × AreTold look bytes (Told look drawn))
      → Reads call Shows Told
  reads_so Shows Told each = λ request is. on_reading request.task _ (λ look task_is bytes drawn is_known shows.
      by_fit request is look task_is bytes drawn is_known shows left.fit)
    where
      Says : (look : Look) → Drawn look → Type 0
      Says look drawn = ((call.status ≡ 0) × ((report : List ℕ) × Told look drawn report × Wrote call report)) ⊎ Fails call

      by_end : (look : Look) (drawn : Drawn look)
          → ((answer : Result (List ℕ) Refusal) → Answers call answer → never_refused (Told look drawn) answer)
          → (call.status ≡ 0) ⊎ ((fault : Fault) × EndsWith call fault) → Says look drawn
      by_end look drawn told (inl zero) =
          let (text, answer, wrote) = left.written zero in
          inl (zero, (text, told (Ok text) answer, wrote))
      by_end look drawn told (inr (NoMemory, ends)) = inr (inl (inl ends))
      by_end look drawn told (inr (Unread, ends)) = inr (inl (inr ends))
      by_end look drawn told (inr (Unwritten, ends)) = inr (inr ends)
      by_end look drawn told (inr (Refused refusal, ends)) = absurd (told (Err refusal) ends.cause)

      by_fit : (request : Request) → call.outcome ≡ settings request → (look : Look) → request.task ≡ reading look
          → (bytes : List ℕ) (drawn : Drawn look) → content call request ≡ known bytes → Shows look bytes drawn
          → EndsWith call NoMemory ⊎ OnRequest call (λ request. IsFit request.task) → Says look drawn
      by_fit request is look task_is bytes drawn is_known shows (inl ends) = inr (inl (inl ends))
      by_fit request is look task_is bytes drawn is_known shows (inr fit) =
          let valid : IsLook look = subst IsFit task_is (fit request is) in
          let (within, told) = each look bytes drawn valid shows in
          by_end look drawn (λ answer answers.
          answer_told look bytes (Told look drawn) within told answer
          (subst (λ (c : Content). responds (reading look) c answer) is_known
          (subst (λ task. responds task (content call request) answer) task_is (responded call request is answer answers)))) left.ends

  pub promised : Ran call
  promised = record {
    ends = left.ends;
    written = left.written;
    quiet = left.quiet;
    silent = left.silent;
    files_kept = left.files_kept;
    out_kept = left.out_kept;
    input_kept = left.input_kept;
    ended = left.ended;
    misused = misused;
    answered = answered;
    refused = refused;
    shortest = draws_aztec call left.written IsShortest each_shortest fit_at_zero;
    fewest = draws_fewest call left.written;
    smallest = draws_aztec call left.written HasSmallestSize each_smallest fit_at_zero;
    shows = draws_aztec call left.written ShowsMessage each_message fit_at_zero;
    rows = draws_rows call left.written;
    reads_back = reads_so ShowsNear Tells near_told;
    reads_whole = reads_so IsWritten TellsWhole whole_told;
    demonstration = left.demonstration;
  }
