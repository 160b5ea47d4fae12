-- The words in which the promise of a call is said: what it was asked for, what it wrote, and with which fault it ended.
use Rattle.std.specs.Prelude.{◌≡◌, ◌⊎◌, ℕ, List, Result, Ok, Err}
use Rattle.bar_base.specs.Faults.{Rose}
use Rattle.zint_answers.specs.FaultLine.{status_of}
use Rattle.zint_answers.specs.declared.fault.Fault.{Fault}
use Rattle.zint_answers.specs.declared.fault.Fault.TheVariants.{NoMemory, Unread, Unwritten, Refused}
use Rattle.zint_answers.specs.declared.refusal.Refusal.{Refusal}
use Rattle.zint_words.specs.Outcome.{settings}
use Rattle.zint_settings.specs.Settings.{Request}
use Rattle.zint_cli.specs.Call.{called}
use Rattle.zint_cli.specs.Content.{Content, ReadFaulted, content_of, known, missing}
use Rattle.zint_cli.specs.Effects.{HoldsText, HoldsTextPart, WriteFaulted, WritesLine}
use Rattle.zint_cli.specs.Outside.{Call}

module _ {I O E : Type 0} (call : Call I O E) where
  -- The fact holds of the request that the words make, if they make one.
  abbrev pub OnRequest : (Request → Type 0) → Type 0
  OnRequest Holds = (request : Request) → call.outcome ≡ settings request → Holds request

  -- The words make a request, and the fact holds of it.
  abbrev pub ForRequest : (Request → Type 0) → Type 0
  ForRequest Holds = (request : Request) × (call.outcome ≡ settings request) × Holds request

  -- The content that a request names: the text of `-d`, what standard input has left, or the file of the name of `-i`.
  abbrev pub content : Request → Content
  content request = content_of request.origin call.old.input.bytes call.old.files.state

  -- The words make a request, and the content that it names is known.
  abbrev pub IsKnown : Type 0
  IsKnown = ForRequest (λ request. (bytes : List ℕ) × (content request ≡ known bytes))

  -- A text, or a refusal, is an answer to the words, the input and the files.
  abbrev pub Answers : Result (List ℕ) Refusal → Type 0
  Answers answer = called call.outcome call.old.input.bytes call.old.files.state answer

  -- The text was written: standard output grew by exactly it, and all files are as they were; or, with `-o`, the file of the name holds
  -- exactly it, and every other file is as it was.
  abbrev pub Wrote : (text : List ℕ) → Type 0
  Wrote text = ForRequest (λ request.
      HoldsText request.output text call.old.out.bytes call.new.out.bytes call.old.files.state call.new.files.state)

  -- The input was not read: there is no file of the name, or a fault of reading was counted.
  abbrev pub IsUnread : Type 0
  IsUnread = ForRequest (λ request. (content request ≡ missing)
      ⊎ ReadFaulted request.origin (Rose call.old.input.faults call.new.input.faults)
      (Rose call.old.files.reading_faults call.new.files.reading_faults))

  -- A text answers the call, and no more than a prefix of it was written where it was to be: a fault of writing was counted there.
  pub record IsUnwritten : Type 0 where
    pub request : Request
    pub asked : call.outcome ≡ settings request
    pub text : List ℕ
    pub answers : Answers (Ok text)
    pub part : HoldsTextPart request.output text call.old.out.bytes call.new.out.bytes call.old.files.state call.new.files.state
    pub faulted : WriteFaulted request.output (Rose call.old.out.faults call.new.out.faults)
        (Rose call.old.files.writing_faults call.new.files.writing_faults)

  -- Why a call ends with a fault. A refusal is an answer to the call; want of memory may come at any call.
  abbrev pub HasCause : Fault → Type 0
  HasCause NoMemory = Unit {0}
  HasCause Unread = IsUnread
  HasCause Unwritten = IsUnwritten
  HasCause (Refused refusal) = Answers (Err refusal)

  -- The call ended with this fault: the fault has its cause, the status is that of the fault, and standard error grew by exactly the line
  -- of the fault, or by a prefix of it where a fault was counted there.
  pub record EndsWith (fault : Fault) : Type 0 where
    pub cause : HasCause fault
    pub status_is : call.status ≡ status_of fault
    pub line : WritesLine call.old.err.bytes call.new.err.bytes call.old.err.faults call.new.err.faults fault

  -- The call failed before it wrote: memory was wanting (11), or the input was not read (10).
  abbrev pub FailsEarly : Type 0
  FailsEarly = EndsWith NoMemory ⊎ EndsWith Unread

  -- The call failed: before it wrote, or the output was not written whole (12).
  abbrev pub Fails : Type 0
  Fails = FailsEarly ⊎ EndsWith Unwritten
