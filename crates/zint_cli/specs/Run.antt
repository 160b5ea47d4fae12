-- What a call of the command promises, for all words, every input, all files and every output: a sentence a field.
use Rattle.std.specs.Prelude.{◌≡◌, ◌≢◌, ◌⊎◌, ℕ, List, Some, Ok, Err, false, IsSome}
use Rattle.std.specs.Io.KnownBytes.{IsAtEnd}
use Rattle.bar_base.specs.Files.{SameFiles, left_of}
use Rattle.zint_read.specs.readers.{IsWritten, ShowsNear, Tells, TellsWhole}
use Rattle.zint_answers.specs.declared.fault.Fault.{Fault}
use Rattle.zint_answers.specs.declared.fault.Fault.TheVariants.{NoMemory, Refused}
use Rattle.zint_answers.specs.declared.refusal.Refusal.{Refusal}
use Rattle.zint_cli.specs.Call.{asked}
use Rattle.zint_cli.specs.Content.{HasEnded, names_standard}
use Rattle.zint_cli.specs.Effects.{file_in}
use Rattle.zint_cli.specs.Ending.{Answers, EndsWith, Fails, FailsEarly, ForRequest, IsKnown, OnRequest, Wrote}
use Rattle.zint_cli.specs.Headline.{Demonstrates, DrawsAztec, DrawsCode128, HasFewestValues, HasSmallestSize, IsShortest, Reads, ShowsMessage}
use Rattle.zint_cli.specs.Outside.{Call}
use Rattle.zint_cli.specs.Rows.{DrawsRows}

pub record Ran {I O E : Type 0} (call : Call I O E) : Type 0 where
  -- The call ends with status 0, or with a fault: the fault has its cause, the status is its own, and its line was written.
  pub ends : (call.status ≡ 0) ⊎ ((fault : Fault) × EndsWith call fault)
  -- With 0 a text was written, whole, that is an answer to the words, the input and the files.
  pub written : call.status ≡ 0 → (text : List ℕ) × Answers call (Ok text) × Wrote call text
  -- With 0 standard error is untouched.
  pub quiet : call.status ≡ 0 → call.new.err.object ≡ call.old.err.object
  -- With every status but 0 and 12 standard output is untouched, and all files are as they were.
  pub silent : call.status ≢ 0 → call.status ≢ 12
      → (call.new.out.object ≡ call.old.out.object) × SameFiles call.old.files.state call.new.files.state
  -- Every file but the one of `-o` is as it was, whatever the status.
  pub files_kept : (name : List ℕ) → (ForRequest call (λ request. request.output ≡ Some name) → ⊥)
      → file_in name call.new.files.state ≡ file_in name call.old.files.state
  -- With `-o` standard output is untouched, whatever the status.
  pub out_kept : ForRequest call (λ request. IsSome request.output) → call.new.out.object ≡ call.old.out.object
  -- Standard input is untouched where the words do not name it.
  pub input_kept : OnRequest call (λ request. names_standard request.origin ≡ false) → call.new.input.object ≡ call.old.input.object
  -- With 0 and with 12 the input that the words name was read to its end.
  pub ended : (call.status ≡ 0) ⊎ (call.status ≡ 12)
      → ForRequest call (λ request. HasEnded request.origin (IsAtEnd call.new.input.bytes) (IsAtEnd (left_of call.new.files.state)))
  -- Words that ask for nothing, or that break a rule, are refused for that, unless memory is wanting.
  pub misused : (refusal : Refusal) → asked call.outcome (Err refusal) → EndsWith call (Refused refusal) ⊎ EndsWith call NoMemory
  -- Where the content is known and a text is an answer, that text is written, whole, or the call fails.
  pub answered : IsKnown call → (text : List ℕ) → Answers call (Ok text) → ((call.status ≡ 0) × Wrote call text) ⊎ Fails call
  -- Where the content is known and a refusal is an answer, the call ends with that refusal, its status and its line, or it fails early.
  pub refused : IsKnown call → (refusal : Refusal) → Answers call (Err refusal) → EndsWith call (Refused refusal) ⊎ FailsEarly call
  -- No spelling of an Aztec symbol's message has fewer bits than the one drawn, whose number the report prints.
  pub shortest : DrawsAztec call IsShortest
  -- No list of values that spells the message of a symbol of Code 128 or GS1-128 has fewer values than the one drawn.
  pub fewest : DrawsCode128 call HasFewestValues
  -- An Aztec symbol has the smallest allowed size that holds its spelling at the share.
  pub smallest : DrawsAztec call HasSmallestSize
  -- An Aztec symbol is one of the message of its data: one of those of which the next two fields speak.
  pub shows : DrawsAztec call ShowsMessage
  -- A symbol whose rows can be read shows a row of the elements of its data: one of those of which the next two fields speak.
  pub rows : DrawsRows call
  -- An image near any symbol of a message, by whatever spelling and in whatever size, reads as exactly that message; a row of bars that may
  -- be drawn, as it stands or turned round, as exactly its elements.
  pub reads_back : Reads call ShowsNear Tells
  -- The grid of such a symbol, or its BMP, reads as exactly its message, with nothing corrected; so does the line of such a row.
  pub reads_whole : Reads call IsWritten TellsWhole
  -- The grid of the demonstration is near the drawing of its 1,500 bytes.
  pub demonstration : Demonstrates call
