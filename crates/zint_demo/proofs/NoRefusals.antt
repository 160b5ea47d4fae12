-- A demonstration is never refused.
use Rattle.std.proofs.Common.{◌≡◌, inl, inr, ℕ, List, [], Ok, Err, refl}
use Rattle.std.specs.Prelude.{IfErr, Result}
use Rattle.zint_answers.specs.Steps.{MayAnswer}
use Rattle.zint_answers.specs.declared.fault.Fault.{Fault}
use Rattle.zint_answers.specs.declared.fault.Fault.TheVariants.{NoMemory, Unread, Unwritten, Refused}
use Rattle.zint_answers.specs.declared.refusal.Refusal.{Refusal}
use Rattle.zint_demo.specs.Demonstration.{adds_line, demonstrates_text, shows_last_symbol}
use Rattle.zint_demo.specs.declared.demonstration.Demonstration.{Demonstration}

line_not_refused : (lines text : List ℕ) (count : ℕ) (refusal : Refusal) → adds_line lines text count (Err refusal) → ⊥
unfolding adds_line
line_not_refused lines text count refusal (inl refused) = refused
line_not_refused lines text count refusal (inr (symbol, drawn, answer)) = cc

text_not_refused : (lines text : List ℕ) (refusal : Refusal) → shows_last_symbol lines text (Err refusal) → ⊥
unfolding shows_last_symbol
text_not_refused lines text refusal (inl refused) = refused
text_not_refused lines text refusal (inr (symbol, drawn, refused)) = refused

pub not_refused : (text : List ℕ) (refusal : Refusal) → demonstrates_text text (Err refusal) → ⊥
unfolding demonstrates_text
not_refused text refusal (inl refused) = line_not_refused [] text 1 refusal refused
not_refused text refusal (inr (one, _, inl refused)) = line_not_refused one text 10 refusal refused
not_refused text refusal (inr (one, _, inr (ten, _, inl refused))) = line_not_refused ten text 100 refusal refused
not_refused text refusal (inr (one, _, inr (ten, _, inr (hundred, _, inl refused)))) = line_not_refused hundred text 500 refusal refused
not_refused text refusal (inr (one, _, inr (ten, _, inr (hundred, _, inr (lines, _, refused))))) = text_not_refused lines text refusal refused

-- so a fault is want of memory
pub only_memory : (text : List ℕ) (result : Result Demonstration Fault) → MayAnswer (λ shown. shown) result (demonstrates_text text) → IfErr result (λ fault. fault ≡ NoMemory)
only_memory text (Ok shown) answer = tt
only_memory text (Err NoMemory) answer = refl
only_memory text (Err Unread) answer = absurd answer
only_memory text (Err Unwritten) answer = absurd answer
only_memory text (Err (Refused refusal)) answer = absurd (not_refused text refusal answer)
