-- A call whose content is known has one answer.
use Rattle.std.proofs.Common.{◌≤◌, ℕ, List, Ok, Err, length, sym, ap, subst, ◌∙◌, arith}
use Rattle.bar_base.specs.Input.{limit_for}
use Rattle.bar_base.specs.Limits.{most_bytes}
use Rattle.zint_settings.specs.Settings.{Task, demonstration, drawing, reading}
use Rattle.bar_base.proofs.OneStep.{IsOne, only_one, then_one}
use Rattle.zint_draw.proofs.OneDrawing.{draws_one}
use Rattle.zint_read.proofs.ReaderLaws.{reads_one}
use Rattle.zint_demo.proofs.OneDemonstration.{demonstrated_one}
use Rattle.zint_cli.specs.Call.{answers, demonstration_lines, drawn_text, picture_limit, responds}
use Rattle.zint_cli.specs.Content.{Content, known, raw_of}
use Rattle.zint_cli.specs.Ending.{Answers, IsKnown}
use Rattle.zint_cli.specs.Outside.{Call}
use Rattle.zint_cli.proofs.Requests.{responded}

raw_one : (limit : ℕ) (bytes : List ℕ) → IsOne (raw_of limit (known bytes))
raw_one limit bytes (Ok raw) (Ok other) (is, within) (other_is, other_within) = ap Ok (is ∙ sym other_is)
raw_one limit bytes (Ok raw) (Err refusal) (is, within) (longer, refusal_is) =
    absurd (omega (arith, longer, subst (λ (b : List ℕ). length b ≤ limit_for most_bytes limit b) is within))
raw_one limit bytes (Err refusal) (Ok raw) (longer, refusal_is) (is, within) =
    absurd (omega (arith, longer, subst (λ (b : List ℕ). length b ≤ limit_for most_bytes limit b) is within))
raw_one limit bytes (Err refusal) (Err other) (longer, is) (other_longer, other_is) = ap Err (is ∙ sym other_is)

-- Two answers of one task to the same bytes are equal,
answers_one : (task : Task) (raw : List ℕ) → IsOne (answers task raw)
unfolding drawn_text demonstration_lines
answers_one (drawing request) raw = then_one _ _ (draws_one request raw) (λ symbol. only_one _)
answers_one (reading look) raw = reads_one look raw
answers_one (demonstration number) raw = demonstrated_one number

-- and to one content that is known,
pub responds_once : (task : Task) (bytes : List ℕ) → IsOne (responds task (known bytes))
unfolding responds
responds_once task bytes = then_one (raw_of (picture_limit task) (known bytes)) (answers task) (raw_one (picture_limit task) bytes) (answers_one task)

-- and to one call.
pub called_once : {I O E : Type 0} (call : Call I O E) → IsKnown call → IsOne (Answers call)
called_once call (request, is, (bytes, is_known)) one other p q =
    subst (λ (c : Content). IsOne (responds request.task c)) (sym is_known) (responds_once request.task bytes)
    one other (responded call request is one p) (responded call request is other q)
