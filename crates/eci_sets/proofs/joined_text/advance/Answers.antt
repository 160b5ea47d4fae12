use Rattle.std.proofs.Common.{List, ℕ, sym, subst}
use Rattle.std.specs.String.{string_bytes}
use Rattle.eci_sets.specs.JoinedTexts.{Blocks}
use Rattle.eci_sets.proofs.Walking.{AtEnd, never_read}
use Rattle.eci_sets.proofs.joined_text.advance.Goals as goal

pub returns-else-branch : goal.returns-else-branch
returns-else-branch c =
    subst (λ e. Blocks c.args.number c.args.part.now.items e) (sym c.in-Eci.is)
    (never_read c.args.number c.args.part.now.items (string_bytes c.args.text.now) (string_bytes c.push_part.new.text) c.in_ok-push_part-in-Eci.field-0 c.if-branch.false
    (subst (λ (x : List ℕ). AtEnd c.args.number x (string_bytes c.args.text.now) (string_bytes c.push_part.new.text) c.in_ok-push_part-in-Eci.field-0) c.deref.ensures.value c.in_ok-push_part-in-Eci.ensures))
