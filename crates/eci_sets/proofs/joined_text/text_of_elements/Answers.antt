use Rattle.std.proofs.Common.{◌+◌, ℕ, List, [], sym, subst, arith, drop}
use Rattle.std.specs.Option.{unwrap_or}
use Rattle.std.specs.String.{string_bytes}
use Rattle.eci_sets.specs.JoinedTexts.{Advances}
use Rattle.eci_sets.proofs.Walking.{AtEnd, Walked, at_end, end_false, end_true, here, none_step, none_text, none_walked, some_step, stepped, stuck, walk_text}
use Rattle.eci_sets.proofs.joined_text.text_of_elements.Goals as goal

pub loop-element-init : goal.loop-element-init
loop-element-init c =
    subst (λ (n : ℕ). Walked (unwrap_or c.args.eci 3) c.args.elements.now n c.new-part.result.items (string_bytes c.new-text.result) c.args.elements.now) (sym c.unwrap_or-number.ensures)
    (subst (λ (p : List ℕ). Walked (unwrap_or c.args.eci 3) c.args.elements.now (unwrap_or c.args.eci 3) p (string_bytes c.new-text.result) c.args.elements.now) (sym c.new-part.ensures.items)
    (subst (λ (t : List ℕ). Walked (unwrap_or c.args.eci 3) c.args.elements.now (unwrap_or c.args.eci 3) [] t c.args.elements.now) (sym c.new-text.ensures.bytes)
    (none_walked (unwrap_or c.args.eci 3) c.args.elements.now)))

pub loop-element-preserved : goal.loop-element-preserved
loop-element-preserved c =
    let l = c.loop-element in
    stepped (unwrap_or c.args.eci 3) c.args.elements.now l.number l.part.items (string_bytes l.text) _ (drop (l.element-index + 1) c.args.elements.now) c.in-Some.next c.advance.new.part.items (string_bytes c.advance.new.text)
    (here (unwrap_or c.args.eci 3) c.args.elements.now l.number l.part.items (string_bytes l.text) l.element-index _ l.invariant c.loop-element-test.true)
    (some_step l.number l.part.items _ c.in_ok-next.field-0 c.in-Some.next (λ next. Advances l.number l.part.items (string_bytes l.text) _ next c.advance.new.part.items (string_bytes c.advance.new.text)) c.in-Some.is c.in_ok-next.ensures)

pub returns-in-None : goal.returns-in-None
returns-in-None c =
    let l = c.loop-element in
    none_text c.args.eci c.args.elements.now
    (stuck (unwrap_or c.args.eci 3) c.args.elements.now l.number l.part.items (string_bytes l.text) _ (drop (l.element-index + 1) c.args.elements.now)
    (here (unwrap_or c.args.eci 3) c.args.elements.now l.number l.part.items (string_bytes l.text) l.element-index _ l.invariant c.loop-element-test.true)
    (none_step l.number l.part.items _ c.in_ok-next.field-0 (λ next. Advances l.number l.part.items (string_bytes l.text) _ next c.advance.new.part.items (string_bytes c.advance.new.text)) c.in-None.is c.in_ok-next.ensures))

pub returns-then-branch : goal.returns-then-branch
returns-then-branch c =
    let l = c.loop-element in
    walk_text c.args.eci c.args.elements.now (string_bytes c.push_part.new.text)
    (end_true (unwrap_or c.args.eci 3) c.args.elements.now l.number l.part.items (string_bytes l.text) (string_bytes c.push_part.new.text) c.in_ok-push_part.field-0 c.if-branch.true
    (subst (λ (x : List ℕ). AtEnd l.number x (string_bytes l.text) (string_bytes c.push_part.new.text) c.in_ok-push_part.field-0) c.deref.ensures.value c.in_ok-push_part.ensures)
    (at_end (unwrap_or c.args.eci 3) c.args.elements.now l.number l.part.items (string_bytes l.text) l.element-index l.invariant (omega arith)))

pub returns-else-branch : goal.returns-else-branch
returns-else-branch c =
    let l = c.loop-element in
    none_text c.args.eci c.args.elements.now
    (end_false (unwrap_or c.args.eci 3) c.args.elements.now l.number l.part.items (string_bytes l.text) (string_bytes c.push_part.new.text) c.in_ok-push_part.field-0 c.if-branch.false
    (subst (λ (x : List ℕ). AtEnd l.number x (string_bytes l.text) (string_bytes c.push_part.new.text) c.in_ok-push_part.field-0) c.deref.ensures.value c.in_ok-push_part.ensures)
    (at_end (unwrap_or c.args.eci 3) c.args.elements.now l.number l.part.items (string_bytes l.text) l.element-index l.invariant (omega arith)))
