use Rattle.std.proofs.Common.{ℕ, ◌-◌, ◌<◌, ◌≤◌, length, arith}
use Rattle.gs1_check.proofs.ShownBodies.{no_string, shown_last, shown_less, shown_more, shown_stop}
use Rattle.gs1_check.proofs.showing.show_elements.Goals as goal

pub returns-in-None : goal.returns-in-None
returns-in-None c = no_string c.loop-text.text.items _ c.args.body.now c.loop-text.invariant.left (rw c.in-None.is at c.in_ok-show_string.ensures.string)

pub returns-then-shown-body : goal.returns-then-shown-body
returns-then-shown-body c =
    let string = rw c.in-Some.is at c.in_ok-show_string.ensures.string in
    let text = rw c.in-Some.is at c.in_ok-show_string.ensures.text in
    let ends = rw c.in-Some.is at c.in_ok-show_string.ensures.end in
    shown_last c.loop-text.text.items _ c.loop-text.place c.in-Some.shown.end c.args.body.now c.loop-text.invariant string text ends.0 (omega arith)

pub returns-in-None-next_place : goal.returns-in-None-next_place
returns-in-None-next_place c =
    let ends = rw c.in-Some.is at c.in_ok-show_string.ensures.end in
    let owed = rw c.in-Some.is at c.in_ok-show_string.ensures.owed in
    let within : c.in-Some.shown.end < length c.args.body.now = omega arith in
    shown_stop c.loop-text.text.items c.loop-text.place c.in-Some.shown.end c.in-Some.shown.owed c.args.body.now c.loop-text.invariant owed ends.0 within c.in-None-next_place.ensures

less : (n i k : ℕ) → i < k → k ≤ n → n - k < n - i
less n i k a b = omega arith

pub loop-text-smaller : goal.loop-text-smaller
loop-text-smaller c =
    let string = rw c.in-Some.is at c.in_ok-show_string.ensures.string in
    let ends = rw c.in-Some.is at c.in_ok-show_string.ensures.end in
    let found = c.in-Some-next_place.ensures in
    let more = shown_less c.args.body.now c.loop-text.place c.in-Some.shown.end c.in-Some-next_place.next string ends.0 found.1 in
    less (length c.args.body.now) c.loop-text.place c.in-Some-next_place.next more found.2

pub loop-text-preserved : goal.loop-text-preserved
loop-text-preserved c =
    let string = rw c.in-Some.is at c.in_ok-show_string.ensures.string in
    let text = rw c.in-Some.is at c.in_ok-show_string.ensures.text in
    let ends = rw c.in-Some.is at c.in_ok-show_string.ensures.end in
    let owed = rw c.in-Some.is at c.in_ok-show_string.ensures.owed in
    let within : c.in-Some.shown.end < length c.args.body.now = omega arith in
    let found = c.in-Some-next_place.ensures in
    shown_more c.loop-text.text.items _ c.loop-text.place c.in-Some.shown.end c.in-Some-next_place.next c.in-Some.shown.owed c.args.body.now c.loop-text.invariant string text owed ends.0 within found.0 found.2
