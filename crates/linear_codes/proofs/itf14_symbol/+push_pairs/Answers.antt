use Rattle.std.proofs.Common.{◌<◌, List, ℕ, length, rules, ◌-◌, ◌∙◌, ◌++◌, drop, sym, ap, arith}
use Rattle.std.proofs.lemmas.List.{append-nil}
use Rattle.std.proofs.lemmas.List.Elements.{All-take, All-drop}
use Rattle.linear_codes.proofs.ItfLaws.{pairs_none, pairs_joined}
use Rattle.linear_codes.proofs.itf14_symbol.+push_pairs.Goals as goal

pub returns-in_default : goal.returns-in_default
returns-in_default t c =
    sym (ap (λ (xs : List ℕ). c.args.elements.now.items ++ xs) (pairs_none c.args.digits.now c.in_default.len_below) ∙ append-nil c.args.elements.now.items)

pub push_pairs-requires : goal.push_pairs-requires
push_pairs-requires t c =
    (search rules, All-take (λ digit. digit < 10) (length c.args.digits.now - 2) (drop 2 c.args.digits.now) (All-drop (λ digit. digit < 10) 2 c.args.digits.now c.requires))

pub returns : goal.returns
returns t c =
    c.in_ok-push_pairs.ensures
    ∙ pairs_joined c.args.elements.now.items c.push_in_turn.new.elements.items c.digit_elements.result.now c.digit_elements-2.result.now c.args.digits.now (omega arith)
    c.digit_elements.ensures.elements c.digit_elements-2.ensures.elements c.in_ok-push_in_turn.ensures
