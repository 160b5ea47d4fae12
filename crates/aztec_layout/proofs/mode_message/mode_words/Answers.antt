use Rattle.std.proofs.Common.{ℕ, ◌+◌, ◌-◌, ◌*◌, ◌≡◌, true, false, refl, arith}
use Rattle.std.proofs.lemmas.Grind.{common_steps}
use Rattle.aztec_layout.proofs.ModeLemmas.{compact_message, compact_once, full_message, full_once}
use Rattle.aztec_layout.proofs.mode_message.mode_words.Goals as goal

pub returns-then-size-clause-message : goal.returns-then-size-clause-message
returns-then-size-clause-message c =
    let full : c.args.size.full ≡ true = c.if-size.true in
    let n : ℕ = (c.args.size.layers - 1) * 2048 + c.args.held - 1 in
    full_message c.args.size c.args.held n _ c.coded.result full c.requires.held.some (grind (arith, common_steps)) (omega arith) refl c.coded.ensures

pub returns-then-size-clause-only : goal.returns-then-size-clause-only
returns-then-size-clause-only c = λ others other.
    let full : c.args.size.full ≡ true = c.if-size.true in
    let n : ℕ = (c.args.size.layers - 1) * 2048 + c.args.held - 1 in
    full_once c.args.size c.args.held n _ c.coded.result others full c.requires.held.some (grind (arith, common_steps)) (omega arith) refl c.coded.ensures other

pub returns-else-size-clause-message : goal.returns-else-size-clause-message
returns-else-size-clause-message c =
    let compact : c.args.size.full ≡ false = c.if-size.false in
    let n : ℕ = (c.args.size.layers - 1) * 64 + c.args.held - 1 in
    compact_message c.args.size c.args.held n _ c.coded-else-size.result compact c.requires.held.some (c.requires.held.compact compact) (omega arith) refl
    c.coded-else-size.ensures

pub returns-else-size-clause-only : goal.returns-else-size-clause-only
returns-else-size-clause-only c = λ others other.
    let compact : c.args.size.full ≡ false = c.if-size.false in
    let n : ℕ = (c.args.size.layers - 1) * 64 + c.args.held - 1 in
    compact_once c.args.size c.args.held n _ c.coded-else-size.result others compact c.requires.held.some (c.requires.held.compact compact) (omega arith) refl
    c.coded-else-size.ensures other
