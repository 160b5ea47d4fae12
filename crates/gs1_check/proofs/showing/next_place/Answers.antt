use Rattle.std.proofs.Common.{◌≡◌, true, false, refl, arith}
use Rattle.gs1_check.proofs.ShownBodies.{separator_here, separator_missing}
use Rattle.gs1_check.proofs.showing.next_place.Goals as goal

pub returns-then-is_fnc1 : goal.returns-then-is_fnc1
returns-then-is_fnc1 c = (separator_here c.args.body.now c.args.end c.args.owed c.if-not-owed.false (c.if-is_fnc1.ensures.0 refl), omega arith, omega arith)

pub returns-else-is_fnc1 : goal.returns-else-is_fnc1
returns-else-is_fnc1 c behind is = separator_missing c.args.body.now c.args.end c.args.owed behind c.if-not-owed.false c.requires (λ e. let never : false ≡ true = c.if-is_fnc1.ensures.1 e in cc) is
