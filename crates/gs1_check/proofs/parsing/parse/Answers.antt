use Rattle.std.proofs.Common.{sym, subst}
use Rattle.gs1_check.specs.ElementStrings.{HasBody}
use Rattle.gs1_check.specs.declared.brackets.Brackets.{Brackets}
use Rattle.gs1_check.proofs.TextBodies.{given_body}
use Rattle.gs1_check.proofs.parsing.parse.Goals as goal

pub returns-clause-given : goal.returns-clause-given
returns-clause-given c body is =
    given_body c.brackets_of.result c.args.text.now c.body_in.result body c.body_in.ensures
    (subst (λ (b : Brackets). HasBody b c.args.text.now body) (sym c.brackets_of.ensures) is)
