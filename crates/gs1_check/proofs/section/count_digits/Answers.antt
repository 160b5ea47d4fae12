use Rattle.std.proofs.Common.{◌∙◌, sym}
use Rattle.gs1_check.specs.Sections.{is_no_digit}
use Rattle.gs1_check.proofs.Places.{none_first}
use Rattle.gs1_check.proofs.section.count_digits.Goals as goal

pub returns-in-None-clause-count : goal.returns-in-None-clause-count
returns-in-None-clause-count c = none_first is_no_digit c.args.section.now (sym c.first_no_digit.ensures.place ∙ c.in-None.is)
