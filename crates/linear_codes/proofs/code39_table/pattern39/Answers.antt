use Rattle.std.proofs.Common.{◌∙◌, ap}
use Rattle.bar_base.specs.Bits.{number_after}
use Rattle.bar_base.specs.Stripes.{stripes}
use Rattle.std.proofs.Common.{ℕ, List, true}
use Rattle.linear_codes.specs.Code39.{pattern39_of}
use Rattle.linear_codes.proofs.TableLaws.{only39}
use Rattle.linear_codes.proofs.code39_table.pattern39.Goals as goal

pub returns-clause-only : goal.returns-clause-only
unfolding pattern39_of
returns-clause-only c other small is =
    only39 c.args.value other c.requires small
    (is ∙ c.number_of_widths.ensures ∙ ap (λ (widths : List ℕ). number_after 0 (stripes true widths)) c.widths39.ensures)
