use Rattle.std.proofs.Common.{ℕ, List, true, ◌∙◌, ap}
use Rattle.bar_base.specs.Bits.{number_after}
use Rattle.bar_base.specs.Stripes.{stripes}
use Rattle.code128_best.specs.Symbol.{pattern128}
use Rattle.code128_best.proofs.SymbolLaws.{only}
use Rattle.code128_best.proofs.symbol.pattern.Goals as goal

pub returns-clause-only : goal.returns-clause-only
unfolding pattern128
returns-clause-only c other small is =
    only c.args.value other c.requires small (is ∙ c.number_of_widths.ensures ∙ ap (λ (widths : List ℕ). number_after 0 (stripes true widths)) c.widths128.ensures)
