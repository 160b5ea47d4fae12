use Rattle.std.proofs.Common.{sym}
use Rattle.aztec_layout.proofs.Bare.{bare_light}
use Rattle.aztec_layout.proofs.core_symbol.is_dark_fixed.Goals as goal

pub returns-then-is_bare : goal.returns-then-is_bare
returns-then-is_bare c = sym (bare_light c.args.full c.args.centre c.args.x c.args.y c.requires.room c.if-is_bare.ensures)
