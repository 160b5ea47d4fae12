use Rattle.symbol_reader.specs.Sight.{known}
use Rattle.symbol_reader.proofs.OneFault.{no_bad_mode}
use Rattle.symbol_reader.proofs.mode_check.bad_mode.Goals as goal

pub returns-in-Ok : goal.returns-in-Ok
returns-in-Ok c = record { bad = λ words bad. no_bad_mode (known c.args.grid.now) _ _ c.in-Ok.ensures.mode words bad }
