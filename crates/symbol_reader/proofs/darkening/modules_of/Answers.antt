use Rattle.std.proofs.Common.{◌∙◌, ap, sym, arith, ◌++◌, ◌∷◌, [], List, Bool}
use Rattle.std.proofs.lemmas.List.{take_all}
use Rattle.symbol_reader.specs.Sight.{dark_in_either}
use Rattle.symbol_reader.proofs.Sights.{length-either, take_got}
use Rattle.symbol_reader.proofs.darkening.modules_of.Goals as goal

pub loop-place-preserved : goal.loop-place-preserved
loop-place-preserved c =
    c.in_ok-push.ensures.items ∙ ap (λ (ms : List Bool). ms ++ c.is_dark.result ∷ []) c.loop-place.invariant
    ∙ sym (take_got (dark_in_either c.args.grid.now.modules c.args.lost.now.modules) c.loop-place.place c.is_dark.result c.is_dark.ensures)

pub returns : goal.returns
returns c =
    c.loop-place.invariant
    ∙ take_all c.loop-place.place (dark_in_either c.args.grid.now.modules c.args.lost.now.modules)
    (omega (arith, length-either c.args.grid.now.modules c.args.lost.now.modules (omega (arith, c.module_count-place-end.ensures)), c.module_count-place-end.ensures, c.loop-place-test.false))
