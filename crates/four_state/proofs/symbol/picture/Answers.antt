use Rattle.four_state.proofs.BarLaws.{shaped}
use Rattle.four_state.proofs.symbol.picture.Goals as goal

pub of_rows-requires : goal.of_rows-requires
of_rows-requires c = record {
  shape = shaped c.args.ascenders.now c.args.descenders.now c.in_ok-modules.modules.items c.requires.some c.requires.few c.requires.alike c.in_ok-modules.ensures;
}
