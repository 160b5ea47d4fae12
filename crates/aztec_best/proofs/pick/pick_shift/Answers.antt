use Rattle.std.proofs.Common.{◌≡◌, subst}
use Rattle.aztec_modes.specs.declared.mode.Mode.{Mode}
use Rattle.aztec_modes.specs.declared.table.Symbol.TheVariants.{ShiftTo}
use Rattle.aztec_modes.specs.Codes.{table_symbol}
use Rattle.aztec_modes.specs.Entry.{shift_number}
use Rattle.aztec_best.proofs.DataPicks.{shift_pick, shift_there}
use Rattle.aztec_best.proofs.pick.pick_shift.Goals as goal

pub pick_data-requires-clause-shift : goal.pick_data-requires-clause-shift
pick_data-requires-clause-shift c =
    λ x is. let same : c.args.to ≡ x = cc in
    subst (λ (y : Mode). table_symbol c.args.at.mode (shift_number c.args.at.mode y) ≡ ShiftTo y) same (shift_there c.args.at.mode c.args.to c.args.first c.requires.shift)

pub returns : goal.returns
returns c = shift_pick c.args.costs.now c.args.elements.now c.args.at.place c.args.at.mode c.args.to c.args.first c.pick_data.result c.requires.shift c.pick_data.ensures
