use Rattle.std.proofs.Common.{◌≡◌, ◌++◌, ℕ, OnOk, subst}
use Rattle.aztec_modes.specs.declared.table.Symbol.TheVariants.{ShiftTo}
use Rattle.aztec_modes.specs.Codes.{number_bits}
use Rattle.aztec_modes.specs.Entry.{shift_number}
use Rattle.aztec_modes.proofs.TableFacts.{shift_number-at, number_few}
use Rattle.aztec_modes.proofs.spelling.push_shift.Goals as goal

pub control_number-requires : goal.control_number-requires
control_number-requires c =
    (shift_number c.args.mode c.args.to, number_few c.args.mode (shift_number c.args.mode c.args.to) (ShiftTo c.args.to) c.requires (λ h. absurd (cc)), c.requires)

pub returns : goal.returns
returns c =
    subst (λ (k : ℕ). OnOk c.push_code_number.result (c.push_code_number.new.bits ≡ c.args.bits.now ++ number_bits c.args.mode k))
    (shift_number-at c.args.mode c.args.to c.control_number.result c.control_number.ensures) c.push_code_number.ensures
