use Rattle.std.proofs.Common.{◌≤◌, arith}
use Rattle.aztec_modes.specs.declared.mode.Mode.{Mode}
use Rattle.aztec_modes.specs.declared.mode.Mode.TheVariants.{Upper, Lower, Mixed, Punct, Digit}
use Rattle.aztec_modes.specs.Codes.{mode_width}
use Rattle.aztec_modes.proofs.spelling.push_code_number.Goals as goal

width_few : (mode : Mode) → mode_width mode ≤ 32
unfolding mode_width
width_few Upper = omega arith
width_few Lower = omega arith
width_few Mixed = omega arith
width_few Punct = omega arith
width_few Digit = omega arith

pub push_bits-requires : goal.push_bits-requires
push_bits-requires c = omega (arith, c.width.ensures, width_few c.args.mode)
