use Rattle.std.proofs.Common.{refl}
use Rattle.aztec_modes.specs.declared.mode.Mode.TheVariants.{Upper, Lower, Punct, Digit}
use Rattle.aztec_modes.specs.Codes.{table_symbol, code_table}
use Rattle.aztec_modes.specs.Spelling.{nothing}
use Rattle.aztec_modes.proofs.Paths.{by_byte, by_latch, by_shift, path_moved}
use Rattle.test_aztec.proofs.spellings.spells_in_upper_lower_and_digit_with_shifts.Goals as goal

pub spell-requires : goal.spell-requires
unfolding table_symbol code_table
spell-requires g c =
    path_moved c.in_ok-path.ensures c.in_ok-elements.ensures (
      _,
      by_byte Upper 4 67 refl (by_latch Upper Lower 28 refl (by_byte Lower 16 111 refl (by_byte Lower 5 100 refl (by_byte Lower 6 101 refl
          (by_latch Lower Digit 30 refl (by_byte Digit 1 32 refl (by_byte Digit 4 50 refl (by_shift Digit Upper 15 5 68 refl refl
          (by_shift Digit Punct 0 6 33 refl refl nothing))))))))),
    )
