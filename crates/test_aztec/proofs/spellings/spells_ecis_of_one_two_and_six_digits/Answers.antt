use Rattle.std.proofs.Common.{refl, arith}
use Rattle.aztec_modes.specs.declared.mode.Mode.TheVariants.{Upper}
use Rattle.aztec_modes.specs.Codes.{table_symbol, code_table}
use Rattle.aztec_modes.specs.Spelling.{nothing}
use Rattle.aztec_modes.proofs.Forms.{shifted}
use Rattle.aztec_modes.proofs.Paths.{by_eci, path_moved}
use Rattle.test_aztec.proofs.spellings.spells_ecis_of_one_two_and_six_digits.Goals as goal

pub spell-requires : goal.spell-requires
unfolding table_symbol code_table
spell-requires g c =
    path_moved c.in_ok-path.ensures c.in_ok-elements.ensures (
      _,
      by_eci Upper 3 1 (shifted 0 0 refl refl) (omega arith) (omega arith) (omega arith)
          (by_eci Upper 26 2 (shifted 0 0 refl refl) (omega arith) (omega arith) (omega arith)
          (by_eci Upper 899123 6 (shifted 0 0 refl refl) (omega arith) (omega arith) (omega arith) nothing)),
    )
