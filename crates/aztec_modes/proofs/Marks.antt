-- The mark of a structured append set is the latch from Upper to Mixed and the latch from Mixed to Upper.
use Rattle.std.proofs.Common.{◌≡◌, [], ◌∷◌, ◌++◌, refl}
use Rattle.bar_base.specs.Bits.{to_bits}
use Rattle.aztec_modes.specs.declared.mode.Mode.TheVariants.{Upper, Mixed}
use Rattle.aztec_modes.specs.declared.code.Code.TheVariants.{Latch}
use Rattle.aztec_modes.specs.Codes.{code_table, table_symbol, mode_width, number_bits}
use Rattle.aztec_modes.specs.Spelling.{append_mark, Spells, nothing, onward}
use Rattle.aztec_modes.proofs.Forms.{latch, entry_of}

pub append_mark-codes : append_mark ≡ number_bits Upper 29 ++ number_bits Mixed 29
unfolding append_mark number_bits mode_width to_bits
append_mark-codes = refl

-- The two latches of the mark spell nothing, and lead from Upper to Upper.
pub mark_spells : Spells Upper (Latch Mixed ∷ Latch Upper ∷ []) (number_bits Upper 29 ++ (number_bits Mixed 29 ++ [])) ([] ++ ([] ++ []))
unfolding table_symbol code_table
mark_spells = onward (entry_of (latch 29 refl)) (onward (entry_of (latch 29 refl)) nothing)
