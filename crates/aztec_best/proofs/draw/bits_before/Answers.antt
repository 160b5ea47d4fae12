use Rattle.std.proofs.Common.{◌≡◌, Bool, true, false, List, [], ◌++◌, refl, ap, ◌∙◌}
use Rattle.aztec_modes.specs.Codes.{table_symbol, code_table, mode_width, number_bits}
use Rattle.aztec_modes.specs.Entry.{code_bits, latch_number, is_latch, mode_number}
use Rattle.aztec_modes.specs.Spelling.{append_mark}
use Rattle.aztec_modes.specs.declared.code.Code.TheVariants.{Latch}
use Rattle.aztec_modes.specs.declared.mode.Mode.TheVariants.{Upper, Mixed}
use Rattle.bar_base.specs.Bits.{to_bits}
use Rattle.aztec_best.specs.DrawnPath.{mark_bits}
use Rattle.aztec_best.proofs.draw.bits_before.Goals as goal

pub push_code-requires : goal.push_code-requires
unfolding table_symbol code_table latch_number is_latch mode_number
push_code-requires c = refl

pub push_code-requires-2 : goal.push_code-requires-2
unfolding table_symbol code_table latch_number is_latch mode_number
push_code-requires-2 c = refl

-- the two latches are the mark
mark_written : (append : Bool) → append ≡ true → ([] ++ code_bits Upper (Latch Mixed) []) ++ code_bits Mixed (Latch Upper) [] ≡ mark_bits append
unfolding mark_bits append_mark code_bits code_table latch_number is_latch mode_number number_bits mode_width to_bits
mark_written true set = refl
mark_written false set = absurd (cc)

pub returns : goal.returns
returns c =
    c.in_ok-push_code-2.ensures.pushed
    ∙ ap (λ (bits : List Bool). bits ++ code_bits Mixed (Latch Upper) []) (c.in_ok-push_code.ensures.pushed ∙ ap (λ (bits : List Bool). bits ++ code_bits Upper (Latch Mixed) []) c.new-bits.ensures.empty)
    ∙ mark_written c.args.append c.if-not-append.false
