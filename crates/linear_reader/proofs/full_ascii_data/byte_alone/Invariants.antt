use Rattle.std.proofs.Common.{◌≡◌, ◌-◌}
use Rattle.linear_reader.specs.Patterns.{first_from}
use Rattle.linear_reader.specs.Data.{drawn_values, is_drawn_alone}
use Rattle.linear_reader.proofs.full_ascii_data.byte_alone.Given as goal

abbrev pub invariant-loop-byte : goal.invariant-loop-byte
invariant-loop-byte l =
    first_from (λ byte. is_drawn_alone (drawn_values l.symbology byte) l.value) (128 - l.byte) l.byte
    ≡ first_from (λ byte. is_drawn_alone (drawn_values l.symbology byte) l.value) 128 0
