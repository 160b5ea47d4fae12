use Rattle.std.proofs.Common.{ℕ, ◌<◌, [], ◌∷◌, refl, arith}
use Rattle.std.proofs.lemmas.List.Elements.{All-nil, All-cons}
use Rattle.aztec_modes.specs.declared.mode.Mode.TheVariants.{Upper, Mixed, Punct}
use Rattle.aztec_modes.specs.Codes.{table_symbol, code_table}
use Rattle.aztec_modes.specs.Entry.{bytes_as_elements}
use Rattle.aztec_modes.proofs.Forms.{direct, shifted}
use Rattle.aztec_modes.specs.Spelling.{nothing}
use Rattle.aztec_modes.proofs.Paths.{by_byte, by_pair, by_latch, by_fnc1, by_eci, by_short_run, path_moved}
use Rattle.test_aztec.proofs.spellings.spells_eci_fnc1_a_pair_and_a_run.Goals as goal

pub spell-requires : goal.spell-requires
unfolding table_symbol code_table bytes_as_elements
spell-requires g c =
    path_moved c.in_ok-path.ensures c.in_ok-elements.ensures (
      _,
      by_eci Upper 26 2 (shifted 0 0 refl refl) (omega arith) (omega arith) (omega arith) (by_latch Upper Mixed 29 refl (by_byte Mixed 20 64 refl
          (by_latch Mixed Punct 30 refl (by_pair Punct 3 46 32 refl (by_fnc1 Punct (direct 0 refl) (by_latch Punct Upper 31 refl
          (by_short_run Upper 31 2 (128 ∷ 255 ∷ []) refl refl (omega arith) (omega arith)
          (All-cons (λ (b : ℕ). b < 256) 128 (255 ∷ []) (omega arith) (All-cons (λ (b : ℕ). b < 256) 255 [] (omega arith) (All-nil (λ (b : ℕ). b < 256))))
          nothing))))))),
    )
