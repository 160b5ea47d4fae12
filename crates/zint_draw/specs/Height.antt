-- How high symbols are.
use Rattle.std.specs.Prelude.{ℕ, ◌≤◌}
use Rattle.bar_base.specs.Paint.{modules_high}
use Rattle.zint_draw.specs.declared.symbologies.Symbol.{Symbol}
use Rattle.zint_draw.specs.symbologies.{grid_of}

-- A symbol has at most 200 modules from top to bottom, where a row of bars is given at most 200.
abbrev pub IsLowSymbol : Symbol → Type 0
IsLowSymbol symbol = (height : ℕ) → height ≤ 200 → modules_high (grid_of height symbol) ≤ 200
