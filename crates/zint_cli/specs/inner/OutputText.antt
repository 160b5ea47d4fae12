-- The bytes of an output.
use Rattle.std.specs.Prelude.{ℕ, List, ◌++◌}
use Rattle.bar_base.specs.GridText.{grid_text}
use Rattle.bmp_io.specs.Bmp.{bmp_bytes}
use Rattle.vector_out.specs.Drawing.{eps_text, svg_text}
use Rattle.zint_cli.specs.declared.output.Output.{Output}
use Rattle.zint_cli.specs.declared.output.Output.TheVariants.{Lines, Report, Svg, Eps, Bmp}

-- lines alone, lines and the text of a grid, or a picture of it
abbrev pub output_text : Output → List ℕ
output_text (Lines lines) = lines.items
output_text (Report head grid) = head.items ++ grid_text grid
output_text (Svg painted) = svg_text painted.paint painted.grid
output_text (Eps painted) = eps_text painted.paint painted.grid
output_text (Bmp bitmap) = bmp_bytes bitmap.paint bitmap.grid
