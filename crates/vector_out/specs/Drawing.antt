-- The text of a drawing, as SVG (W3C, Scalable Vector Graphics) and as EPS (Adobe, Encapsulated PostScript File Format).
use Rattle.std.specs.Prelude.{◌≡◌, ◌≤◌, ℕ, List, [], ◌++◌, ◌+◌, ◌-◌, codes, decimal, if◌then◌else◌}
use Rattle.std.specs.List.{flat_map}
use Rattle.bar_base.specs.Paint.{painted_width, painted_height}
use Rattle.bar_base.specs.Picture.{Picture, row_of}
use Rattle.bar_base.specs.declared.paint.Paint.{Paint}
use Rattle.vector_out.specs.Runs.{begins_run, rectangle_of, row_rectangles, dark_rectangles}
use Rattle.vector_out.specs.declared.runs.Rectangle.{Rectangle}
use Rattle.vector_out.specs.declared.form.Form.{Form}
use Rattle.vector_out.specs.declared.form.Form.TheVariants.{Svg, Eps}
use Rattle.vector_out.specs.declared.texts.TheConstants.{SVG_FRONT, SVG_WHITE, SVG_BLACK, SVG_END, EPS_FRONT, EPS_WHITE, EPS_BLACK, EPS_END}

-- The lines of an SVG before its dark rectangles (SVG, the svg element): the size of the drawing, and a white rectangle under all.
unfoldable pub svg_head : (width height : ℕ) → List ℕ
svg_head width height =
    SVG_FRONT ++ decimal width ++ codes "\" height=\"" ++ decimal height ++ codes "\" viewBox=\"0 0 " ++ decimal width ++ codes " " ++ decimal height
    ++ codes "\">\n<rect x=\"0\" y=\"0\" width=\"" ++ decimal width ++ codes "\" height=\"" ++ decimal height ++ SVG_WHITE

-- the line of an SVG for a dark rectangle (SVG, the rect element)
unfoldable pub svg_rectangle : Rectangle → List ℕ
svg_rectangle rectangle =
    codes "<rect x=\"" ++ decimal rectangle.left ++ codes "\" y=\"" ++ decimal rectangle.top
    ++ codes "\" width=\"" ++ decimal rectangle.width ++ codes "\" height=\"" ++ decimal rectangle.height ++ SVG_BLACK

-- The lines of an EPS before its dark rectangles (EPS, bounding box): the size of the drawing, white over all, and black from there on.
unfoldable pub eps_head : (width height : ℕ) → List ℕ
eps_head width height =
    EPS_FRONT ++ decimal width ++ codes " " ++ decimal height ++ EPS_WHITE ++ decimal width ++ codes " " ++ decimal height ++ EPS_BLACK

-- The line of an EPS of this height for a dark rectangle (PostScript, rectfill): its bottom is counted from that of the drawing.
unfoldable pub eps_rectangle : (height : ℕ) → Rectangle → List ℕ
eps_rectangle height rectangle =
    decimal rectangle.left ++ codes " " ++ decimal (height - rectangle.top - rectangle.height) ++ codes " " ++ decimal rectangle.width
    ++ codes " " ++ decimal rectangle.height ++ codes " rectfill\n"

-- the line for a dark rectangle
abbrev pub rectangle_line : Form → Rectangle → List ℕ
rectangle_line Svg rectangle = svg_rectangle rectangle
rectangle_line (Eps height) rectangle = eps_rectangle height rectangle

-- The form of a drawing of this picture: that of an EPS has the painted height.
abbrev pub IsFormOf : Form → Paint → Picture → Type 0
IsFormOf Svg paint picture = Unit {0}
IsFormOf (Eps height) paint picture = height ≡ painted_height paint picture

-- A rectangle that ends above the bottom of an EPS, or at it; an SVG is as high as it takes.
abbrev pub EndsInside : Form → Rectangle → Type 0
EndsInside Svg rectangle = Unit {0}
EndsInside (Eps height) rectangle = rectangle.top + rectangle.height ≤ height

-- the line for the dark run that begins in column x of row y, if one does
unfoldable pub run_line : Form → Paint → Picture → (y x : ℕ) → List ℕ
run_line form paint picture y x = if begins_run (row_of picture y) x then rectangle_line form (rectangle_of paint picture y x) else []

-- the lines of the dark runs of a row
unfoldable pub row_lines : Form → Paint → Picture → (y : ℕ) → List ℕ
row_lines form paint picture y = flat_map (rectangle_line form) (row_rectangles paint picture y)

-- the lines of all dark runs
unfoldable pub rectangle_lines : Form → Paint → Picture → List ℕ
rectangle_lines form paint picture = flat_map (rectangle_line form) (dark_rectangles paint picture)

-- the text of the SVG
unfoldable pub svg_text : Paint → Picture → List ℕ
svg_text paint picture = svg_head (painted_width paint picture) (painted_height paint picture) ++ rectangle_lines Svg paint picture ++ SVG_END

-- the text of the EPS
unfoldable pub eps_text : Paint → Picture → List ℕ
eps_text paint picture =
    eps_head (painted_width paint picture) (painted_height paint picture) ++ rectangle_lines (Eps (painted_height paint picture)) paint picture ++ EPS_END
