-- What a call may answer, step by step in the order of the refusals.
use Rattle.std.specs.Prelude.{◌≡◌, ◌++◌, ℕ, List, Option, Ok, Err, string_bytes}
use Rattle.bar_base.specs.Files.{FilesState}
use Rattle.bar_base.specs.GridText.{grid_text}
use Rattle.bar_base.specs.Limits.{most_bytes}
use Rattle.bar_base.specs.Picture.{Picture}
use Rattle.bar_base.specs.declared.paint.Paint.{Paint}
use Rattle.bmp_io.specs.Bmp.{bmp_bytes}
use Rattle.vector_out.specs.Drawing.{eps_text, svg_text}
use Rattle.bar_base.specs.Steps.{Step, ◌>>=◌, only}
use Rattle.zint_answers.specs.declared.refusal.Refusal.TheVariants.{Usage, BadOption}
use Rattle.zint_words.specs.Outcome.{Outcome, usage, bad_option, settings}
use Rattle.zint_settings.specs.Settings.{DrawingRequest, Request, Task, demonstration, drawing, reading}
use Rattle.zint_settings.specs.declared.drawing_options.DrawingOptions.{DrawingOptions}
use Rattle.zint_settings.specs.declared.form.Form.{Form}
use Rattle.zint_settings.specs.declared.form.Form.TheVariants.{Svg, Eps, Bmp, Grid, Report}
use Rattle.zint_demo.specs.Demonstration.{demonstrates}
use Rattle.zint_draw.specs.Drawing.{draws}
use Rattle.zint_draw.specs.declared.symbologies.Symbol.{Symbol}
use Rattle.zint_draw.specs.symbologies.{grid_of, head_of}
use Rattle.zint_read.specs.readers as readers
use Rattle.zint_cli.specs.Content.{Content, content_of, raw_of}
use Rattle.zint_answers.specs.declared.refusal.Refusal.{Refusal}

-- the bytes of a grid in a form; `head` are the lines of the report before it
abbrev pub form_text : Form → Paint → (head : List ℕ) → Picture → List ℕ
form_text Svg paint head grid = svg_text paint grid
form_text Eps paint head grid = eps_text paint grid
form_text Bmp paint head grid = bmp_bytes paint grid
form_text Grid paint head grid = grid_text grid
form_text Report paint head grid = head ++ grid_text grid

-- the bytes of a symbol, by the options: its form, its paint, the height of a row of bars
abbrev pub text_in : DrawingOptions → Symbol → List ℕ
text_in options symbol = form_text options.form options.paint (head_of symbol) (grid_of options.height symbol)

-- the request that the words make, or why they make none
abbrev pub asked : Outcome → Step Request Refusal
asked outcome (Ok request) = outcome ≡ settings request
asked outcome (Err Usage) = outcome ≡ usage
asked outcome (Err (BadOption text)) = outcome ≡ bad_option (string_bytes text)
asked outcome (Err _) = ⊥

-- the text of the symbol that is drawn of bytes
unfoldable pub drawn_text : DrawingRequest → (raw : List ℕ) → Step (List ℕ) Refusal
drawn_text request raw = do
  symbol ← draws request raw
  only (Ok (text_in request.options symbol))

-- the lines and the grid of the demonstration of a number
unfoldable pub demonstration_lines : (number : ℕ) → Step (List ℕ) Refusal
demonstration_lines number = do
  shown ← demonstrates number
  only (Ok (shown.lines.items ++ grid_text shown.grid))

-- the text that a task gives of bytes: a drawing of them, the report of what is read in them; a demonstration needs none
abbrev pub answers : Task → (raw : List ℕ) → Step (List ℕ) Refusal
answers (drawing request) raw answer = drawn_text request raw answer
answers (reading look) raw answer = readers.reads look raw answer
answers (demonstration number) raw answer = demonstration_lines number answer

-- the most bytes of a content that begins with `BM`: of a picture, where one is read
abbrev pub picture_limit : Task → ℕ
picture_limit (reading look) = readers.picture_limit look
picture_limit _ = most_bytes

-- the text that a task gives of a content
unfoldable pub responds : Task → Content → Step (List ℕ) Refusal
responds task content = do
  raw ← raw_of (picture_limit task) content
  answers task raw

-- the text that a call writes, by what comes of its words, what standard input has left, and the files
unfoldable pub called : Outcome → (left : Option (List ℕ)) → (files : Option FilesState) → Step (List ℕ) Refusal
called outcome left files = do
  request ← asked outcome
  responds request.task (content_of request.origin left files)
