-- The forms of the output: the name of each, and the ending of the files that are of it.
use Rattle.std.specs.Prelude.{ℕ, Bool, false, List, [], find, Option, None, map, nat_eq, option_map, slice_index_or, unwrap_or}
use Rattle.std.specs.List.{ends_with, list_any}
use Rattle.std.specs.Option.{option_map_or}
use Rattle.std.specs.Str.{bytes_eq}
use denote.Enum.Declared.{tag_of}
use Rattle.zint_settings.specs.contracts.form.Form.{the_type}
use Rattle.zint_settings.specs.declared.form.Form.{Form}
use Rattle.zint_settings.specs.declared.form.Form.TheVariants.{Svg, Grid}
use Rattle.zint_settings.specs.declared.form.TheConstants.{FORMS, FORM_ROWS, LEFT_OUT}

-- a row of the table: a form, the name that `--filetype` takes, and the ending of its files, where they have one
pub record FormRow : Type 0 where
  pub form : Form
  pub name : List ℕ
  pub ending : Option (List ℕ)

-- the rows of the table, one for each form in the order of their variants
abbrev pub form_rows : List FormRow
form_rows = map (λ row. record {
  form = row.0;
  name = row.1.now;
  ending = option_map (λ e. e.now) row.2;
}) FORM_ROWS.now

-- the row of a form
unfoldable pub form_row : Form → FormRow
form_row f = slice_index_or form_rows (tag_of the_type f)
    (record { form = Svg; name = []; ending = None })

-- the name that `--filetype` takes
unfoldable pub form_name : Form → List ℕ
form_name f = (form_row f).name

-- the form with the name
unfoldable pub form_in : List ℕ → Option Form
form_in t = find (λ form. bytes_eq (form_name form) t) FORMS.now

-- the name ends in the text
unfoldable pub ends_in : List ℕ → List ℕ → Bool
ends_in ending name = ends_with nat_eq name ending

-- the file's name ends as files of the form do
unfoldable pub is_asked_by : Form → List ℕ → Bool
is_asked_by form name = option_map_or (λ ending. ends_in ending name) (form_row form).ending false

-- the form that a file's name asks for by its ending, where it asks for one
abbrev pub form_ending : List ℕ → Option Form
form_ending name = find (λ form. is_asked_by form name) FORMS.now

-- the form that a file's name asks for by its ending, and the grid where it asks for no other
unfoldable pub form_by_ending : List ℕ → Form
form_by_ending name = unwrap_or (form_ending name) Grid

-- the name ends as files of a form do that is left out
unfoldable pub has_left_out_ending : List ℕ → Bool
has_left_out_ending name = list_any (λ ending. ends_in ending.now name) LEFT_OUT
