-- What may be asked for: a drawing, a reading or the demonstration.
use Rattle.std.specs.Prelude.{ℕ, List, map, Option, option_map}
use Rattle.bar_base.specs.declared.message.Append.{Append}
use Rattle.zint_settings.specs.declared.drawing_options.DrawingOptions.{DrawingOptions}
use Rattle.zint_settings.specs.declared.look.Look.{Look}
use Rattle.zint_settings.specs.declared.segment.Segment.{Segment}
use Rattle.zint_settings.specs.declared.set_place.SetPlace.{SetPlace}
use Rattle.zint_settings.specs.declared.settings.DrawingSettings.{DrawingSettings}
use Rattle.zint_settings.specs.declared.settings.Origin.{Origin}
use Rattle.zint_settings.specs.declared.settings.Origin.TheVariants as origin
use Rattle.zint_settings.specs.declared.settings.Settings.{Settings}
use Rattle.zint_settings.specs.declared.settings.TaskSettings.{TaskSettings}
use Rattle.zint_settings.specs.declared.settings.TaskSettings.TheVariants as settings

-- where the message, or the picture of a symbol, comes from: it is a text, or it is read from the input of a name
pub data MessageOrigin : Type 0 where
  from_text : List ℕ → MessageOrigin
  from_input : List ℕ → MessageOrigin

-- a segment behind the data: the ECI number of its character set, and its data
pub record SegmentText : Type 0 where
  pub eci : ℕ
  pub text : List ℕ

-- what is asked of a drawing
pub record DrawingRequest : Type 0 where
  pub options : DrawingOptions
  pub append : Option Append
  pub segments : List SegmentText

-- what is to be done: a drawing, a reading of what is looked for, or the demonstration of a number
pub data Task : Type 0 where
  drawing : DrawingRequest → Task
  reading : Look → Task
  demonstration : (number : ℕ) → Task

-- what is asked for: what is to be done, where its message or picture comes from, and the name of the file to write
pub record Request : Type 0 where
  pub origin : MessageOrigin
  pub output : Option (List ℕ)
  pub task : Task

-- The fact holds of the drawing, where a drawing is asked for.
abbrev pub OnDrawing : Task → (DrawingRequest → Type 0) → Type 0
OnDrawing (drawing request) Holds = Holds request
OnDrawing _ Holds = Unit {0}

-- The fact holds of what is looked for, where a reading is asked for.
abbrev pub OnReading : Task → (Look → Type 0) → Type 0
OnReading (reading look) Holds = Holds look
OnReading _ Holds = Unit {0}

-- The fact holds of the number, where the demonstration is asked for.
abbrev pub OnDemonstration : Task → (ℕ → Type 0) → Type 0
OnDemonstration (demonstration number) Holds = Holds number
OnDemonstration _ Holds = Unit {0}

-- where it comes from, as the settings of the code hold it
abbrev pub origin_in : Origin → MessageOrigin
origin_in (origin.Text t) = from_text t.now
origin_in (origin.Input name) = from_input name.now

-- a place in a structured append set, as the settings of the code hold it
abbrev pub append_in : SetPlace → Append
append_in place = record { index = place.index; count = place.count; id = place.id.now }

-- a segment, as the settings of the code hold it
abbrev pub segment_in : Segment → SegmentText
segment_in segment = record { eci = segment.eci; text = segment.text.now }

-- a drawing that is asked for, as the settings of the code hold it
abbrev pub drawing_in : DrawingSettings → DrawingRequest
drawing_in s = record {
  options = s.options;
  append = option_map append_in s.append;
  segments = map segment_in s.segments.items;
}

-- what is to be done, as the settings of the code hold it
abbrev pub task_in : TaskSettings → Task
task_in (settings.Drawing s) = drawing (drawing_in s)
task_in (settings.Reading s) = reading s.look
task_in (settings.Demonstration number) = demonstration number

-- what is asked for, as the settings of the code hold it
abbrev pub request_in : Settings → Request
request_in s = record { origin = origin_in s.origin; output = option_map (λ t. t.now) s.output; task = task_in s.task }
