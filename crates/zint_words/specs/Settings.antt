-- What is asked for, as a function of the values that the options were given.
use Rattle.std.specs.Prelude.{List, Option, Some, option_and_then, [], is_some, ◌||◌, if◌then◌else◌}
use Rattle.std.specs.List.{filter_map}
use Rattle.std.specs.Option.{option_map_or}
use Rattle.bar_base.specs.declared.message.Append.{Append}
use Rattle.clap.specs.Words.{Text}
use Rattle.zint_settings.specs.Settings.{DrawingRequest, MessageOrigin, Request, SegmentText, Task, demonstration, drawing, from_input, from_text, reading}
use Rattle.zint_settings.specs.declared.look.Frame.{Frame}
use Rattle.zint_settings.specs.declared.look.Frame.TheVariants.{Anywhere, Unknown, Whole}
use Rattle.zint_settings.specs.declared.look.Look.{Look}
use Rattle.zint_settings.specs.declared.look.Look.TheVariants.{Aztec, Row}
use Rattle.zint_settings.specs.declared.look.RowSymbology.{RowSymbology}
use Rattle.zint_words.specs.CommandLine.{Values}
use Rattle.zint_words.specs.Commas.{◌>>=◌, parts_at_comma}
use Rattle.zint_words.specs.DrawingOptions.{drawing_options_of, given_number, paint_of}
use Rattle.zint_words.specs.Numbers.{character_set_in, row_symbology_in}
use Rattle.zint_words.specs.SetPlace.{set_place_in}
use Rattle.zint_words.specs.declared.options.OptionName.{OptionName}
use Rattle.zint_words.specs.declared.options.OptionName.TheVariants.{Data, Demo, Erasures, Find, Input, Output, Read, Scan, Structapp}
use Rattle.zint_words.specs.declared.options.TheConstants.{SEGMENT_OPTIONS}

-- the text of `--data`, where it is given, else the input that `--input` names, and else nothing
unfoldable pub origin_of : Values → MessageOrigin
origin_of v = option_map_or from_text (v Data) (option_map_or from_input (v Input) (from_text []))

-- the place in a structured append set, where one is given
unfoldable pub append_of : Values → Option Append
append_of v = option_and_then set_place_in (v Structapp)

-- `ECI,DATA`: the ECI number of a character set, and all that stands behind the first comma
unfoldable pub segment_in_text : Text → Option SegmentText
segment_in_text t = do
  parts ← parts_at_comma t
  eci ← character_set_in parts.0
  Some (record { eci = eci; text = parts.1 })

-- the segment that an option was given
unfoldable pub segment_given : Values → OptionName → Option SegmentText
segment_given v n = option_and_then segment_in_text (v n)

-- the segments that are given, in the order of their options
unfoldable pub segments_of : Values → List SegmentText
segments_of v = filter_map (segment_given v) SEGMENT_OPTIONS.now

-- the drawing that is asked for, by the values of the options
unfoldable pub drawing_by : Values → DrawingRequest
drawing_by v = record { options = drawing_options_of v; append = append_of v; segments = segments_of v }

-- how the symbol stands in the image: anywhere in it, or with modules that may be unknown, or as the whole of it
unfoldable pub frame_of : Values → Frame
frame_of v = if is_some (v Find) then Anywhere
    else (if is_some (v Erasures) then Unknown (paint_of v) else Whole (paint_of v))

-- the symbology whose row is looked for, where one is
unfoldable pub row_of : Values → Option RowSymbology
row_of v = option_and_then row_symbology_in (v Scan)

-- what is looked for: a row of bars, or an Aztec symbol
unfoldable pub look_of : Values → Look
look_of v = option_map_or Row (row_of v) (Aztec (frame_of v))

-- the demonstration where `--demo` is given, a reading where `--read` or `--scan` is, and else a drawing
unfoldable pub task_by : Values → Task
task_by v = if is_some (v Demo) then demonstration (given_number v Demo 0)
    else (if is_some (v Read) || is_some (v Scan) then reading (look_of v) else drawing (drawing_by v))

-- what is asked for, by the values of the options
unfoldable pub request_by : Values → Request
request_by v = record { origin = origin_of v; output = v Output; task = task_by v }
