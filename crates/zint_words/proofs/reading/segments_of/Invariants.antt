use Rattle.std.proofs.Common.{◌≡◌, map, take}
use Rattle.std.specs.List.{filter_map}
use Rattle.zint_words.specs.GivenValues.{values_of}
use Rattle.zint_settings.specs.Settings.{segment_in}
use Rattle.zint_words.specs.Settings.{segment_given}
use Rattle.zint_words.proofs.reading.segments_of.Given as goal

-- the segments of the options so far
abbrev pub invariant-loop-option : goal.invariant-loop-option
invariant-loop-option l =
    map segment_in l.segments.items ≡ filter_map (segment_given (values_of l.given)) (take l.option-index l.option-items)
