use Rattle.std.proofs.Common.{ap, ◌∙◌, List, map, take_all, arith}
use Rattle.std.specs.List.{filter_map}
use Rattle.zint_words.specs.GivenValues.{values_of}
use Rattle.zint_settings.specs.Settings.{segment_in}
use Rattle.zint_words.specs.Settings.{segment_given, segments_of}
use Rattle.zint_words.specs.declared.options.OptionName.{OptionName}
use Rattle.zint_words.specs.declared.options.TheConstants.{SEGMENT_OPTIONS}
use Rattle.zint_words.proofs.Segments.{with, without}
use Rattle.zint_words.proofs.reading.segments_of.Goals as goal
use Rattle.zint_words.proofs.reading.segments_of.Goals.{in-Some+in_ok-push-in-Some, in-None}

pub loop-option-preserved : goal.loop-option-preserved
loop-option-preserved c = elim c.match-segment_given.branch [
  | in-Some+in_ok-push-in-Some w ↦ with (values_of c.args.given.now) SEGMENT_OPTIONS.now c.loop-option.option-index _ _ _ _ w.in-Some.segment
      (omega arith) c.loop-option.invariant c.segment_given.ensures w.in-Some.is
      (ap (λ segments. segments.items) w.segments-is ∙ w.in_ok-push-in-Some.ensures.items)
  | in-None w ↦ ap (λ segments. map segment_in segments.items) w.segments-is
      ∙ without (values_of c.args.given.now) SEGMENT_OPTIONS.now c.loop-option.option-index _ _ _
      (omega arith) c.loop-option.invariant c.segment_given.ensures w.in-None.is
]

pub returns : goal.returns
unfolding segments_of
returns c = c.loop-option.invariant ∙ ap (λ (xs : List OptionName). filter_map (segment_given (values_of c.args.given.now)) xs) (take_all c.loop-option.option-index SEGMENT_OPTIONS.now c.loop-option-test.false)
