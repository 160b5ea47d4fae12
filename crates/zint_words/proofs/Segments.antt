-- Taking the segments of the options in turn.
use Rattle.std.proofs.Common.{◌≡◌, ℕ, ◌+◌, ◌<◌, List, [], ◌∷◌, ◌++◌, length, map, take, get_or, Option, Some, None, option_map, ap, sym, ◌∙◌}
use Rattle.std.specs.List.{cons_option, filter_map}
use Rattle.std.proofs.lemmas.List.{append-nil, map_push, take_more}
use Rattle.std.proofs.lemmas.List.Elements.{filter_map-append}
use Rattle.zint_words.specs.CommandLine.{Values}
use Rattle.zint_settings.specs.Settings.{segment_in}
use Rattle.zint_words.specs.Settings.{segment_given}
use Rattle.zint_words.specs.declared.options.OptionName.{OptionName}
use Rattle.zint_settings.specs.declared.segment.Segment.{Segment}

-- what one item more of the list gives
pub one_more : {X Y : Type 0} (h : X → Option Y) (xs : List X) (i : ℕ) (d : X) → i < length xs
    → filter_map h (take (i + 1) xs) ≡ filter_map h (take i xs) ++ cons_option (h (get_or xs i d)) []
one_more h xs i d below = ap (filter_map h) (take_more xs i d below) ∙ filter_map-append h (take i xs) (get_or xs i d ∷ [])

-- an option that was given none adds none
pub without : (v : Values) (options : List OptionName) (i : ℕ) (d : OptionName) (old : List Segment) (given : Option Segment)
    → i < length options → map segment_in old ≡ filter_map (segment_given v) (take i options)
    → option_map segment_in given ≡ segment_given v (get_or options i d) → given ≡ None
    → map segment_in old ≡ filter_map (segment_given v) (take (i + 1) options)
without v options i d old given below so_far by_value none =
    let nothing : segment_given v (get_or options i d) ≡ None = sym by_value ∙ ap (option_map segment_in) none in
    let more = one_more (segment_given v) options i d below ∙ ap (λ o. filter_map (segment_given v) (take i options) ++ cons_option o []) nothing in
    so_far ∙ sym (more ∙ append-nil _)

-- an option that was given one adds it
pub with : (v : Values) (options : List OptionName) (i : ℕ) (d : OptionName) (old new : List Segment) (given : Option Segment) (segment : Segment)
    → i < length options → map segment_in old ≡ filter_map (segment_given v) (take i options)
    → option_map segment_in given ≡ segment_given v (get_or options i d) → given ≡ Some segment → new ≡ old ++ segment ∷ []
    → map segment_in new ≡ filter_map (segment_given v) (take (i + 1) options)
with v options i d old new given segment below so_far by_value is pushed =
    let one : segment_given v (get_or options i d) ≡ Some (segment_in segment) = sym by_value ∙ ap (option_map segment_in) is in
    let more = one_more (segment_given v) options i d below ∙ ap (λ o. filter_map (segment_given v) (take i options) ++ cons_option o []) one in
    ap (map segment_in) pushed ∙ map_push segment_in old segment ∙ ap (λ xs. xs ++ segment_in segment ∷ []) so_far ∙ sym more
