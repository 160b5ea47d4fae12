-- What is known of what is asked for, since its settings hold it.
use Rattle.std.proofs.Common.{◌≡◌, true, List, [], ◌∷◌, Option, Some, None, map, option_map, All, refl, subst, arith}
use Rattle.std.specs.Option.{ForSome}
use Rattle.std.proofs.lemmas.List.Elements.{All-cons, All-nil}
use Rattle.std.specs.Prelude.{IfSome}
use Rattle.bar_base.specs.declared.message.Append.{Append}
use Rattle.zint_settings.specs.CharacterSets.{is_character_set}
use Rattle.zint_settings.specs.Looks.{IsLook}
use Rattle.zint_settings.specs.SetPlace.{IsSetPlace}
use Rattle.zint_settings.specs.Settings.{Task, append_in, drawing, drawing_in, demonstration, reading, segment_in, task_in}
use Rattle.zint_settings.specs.declared.segment.Segment.{Segment}
use Rattle.zint_settings.specs.declared.set_place.SetPlace.{SetPlace}
use Rattle.zint_settings.specs.declared.settings.DrawingSettings.{DrawingSettings}
use Rattle.zint_settings.specs.declared.settings.TaskSettings.{TaskSettings}
use Rattle.zint_settings.specs.declared.settings.TaskSettings.TheVariants as settings

placed : (place : Option SetPlace) (a : Append) → option_map append_in place ≡ Some a → IsSetPlace a.index a.count a.id
placed None a is = absurd (grind arith)
placed (Some place) a is =
    let same : append_in place ≡ a = cc in
    subst (λ (x : Append). IsSetPlace x.index x.count x.id) same place.placed

-- the place of a symbol is one in a structured append set
pub append_placed : (settings : DrawingSettings) → ForSome (drawing_in settings).append (λ a. IsSetPlace a.index a.count a.id)
append_placed settings = placed settings.append

each_known : (segments : List Segment) → All (λ segment. is_character_set segment.eci ≡ true) (map segment_in segments)
each_known [] = All-nil (λ segment. is_character_set segment.eci ≡ true)
each_known (segment ∷ segments) =
    All-cons (λ s. is_character_set s.eci ≡ true) (segment_in segment) (map segment_in segments) segment.known (each_known segments)

-- the character set of each segment is one of those that texts are encoded in
pub segments_known : (settings : DrawingSettings)
    → All (λ segment. is_character_set segment.eci ≡ true) (drawing_in settings).segments
segments_known settings = each_known settings.segments.items

-- A task is within the rules on values: the place of its symbol is one in a set, what is looked for is in range.
abbrev pub IsFit : Task → Type 0
IsFit (drawing request) = IfSome request.append (λ a. IsSetPlace a.index a.count a.id)
IsFit (reading look) = IsLook look
IsFit (demonstration number) = Unit {0}

placed_some : (append : Option Append) → ForSome append (λ a. IsSetPlace a.index a.count a.id) → IfSome append (λ a. IsSetPlace a.index a.count a.id)
placed_some None is_placed = tt
placed_some (Some a) is_placed = is_placed a refl

-- the task of settings is
pub task_fit : (task : TaskSettings) → IsFit (task_in task)
task_fit (settings.Drawing s) = placed_some (drawing_in s).append (append_placed s)
task_fit (settings.Reading s) = s.in_range
task_fit (settings.Demonstration number) = tt
