-- What is seen of a symbol, as the code holds it.
use Rattle.symbol_reader.specs.Sight.{Sight, known, sight_of}
use Rattle.zint_read.specs.declared.seen.Seen.{Seen}
use Rattle.zint_read.specs.declared.seen.Seen.TheVariants as seen

-- the picture, of which some modules may be unknown
abbrev pub sight_in : Seen → Sight
sight_in (seen.Known grid) = known grid
sight_in (seen.Marked unknown) = sight_of unknown
