-- The values of the options, as the code keeps them.
use Rattle.clap.specs.Words.{found_of, rows_of}
use Rattle.zint_words.specs.CommandLine.{Values, values_in}
use Rattle.zint_words.specs.declared.given.Given.{Given}

-- The values of the options, by the matches that the code keeps.
unfoldable pub values_of : Given → Values
values_of g = values_in (rows_of (found_of g.matches))
