-- From a text to the values of a symbol's characters, and when a text is refused.
use Rattle.std.specs.Prelude.{◌==◌, ℕ, List, Option, Some, None, Result, Ok, Err, length, position, nat_lt, if◌then◌else◌}
use Rattle.std.specs.List.{flat_map}
use Rattle.bar_base.specs.Results.{◌>>=◌}
use Rattle.bar_base.specs.declared.linear.LinearFault.{LinearFault}
use Rattle.bar_base.specs.declared.linear.LinearFault.TheVariants.{NoMemory, BadCharacter, TooLong, BadCheck}

-- The refusals among the faults of a text: all but want of memory.
abbrev pub refusal_of : LinearFault → Option LinearFault
refusal_of NoMemory = None
refusal_of (BadCharacter place) = Some (BadCharacter place)
refusal_of TooLong = Some TooLong
refusal_of (BadCheck place given wanted) = Some (BadCheck place given wanted)

-- The text, where each byte has values; else refused at the first byte that has none.
abbrev pub refused_at : Option ℕ → List ℕ → Result (List ℕ) LinearFault
refused_at None text = Ok text
refused_at (Some place) text = Err (BadCharacter place)

-- The text, where it has at most so many bytes.
abbrev pub of_at_most : ℕ → List ℕ → Result (List ℕ) LinearFault
of_at_most most text = if nat_lt most (length text) then Err TooLong else Ok text

-- The values of a text, where `values` gives those of a byte and a symbol takes at most so many bytes.
unfoldable pub values_of_text : (values : ℕ → List ℕ) → (most : ℕ) → (text : List ℕ) → Result (List ℕ) LinearFault
values_of_text values most text = do
  known ← refused_at (position (λ byte. length (values byte) == 0) text) text
  short ← of_at_most most known
  Ok (flat_map values short)
