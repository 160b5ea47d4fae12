use Rattle.std.proofs.Common.{◌≡◌, ◌+◌, drop}
use Rattle.linear_reader.specs.Data.{spelled_from, with_more}
use Rattle.linear_reader.proofs.code128_data.spelled_from.Given as goal

abbrev pub invariant-loop-place : goal.invariant-loop-place
invariant-loop-place l = with_more l.elements (spelled_from (1 + l.place) l.state (drop l.place l.values)) ≡ spelled_from 1 l.initial.state l.values
