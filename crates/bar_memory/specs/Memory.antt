-- What the objects in memory do: which of their calls fail, and what each call leaves.
use Rattle.std.specs.Prelude.{ℕ, Bool, List, ◌+◌, ◌++◌, ◌==◌, ◌||◌, drop, length, nat_lt, if◌then◌else◌}
use Rattle.std.specs.List.{list_any}
use Rattle.bar_base.specs.Faults.{one_more}

-- The numbers of the calls that are to fail, counted from 1, and how many calls were made; that count stays at its last value.
pub record Calls : Type 0 where
  pub failing : List ℕ
  pub made : ℕ

-- whether the next call is to fail
abbrev pub next_fails : Calls → Bool
next_fails calls = list_any (λ number. number == calls.made + 1) calls.failing

-- the calls with one more made
abbrev pub one_call_more : Calls → Calls
one_call_more calls = record calls { made = one_more calls.made }

-- a sink in memory: the bytes held, the greatest number of them, the calls, and the count of faults
pub record SinkValue : Type 0 where
  pub bytes : List ℕ
  pub room : ℕ
  pub calls : Calls
  pub faults : ℕ

-- A write fails where its call is to fail and where the piece is longer than the room that is left.
abbrev pub write_fails : SinkValue → (piece : List ℕ) → Bool
write_fails sink piece = next_fails sink.calls || nat_lt sink.room (length sink.bytes + length piece)

-- A write that doesn't fail takes the whole piece; one that fails counts a fault.
abbrev pub after_write : SinkValue → (piece : List ℕ) → SinkValue
after_write sink piece =
    if write_fails sink piece then record sink { calls = one_call_more sink.calls; faults = one_more sink.faults }
    else record sink { calls = one_call_more sink.calls; bytes = sink.bytes ++ piece }

-- a source in memory: the bytes that are left, the calls, and the count of faults
pub record SourceValue : Type 0 where
  pub left : List ℕ
  pub calls : Calls
  pub faults : ℕ

-- A read into a place for so many bytes takes as many as fit; one that fails takes none and counts a fault.
abbrev pub after_read : SourceValue → (space : ℕ) → SourceValue
after_read source space =
    if next_fails source.calls then record source { calls = one_call_more source.calls; faults = one_more source.faults }
    else record source { calls = one_call_more source.calls; left = drop space source.left }
