-- What the streams and the clock over memory are, and what a call makes of them.
use Rattle.std.specs.Prelude.{ℕ, ◌-◌, min, Bool, true, false, ◌&&◌, ◌||◌, ◌==◌, nat_lt, Some, List, ◌++◌, take, drop, length, slice_index, Contains, Result, Ok, Err}
use Rattle.ladr_io.specs.declared.streams.Failed.{Failed}
use Rattle.ladr_io.specs.Streams.{counted, Inflow, Outflow}
use Rattle.ladr_io.specs.Times.{Times}

-- the numbers of the calls that are to fail (the first call has number 1), how many calls were
-- made, how many failed, and whether no more is to be asked
pub record CallsState : Type 0 where
  pub fails : List ℕ
  pub made : ℕ
  pub faults : ℕ
  pub over : Bool

-- no call was made yet
abbrev pub no_calls : List ℕ → CallsState
no_calls fails = record { fails = fails; made = 0; faults = 0; over = false }

-- the next call is to fail
abbrev pub IsToFail : CallsState → Type 0
IsToFail calls = Contains calls.fails (counted calls.made)

-- one more call
abbrev pub after_call : {T : Type 0} → CallsState → Result T Failed → CallsState
after_call calls (Ok _) = record calls { made = counted calls.made }
after_call calls (Err _) =
    record calls { made = counted calls.made; faults = counted calls.faults; over = true }

-- a source over memory: the bytes left, how many a call gives at most, and its calls
pub record SourceState : Type 0 where
  pub left : List ℕ
  pub piece : ℕ
  pub calls : CallsState

-- what contracts know of it
abbrev pub inflow_of : SourceState → Inflow
inflow_of source =
    record { left = Some source.left; faults = source.calls.faults; over = source.calls.over }

-- the calls behind a read of so many bytes into a buffer of this length, where none tells the end
abbrev pub with_end : CallsState → ℕ → ℕ → CallsState
with_end calls length n = record calls { over = calls.over || (n == 0 && nat_lt 0 length) }

-- the source after a call of `read` with a buffer of this length
abbrev pub after_read : SourceState → ℕ → Result ℕ Failed → SourceState
after_read source length (Ok n) =
    record source
    { left = drop n source.left; calls = with_end (after_call source.calls (Ok n)) length n }
after_read source length (Err e) = record source { calls = after_call {T = ℕ} source.calls (Err e) }

-- a sink over memory: the bytes held, how many a call takes at most, and its calls
pub record SinkState : Type 0 where
  pub held : List ℕ
  pub piece : ℕ
  pub calls : CallsState

-- what contracts know of it
abbrev pub outflow_of : SinkState → Outflow
outflow_of sink =
    record { held = Some sink.held; faults = sink.calls.faults; over = sink.calls.over }

-- the sink after a call of `write` with these bytes
abbrev pub after_write : SinkState → List ℕ → Result ℕ Failed → SinkState
after_write sink bytes (Ok n) =
    record sink { held = sink.held ++ take n bytes; calls = after_call sink.calls (Ok n) }
after_write sink bytes (Err e) = record sink { calls = after_call {T = ℕ} sink.calls (Err e) }

-- a clock over memory: its list of readings, and those that it gave
pub record ClockState : Type 0 where
  pub readings : List ℕ
  pub times : Times

-- the reading after so many: the last one of the list repeats, and an empty list reads 0
abbrev pub reading_after : List ℕ → ℕ → ℕ
reading_after readings count = slice_index readings (min count (length readings - 1))
