-- Whether a clock's readings are early enough.
use Rattle.std.specs.Prelude.{◌≡◌, ℕ, ◌<◌, ◌≤◌, Option, None, Some}
use Rattle.ladr_io.specs.Times.{Times}

-- Where there is a stop the clock gave its first reading, and each later one was before the stop.
abbrev pub IsEarly : Option ℕ → Times → Type 0
IsEarly None t = Unit {0}
IsEarly (Some stop) t = (0 < t.count) × (1 < t.count → (t.last < stop) × (t.between < stop))

-- There is a stop, and of the readings behind the first the last one alone reached it.
abbrev pub IsLate : Option ℕ → Times → ℕ → Type 0
IsLate None t last = ⊥
IsLate (Some stop) t last =
    (1 < t.count) × (2 < t.count → t.between < stop) × (stop ≤ t.last) × (last ≡ t.last)
