-- What a clock tells of the readings that it gave.
use Rattle.std.specs.Prelude.{ℕ, ◌==◌, nat_lt, max, if◌then◌else◌}
use Rattle.ladr_io.specs.Streams.{counted}

-- how many readings a clock gave, the first, the last, and the greatest of those between these two
-- (each 0 where there is none)
pub record Times : Type 0 where
  pub count : ℕ
  pub first : ℕ
  pub last : ℕ
  pub between : ℕ

-- no reading was given
abbrev pub no_times : Times
no_times = record { count = 0; first = 0; last = 0; between = 0 }

-- one more reading
abbrev pub later : Times → ℕ → Times
later times now = record {
  count = counted times.count;
  first = if times.count == 0 then now else times.first;
  last = now;
  between = if nat_lt times.count 2 then 0 else max times.between times.last;
}
