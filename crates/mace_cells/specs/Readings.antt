-- What a clock gave while a search went on.
use Rattle.std.specs.Prelude.{◌≡◌, ℕ, ◌+◌, min, Option, None, Some}
use Rattle.ladr_io.specs.Streams.{greatest}
use Rattle.ladr_io.specs.Times.{Times}

-- the clock gave no reading where there is no stop; else its first reading stands, and it gave just
-- so many more, as far as its count can tell
abbrev pub ReadsOn : Option ℕ → ℕ → Times → Times → Type 0
ReadsOn None more t t' = t' ≡ t
ReadsOn (Some stop) more t t' =
    (t'.first ≡ t.first) × (min t'.count greatest ≡ min (t.count + more) greatest)
