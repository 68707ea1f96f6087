-- What a source gave as the input of a run.
use Rattle.std.specs.Prelude.{◌≡◌, ℕ, ◌+◌, ◌≤◌, List, length, ◌⊎◌}
use Rattle.ladr_io.specs.Streams.{Inflow, Gives, GivesAll, FailsBehind}
use Rattle.ladr_lex.specs.declared.limits.TheConstants.{MOST_BYTES}

-- the source gave these bytes, and then it failed or it didn't
abbrev pub AreTaken : Inflow → Inflow → List ℕ → Type 0
AreTaken old new bytes = Gives old new bytes ⊎ FailsBehind old new bytes

-- all of the input was read, and it isn't too large
abbrev pub IsAllRead : Inflow → Inflow → List ℕ → Type 0
IsAllRead old new bytes = GivesAll old new bytes × (length bytes ≤ MOST_BYTES)

-- one byte too many was read
abbrev pub IsTooLong : Inflow → Inflow → List ℕ → Type 0
IsTooLong old new bytes = Gives old new bytes × (length bytes ≡ MOST_BYTES + 1)

-- a read failed before the input was too large
abbrev pub IsFailed : Inflow → Inflow → List ℕ → Type 0
IsFailed old new bytes = FailsBehind old new bytes × (length bytes ≤ MOST_BYTES)
