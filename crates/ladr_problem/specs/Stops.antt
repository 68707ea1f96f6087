-- The refusals of files, as the code has them before places are told.
use Rattle.std.specs.Prelude.{ℕ, List}
use Rattle.ladr_lex.specs.Cuts.{Piece}
use Rattle.ladr_problem.specs.File.{Outcome, unreadable, misused, too_large, start_at}
use Rattle.ladr_problem.specs.declared.refusal.Refusal.{Refusal}
use Rattle.ladr_problem.specs.declared.refusal.Refusal.TheVariants as refusal
use Rattle.ladr_problem.specs.declared.stop.RefusalAt.{RefusalAt}
use Rattle.ladr_problem.specs.declared.stop.RefusalAt.TheVariants.{Unreadable, Misuse, TooLarge, Memory}

-- the file says so; nothing is said of memory
abbrev pub IsStop : (Outcome → Type 0) → RefusalAt → Type 0
IsStop says (Unreadable byte) = says (unreadable byte)
IsStop says (Misuse byte row) = says (misused byte row)
IsStop says (TooLarge byte what) = says (too_large byte what)
IsStop says Memory = Unit {0}

-- the refusal of an item with its place
abbrev pub by_refusal : ℕ → List Piece → Refusal → RefusalAt
by_refusal end ts (refusal.Bad k) = Unreadable (start_at end ts k)
by_refusal end ts (refusal.Large what) = TooLarge (start_at end ts 0) what
by_refusal end ts (refusal.Misused row) = Misuse (start_at end ts 0) row
by_refusal end ts refusal.Memory = Memory
