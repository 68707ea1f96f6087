-- The clauses of two sets.
use Rattle.std.specs.Prelude.{List}
use Rattle.clause_index.specs.declared.held_set.HeldSets.{HeldSets}
use Rattle.prover_steps.specs.Clashing.{Held}
use Rattle.prover_steps.specs.Searching.{put_all_in}

-- those that wait and those in use, by their numbers
abbrev pub all_in : HeldSets → List Held
all_in s = put_all_in s.waiting.now s.usable.now
