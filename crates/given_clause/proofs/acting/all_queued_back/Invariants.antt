-- The clauses that are left, and those that are queued.
use Rattle.std.proofs.Common.{◌≡◌, ◌++◌, map}
use Rattle.given_clause.specs.Acting.{word_for}
use Rattle.given_clause.specs.States.{entry_of}
use Rattle.prover_steps.specs.Searching.{queued_back}
use Rattle.given_clause.proofs.acting.all_queued_back.Given as goal

abbrev pub invariant-loop-held : goal.invariant-loop-held
invariant-loop-held l = map (queued_back (word_for l.back)) l.gone.items ++ map entry_of l.queue.items ≡ map (queued_back (word_for l.back)) l.fn.gone.items

abbrev pub decreases-loop-held : goal.decreases-loop-held
decreases-loop-held l = l.gone.len
