-- The conclusions that are left, and those that are queued.
use Rattle.std.proofs.Common.{◌≡◌, ◌++◌, map}
use Rattle.std.specs.List.{AllByRecursion}
use Rattle.given_clause.specs.States.{entry_of, IsQueuedWithin}
use Rattle.prover_steps.specs.Searching.{queued_for}
use Rattle.resolution.specs.View.{conclusion_of}
use Rattle.given_clause.proofs.giving.queued_all.Given as goal

abbrev pub invariant-loop-conclusion : goal.invariant-loop-conclusion
invariant-loop-conclusion l =
    (map queued_for (map conclusion_of l.new.items) ++ map entry_of l.queue.items ≡ map queued_for (map conclusion_of l.fn.new.items))
    × AllByRecursion IsQueuedWithin l.queue.items

abbrev pub decreases-loop-conclusion : goal.decreases-loop-conclusion
decreases-loop-conclusion l = l.new.len
