-- The clauses before are processed; each leaves fewer.
use Rattle.std.proofs.Common.{◌≤◌}
use Rattle.given_clause.specs.Guides.{setting_of}
use Rattle.given_clause.specs.Noted.{AreNoted}
use Rattle.given_clause.specs.States.{state_of}
use Rattle.prover.proofs.Draining.{IsSettling}
use Rattle.prover.proofs.processing.settle.Given as goal
use Rattle.prover_steps.specs.Ending.{queue_left}

abbrev pub invariant-loop-search : goal.invariant-loop-search
invariant-loop-search l = record {
  settling : IsSettling (setting_of l.guide) (state_of l.fn.search) (state_of l.search);
  noted : AreNoted (setting_of l.guide) l.search.waiting;
  on : l.fn.search.tries ≤ l.search.tries;
}

abbrev pub decreases-loop-search : goal.decreases-loop-search
decreases-loop-search l = queue_left (setting_of l.guide) (state_of l.search)
