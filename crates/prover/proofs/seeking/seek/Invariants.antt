-- No proof was found since, and the clock is watched; each round leaves fewer clauses to be given.
use Rattle.std.proofs.Common.{◌≡◌, ◌≤◌}
use Rattle.given_clause.specs.Guides.{setting_of}
use Rattle.given_clause.specs.Noted.{AreNoted}
use Rattle.given_clause.specs.States.{state_of}
use Rattle.prover.proofs.Giving.{IsSoughtTo}
use Rattle.prover.proofs.seeking.seek.Given as goal
use Rattle.prover_steps.specs.Ending.{given_left}
use Rattle.search_clock.specs.Watching.{HasBegun, IsWatched}

abbrev pub invariant-loop-line : goal.invariant-loop-line
invariant-loop-line g l = record {
  sought : IsSoughtTo (setting_of l.guide) l.fn.watch.seconds (state_of l.fn.search) (state_of l.search) (g.C.Clock.times l.fn.clock) (g.C.Clock.times l.clock);
  noted : AreNoted (setting_of l.guide) l.search.waiting;
  on : l.fn.search.tries ≤ l.search.tries;
  seconds : l.watch.seconds ≡ l.fn.watch.seconds;
  watched : IsWatched l.watch (g.C.Clock.times l.clock);
  begun : HasBegun l.watch (g.C.Clock.times l.clock);
}

abbrev pub decreases-loop-line : goal.decreases-loop-line
decreases-loop-line g l = given_left (setting_of l.guide) (state_of l.search)
