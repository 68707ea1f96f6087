-- the sizes so far ended, and the clock is watched
use Rattle.std.proofs.Common.{◌≡◌, ◌+◌, ◌-◌, ◌<◌, ◌≤◌, List, false}
use Rattle.ladr_mace4.proofs.Ended.{Ended}
use Rattle.ladr_mace4.specs.Story.{Size}
use Rattle.search_clock.specs.Watching.{IsWatched}
use Rattle.ladr_mace4.proofs.sizes.search_sizes.Given as goal

abbrev pub invariant-loop-n : goal.invariant-loop-n
invariant-loop-n g l = record {
  so_far : (sizes : List Size) × Ended l.asked l.plan (g.C.Clock.times l.clock) l.n sizes l.printed (g.K.Sink.outflow l.fn.sink) (g.K.Sink.outflow l.sink);
  fewer : l.printed < l.plan.wanted;
  from : 1 ≤ l.n;
  seconds : l.watch.seconds ≡ l.plan.seconds;
  watched : IsWatched l.watch (g.C.Clock.times l.clock);
  writes : (g.K.Sink.outflow l.sink).over ≡ false;
}

abbrev pub decreases-loop-n : goal.decreases-loop-n
decreases-loop-n g l = l.plan.end + 1 - l.n
