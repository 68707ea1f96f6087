-- the models so far are printed, and the clock was early and is read on
use Rattle.std.proofs.Common.{◌≡◌, ◌-◌, ◌≤◌, List, false}
use Rattle.ladr_mace4.proofs.Found.{SoFar, HasGone}
use Rattle.search_clock.specs.Watching.{time_to_stop}
use Rattle.ladr_io.specs.Watch.{IsEarly}
use Rattle.model_tables.specs.Tables.{Finite}
use Rattle.ladr_mace4.proofs.models.models.Given as goal

abbrev pub invariant-loop-printed : goal.invariant-loop-printed
invariant-loop-printed g l = record {
  so_far : (us : List Finite)
      × (SoFar l.asked l.plan l.n l.k us l.search l.printed (g.K.Sink.outflow l.fn.sink) (g.K.Sink.outflow l.sink) × HasGone l.asked l.plan l.n us l.search (g.C.Clock.times l.fn.clock) (g.C.Clock.times l.clock));
  stop : l.search.stop ≡ time_to_stop l.watch.seconds (g.C.Clock.times l.fn.clock);
  early : IsEarly l.search.stop (g.C.Clock.times l.clock);
  writes : (g.K.Sink.outflow l.sink).over ≡ false;
  fewer : l.printed ≤ l.plan.wanted;
}

abbrev pub decreases-loop-printed : goal.decreases-loop-printed
decreases-loop-printed g l = l.plan.wanted - l.printed
