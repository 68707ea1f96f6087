-- The bytes so far are what the source gave, they are within the limit, and more may come.
use Rattle.std.proofs.Common.{◌≡◌, ◌-◌, ◌+◌, ◌≤◌, false, vec_len}
use Rattle.ladr_io.specs.Streams.{Gives}
use Rattle.ladr_io.proofs.reading.read_all.Given as goal

abbrev pub invariant-loop-all : goal.invariant-loop-all
invariant-loop-all g l = record {
  within : vec_len l.all ≤ l.limit;
  gave : Gives (g.S.Source.inflow l.fn.source) (g.S.Source.inflow l.source) l.all.items;
  goes : (g.S.Source.inflow l.source).over ≡ false;
}

abbrev pub decreases-loop-all : goal.decreases-loop-all
decreases-loop-all g l = l.limit + 1 - vec_len l.all
