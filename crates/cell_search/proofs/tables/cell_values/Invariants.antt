-- the values so far
use Rattle.std.proofs.Common.{◌≡◌}
use Rattle.cell_search.specs.Finites.{cell_values}
use Rattle.cell_search.proofs.tables.cell_values.Given as goal

abbrev pub invariant-loop-place : goal.invariant-loop-place
invariant-loop-place l = l.values.items ≡ cell_values l.trail.entries l.first l.place
