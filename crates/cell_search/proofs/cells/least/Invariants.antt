-- the values so far are crossed off
use Rattle.cell_search.specs.Positions.{AreCrossed}
use Rattle.cell_search.proofs.cells.least.Given as goal

abbrev pub invariant-loop-value : goal.invariant-loop-value
invariant-loop-value l = AreCrossed l.trail l.cell l.from l.value
