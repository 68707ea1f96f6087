-- those so far
use Rattle.std.proofs.Common.{◌≡◌, ◌++◌, drop}
use Rattle.cell_search.specs.Marks.{marked_from}
use Rattle.cell_search.proofs.walks.add_marked.Given as goal

abbrev pub invariant-loop-variable : goal.invariant-loop-variable
invariant-loop-variable l = l.order.items ++ marked_from l.variable l.mark (drop l.variable l.marks) ≡ l.fn.order.items ++ marked_from 0 l.mark l.marks
