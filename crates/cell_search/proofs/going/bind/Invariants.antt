-- the variables have elements, and are as many; the others get theirs
use Rattle.std.proofs.Common.{◌≡◌, drop, length}
use Rattle.cell_search.specs.Covering.{bound_by}
use Rattle.model_tables.specs.Size.{AllBelow}
use Rattle.cell_search.proofs.going.bind.Given as goal

abbrev pub invariant-loop-variable : goal.invariant-loop-variable
invariant-loop-variable l = record {
  env : AllBelow l.setup.size l.env;
  many : length l.env ≡ length l.fn.env;
  bound : bound_by l.setup.size l.place (drop l.variable-index l.occurrence.direct.items) l.env ≡ bound_by l.setup.size l.place l.occurrence.direct.items l.fn.env;
}
