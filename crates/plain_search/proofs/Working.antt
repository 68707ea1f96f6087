-- What is worked out of clauses and their cells.
use Rattle.std.proofs.Common.{◌≡◌, ℕ, length, Option, None, Some, refl, ap, arith}
use Rattle.std.specs.List.{AllByRecursion}
use Rattle.plain_search.specs.Fitting.{IsClauseOfCells, HasCells}
use Rattle.plain_search.specs.Lefts.{ValuesLeft, all_left}
use Rattle.plain_search.specs.PlainLaws.{IsClosed}
use Rattle.plain_search.specs.Worked.{world, spreading, p_at}
use Rattle.fol_core.specs.declared.symbols.Kind.TheVariants.{Function, Relation}

relation_cells : HasCells (world spreading) Relation 0 1
relation_cells = (0, (record { kind = Relation; symbol = 0; arity = 1 }, (refl, refl, refl)))

function_cells : HasCells (world spreading) Function 1 1
function_cells = (2, (record { kind = Function; symbol = 1; arity = 1 }, (refl, refl, refl)))

pub fitting : AllByRecursion (IsClauseOfCells (world spreading)) spreading
fitting = (
  ((relation_cells, (omega arith, tt)), tt),
  (
    (((function_cells, (omega arith, tt)), omega arith), tt),
    (((relation_cells, (tt, tt)), ((relation_cells, ((function_cells, (tt, tt)), tt)), tt)), tt),
  ),
)

abbrev many_left : Option ValuesLeft → ℕ
many_left None = 0
many_left (Some p) = length (p (p_at 0))

pub not_closed : ¬ IsClosed (world spreading) (all_left (world spreading))
not_closed e = let same : 1 ≡ 2 = ap many_left e in omega (arith, same)
