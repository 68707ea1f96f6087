-- Clauses that are lent.
use Rattle.std.specs.Borrow.{Bor}
use Rattle.std.specs.Prelude.{List, map}
use Rattle.fol_core.specs.Literals.{ClauseTree}

abbrev pub lent_clauses : List (Bor ClauseTree) → List ClauseTree
lent_clauses cs = map (λ c. c.now) cs
