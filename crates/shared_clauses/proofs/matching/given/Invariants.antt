-- The bindings left decide.
use Rattle.std.proofs.Common.{◌≡◌, List, drop}
use Rattle.fol_core.specs.Tree.{Tree}
use Rattle.shared_clauses.specs.Bound.{bound_in}
use Rattle.unifiers.specs.Matching.{bound_term}
use Rattle.shared_clauses.proofs.matching.given.Given as goal

abbrev pub invariant-loop-binding : goal.invariant-loop-binding
invariant-loop-binding l = (bank : List Tree) → bound_term (bound_in bank (drop l.binding-index l.bindings)) l.x ≡ bound_term (bound_in bank l.bindings) l.x
