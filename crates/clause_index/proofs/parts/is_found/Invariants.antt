-- The literals from here on decide.
use Rattle.std.proofs.Common.{◌≡◌}
use Rattle.clause_index.specs.Finding.{has_such}
use Rattle.discrim_tree.specs.Seeking.{passes}
use Rattle.fol_core.specs.TermView.{tree_of}
use Rattle.held_clauses.proofs.LiteralTests.{some_from}
use Rattle.clause_index.proofs.parts.is_found.Given as goal

abbrev pub invariant-loop-literal : goal.invariant-loop-literal
invariant-loop-literal l =
    some_from (has_such (passes l.sought (tree_of l.t)) l.part) l.literal-items 0
    ≡ some_from (has_such (passes l.sought (tree_of l.t)) l.part) l.literal-items l.literal-index
