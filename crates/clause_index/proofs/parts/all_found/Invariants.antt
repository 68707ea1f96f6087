-- Those among the clauses so far.
use Rattle.std.proofs.Common.{◌≡◌, filter, take}
use Rattle.clause_index.specs.Finding.{has_part_such}
use Rattle.discrim_tree.specs.Seeking.{passes}
use Rattle.fol_core.specs.TermView.{tree_of}
use Rattle.held_clauses.specs.Holding.{lent}
use Rattle.clause_index.proofs.parts.all_found.Given as goal

abbrev pub invariant-loop-held : goal.invariant-loop-held
invariant-loop-held l = lent l.found.items ≡ filter (has_part_such l.part (passes l.sought (tree_of l.t))) (lent (take l.held-index l.list))
