use Rattle.fol_core.specs.TermView.{tree_of}
use Rattle.held_clauses.proofs.Sides.{same_sides}
use Rattle.held_clauses.proofs.equations.has_same_sides.Goals as goal

pub returns : goal.returns
returns c = same_sides c.same.result (tree_of c.args.atom.now) (tree_of c.in-Some.left.now) (tree_of c.in-Some.right.now) c.in-Some.ensures.cases c.same.ensures
