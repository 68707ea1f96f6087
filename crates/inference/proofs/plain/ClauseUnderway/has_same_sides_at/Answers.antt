-- The sides of the equation.
use Rattle.std.proofs.Common.{◌∙◌, ap}
use Rattle.derivation.specs.Equations.{left_of, right_of}
use Rattle.fol_core.specs.TermView.{tree_of}
use Rattle.unifiers.specs.Matching.{same_tree}
use Rattle.inference.proofs.PlainSteps.{same_sides}
use Rattle.inference.proofs.plain.ClauseUnderway.has_same_sides_at.Goals as goal

pub returns-in-Some : goal.returns-in-Some
returns-in-Some c =
    same_sides c.same.result (tree_of c.atom.result.now) (tree_of c.in-Some.left.now) (tree_of c.in-Some.right.now) c.in-Some.ensures.cases c.same.ensures
    ∙ ap (λ t. same_tree (left_of t) (right_of t)) c.atom.ensures
