-- The sides of the equation.
use Rattle.std.proofs.Common.{ap, ◌∙◌}
use Rattle.derivation.specs.Equations.{left_of, right_of}
use Rattle.derivation.specs.Places.{atom_at}
use Rattle.inference.proofs.PlainSteps.{same_sides}
use Rattle.shared_clauses.specs.Shared.{clause_in}
use Rattle.term_bank.specs.Bank.{tree_at}
use Rattle.unifiers.specs.Matching.{same_tree}
use Rattle.shared_clauses.proofs.following.SharedClauseUnderway.has_same_sides_at.Goals as goal

pub returns-in-Some : goal.returns-in-Some
returns-in-Some c =
    same_sides c.same.result (tree_at c.self.inside.bank c.atom.result.0) (tree_at c.self.inside.bank c.in-Some.left.0) (tree_at c.self.inside.bank c.in-Some.right.0) c.in-Some.ensures.sides c.same.ensures
    ∙ ap (λ t. same_tree (left_of t) (right_of t)) (c.atom.ensures.tree ∙ ap (λ l. atom_at (clause_in c.self.inside.bank l) c.args.place) c.as_slice.ensures.value ∙ ap (λ d. atom_at d c.args.place) c.self.view_is)
