use Rattle.std.proofs.Common.{ap, ◌∙◌}
use Rattle.derivation.specs.Equations.{right_of}
use Rattle.derivation.specs.Places.{atom_at}
use Rattle.fol_core.specs.Literals.{ClauseTree}
use Rattle.held_clauses.proofs.equations.rule_right.Goals as goal

pub returns-in-Some : goal.returns-in-Some
returns-in-Some c = c.right_of.ensures ∙ ap right_of (c.in-Some.ensures ∙ ap (λ (d : ClauseTree). atom_at d 0) c.clause.ensures)

pub returns-in-None : goal.returns-in-None
returns-in-None c = ap right_of (c.in-None.ensures ∙ ap (λ (d : ClauseTree). atom_at d 0) c.clause.ensures)
