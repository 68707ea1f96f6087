-- The first literals.
use Rattle.std.proofs.Common.{ap, take, ◌∙◌, sym, subst}
use Rattle.shared_clauses.specs.Shared.{AreLiteralsIn, clause_in}
use Rattle.shared_clauses.proofs.UsedSteps.{first_literals, first_within}
use Rattle.shared_clauses.proofs.shared.SharedClause.truncate.Goals as goal

pub invariant_of-self : goal.invariant_of-self
invariant_of-self c = subst (λ l. AreLiteralsIn c.self.inside.bank l) (sym c.truncate.ensures.items) (first_within c.self.inside.bank c.self.inside.literals.items c.args.len c.self.invariant)

pub returns : goal.returns
returns c = ap (clause_in c.self.inside.bank) c.truncate.ensures.items ∙ first_literals c.self.inside.bank c.self.inside.literals.items c.args.len ∙ ap (take c.args.len) c.self.view_is
