-- Clauses that are the same are as large.
use Rattle.std.proofs.Common.{ap, ◌∙◌}
use Rattle.inference.specs.Measured.{clause_measured}
use Rattle.carried_answers.proofs.CompareSteps.{same_depth, same_size}
use Rattle.carried_answers.proofs.comparing.is_as_large.Goals as goal

pub returns-then-own-other : goal.returns-then-own-other
returns-then-own-other c = λ same. same_depth c.args.clause.now c.args.shared.now c.measure-own.result c.measure-other.result (c.measure-own.ensures ∙ ap clause_measured c.in_ok-of.ensures) c.measure-other.ensures same

pub returns-else-own-other : goal.returns-else-own-other
returns-else-own-other c = λ same. same_size c.args.clause.now c.args.shared.now c.measure-own.result c.measure-other.result (c.measure-own.ensures ∙ ap clause_measured c.in_ok-of.ensures) c.measure-other.ensures same
