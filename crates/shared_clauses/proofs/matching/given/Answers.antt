-- The binding's number is one of those.
use Rattle.shared_clauses.proofs.BoundSteps.{bound_below}
use Rattle.shared_clauses.proofs.matching.given.Goals as goal

pub returns-then-x-binding-clause-within : goal.returns-then-x-binding-clause-within
returns-then-x-binding-clause-within c = λ n below. bound_below n c.args.bindings.now c.loop-binding.binding-index (0, record { 0 = 0 }) c.loop-binding-test.true below
