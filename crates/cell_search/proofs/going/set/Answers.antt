use Rattle.std.proofs.Common.{sym}
use Rattle.cell_search.proofs.Covering.{set_past}
use Rattle.cell_search.proofs.Pursuing.{below_set}
use Rattle.cell_search.proofs.going.set.Goals as goal

pub returns-then-variable-env-clause-env : goal.returns-then-variable-env-clause-env
returns-then-variable-env-clause-env c = below_set c.args.size c.args.env.now c.args.variable c.args.element c.requires.env c.requires.element

pub returns-else-variable-env-clause-set : goal.returns-else-variable-env-clause-set
returns-else-variable-env-clause-set c = sym (set_past c.args.env.now c.args.variable c.args.element c.if-variable-env.false)
