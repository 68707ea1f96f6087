-- Not as many on both sides.
use Rattle.std.proofs.Common.{arith}
use Rattle.term_unifiers.proofs.Unified.{entered_uneven}
use Rattle.term_unifiers.proofs.unifying.unifier_of.Goals as goal

pub returns-then-len : goal.returns-then-len
returns-then-len c = entered_uneven c.args.nodes (λ e. c.if-len.true (omega (arith, e, c.len.ensures, c.len-2.ensures, c.args.nodes.work.lefts.ok.0, c.args.nodes.work.rights.ok.0)))
