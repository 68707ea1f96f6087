-- Subterms have smaller numbers.
use Rattle.std.proofs.Common.{◌+◌, ◌*◌}
use Rattle.term_order.proofs.Bounds.{bound}
use Rattle.term_order.proofs.precedence.Precedence.+outweighs.Given as goal

abbrev pub decreases-outweighs : goal.decreases-outweighs
decreases-outweighs l = 2 * (l.s.0 + l.t.0) + 1

abbrev pub decreases-first_outweighs : goal.decreases-first_outweighs
decreases-first_outweighs l = 2 * (bound l.ss.now + bound l.ts.now)
