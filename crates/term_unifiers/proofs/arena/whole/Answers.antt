-- Both are below 2 ^ 64.
use Rattle.std.proofs.Common.{arith}
use Rattle.term_unifiers.specs.Arenas.{whole}
use Rattle.term_unifiers.proofs.arena.whole.Goals as goal

pub returns : goal.returns
unfolding whole
returns c = omega arith
