-- A number is what its upper and its lower bits make.
use Rattle.std.proofs.Common.{ap, arith}
use Rattle.term_unifiers.specs.Arenas.{whole}
use Rattle.term_unifiers.specs.Shapes.{variable}
use Rattle.term_unifiers.proofs.arena.variable_node.Goals as goal

pub returns-clause-shape : goal.returns-clause-shape
unfolding whole
returns-clause-shape c = λ arguments. ap variable (omega arith)
