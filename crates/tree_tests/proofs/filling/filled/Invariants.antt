-- No entry has a number from here on.
use Rattle.tree_tests.specs.Free.{AreFree}
use Rattle.tree_tests.proofs.filling.filled.Given as goal

abbrev pub invariant-loop-number : goal.invariant-loop-number
invariant-loop-number l = AreFree l.number l.index
