-- What is left with the arguments from here on makes up the number.
use Rattle.std.proofs.Common.{◌≡◌, ◌+◌}
use Rattle.substitutions.specs.Bindings.{by_bindings}
use Rattle.inference.proofs.PutSteps.{sizes_from}
use Rattle.inference.proofs.putting.+left_behind_put.Given as goal

abbrev pub invariant-loop-term : goal.invariant-loop-term
invariant-loop-term l = l.left + (1 + sizes_from (by_bindings l.found.bindings) l.term-items 0) ≡ l.room + sizes_from (by_bindings l.found.bindings) l.term-items l.term-index
