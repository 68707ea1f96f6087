-- The first arguments are measured, the one of the number with another term in it.
use Rattle.std.proofs.Common.{◌≡◌}
use Rattle.fol_core.specs.Substitutions.{substitute}
use Rattle.fol_core.specs.TermView.{tree_of}
use Rattle.substitutions.specs.Bindings.{by_bindings}
use Rattle.inference.proofs.SizeSteps.{put_so_far}
use Rattle.inference.proofs.sizing.+measure_put.Given as goal

abbrev pub invariant-loop-i : goal.invariant-loop-i
invariant-loop-i l = l.parts ≡ put_so_far l.rest (substitute (by_bindings l.found.bindings) (tree_of l.right)) l.part-items l.i l.number
