-- The first literals are measured.
use Rattle.std.proofs.Common.{◌≡◌}
use Rattle.fol_core.specs.Substitutions.{substitute}
use Rattle.fol_core.specs.TermView.{tree_of}
use Rattle.substitutions.specs.Bindings.{by_bindings}
use Rattle.inference.proofs.SizeSteps.{with_so_far}
use Rattle.inference.proofs.sizing.measure_with.Given as goal

abbrev pub invariant-loop-i : goal.invariant-loop-i
invariant-loop-i l = l.all ≡ with_so_far l.literal-items l.place l.path (substitute (by_bindings l.found.bindings) (tree_of l.right)) l.i
