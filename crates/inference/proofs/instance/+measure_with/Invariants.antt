-- The first arguments are measured.
use Rattle.std.proofs.Common.{◌≡◌, map, take}
use Rattle.clause_limits.specs.Sizes.{measured_all}
use Rattle.fol_core.specs.Substitutions.{substitute}
use Rattle.fol_core.specs.TermView.{tree_of}
use Rattle.fol_core.specs.Tree.{trees_of}
use Rattle.substitutions.specs.Bindings.{by_bindings}
use Rattle.inference.proofs.instance.+measure_with.Given as goal

abbrev pub decreases-measure_with : goal.decreases-measure_with
decreases-measure_with l = goal.size-measure_with l

abbrev pub invariant-loop-term : goal.invariant-loop-term
invariant-loop-term l = l.measure ≡ measured_all (trees_of (map (λ t. substitute (by_bindings l.values) (tree_of t)) (take l.term-index l.term-items)))
