-- The first arguments are measured.
use Rattle.std.proofs.Common.{◌≡◌, map, take}
use Rattle.clause_limits.specs.Sizes.{measured_all}
use Rattle.fol_core.specs.Substitutions.{substitute}
use Rattle.fol_core.specs.TermView.{tree_of}
use Rattle.fol_core.specs.Tree.{trees_of}
use Rattle.substitutions.specs.Bindings.{by_bindings}
use Rattle.term_unifiers.specs.Renamed.{own_among}
use Rattle.term_unifiers.specs.Solutions.{bindings_of}
use Rattle.term_unifiers.proofs.sizes.+measure_among.Given as goal

abbrev pub decreases-measure_among : goal.decreases-measure_among
decreases-measure_among l = goal.size-measure_among l

abbrev pub invariant-loop-term : goal.invariant-loop-term
invariant-loop-term l = l.measure ≡ measured_all (trees_of (map (λ t. substitute (own_among l.many (by_bindings (bindings_of l.found)) l.parent) (tree_of t)) (take l.term-index l.term-items)))
