-- The first arguments are measured.
use Rattle.std.proofs.Common.{◌≡◌, map, take}
use Rattle.clause_limits.specs.Sizes.{measured_all}
use Rattle.fol_core.specs.Substitutions.{substitute}
use Rattle.fol_core.specs.TermView.{tree_of}
use Rattle.fol_core.specs.Tree.{trees_of}
use Rattle.substitutions.specs.Bindings.{by_bindings}
use Rattle.term_matches.proofs.matches.Matches.+measure.Given as goal

abbrev pub invariant-loop-term : goal.invariant-loop-term
invariant-loop-term l = l.measure ≡ measured_all (trees_of (map (λ t. substitute (by_bindings l.self.bindings) (tree_of t)) (take l.term-index l.term-items)))
