-- The first arguments are measured.
use Rattle.std.proofs.Common.{◌≡◌, map, take}
use Rattle.clause_limits.specs.Sizes.{measured_all}
use Rattle.fol_core.specs.TermView.{tree_of}
use Rattle.fol_core.specs.Tree.{trees_of}
use Rattle.clause_limits.proofs.measured.Measure.+of.Given as goal

abbrev pub invariant-loop-term : goal.invariant-loop-term
invariant-loop-term l = l.measure ≡ measured_all (trees_of (map tree_of (take l.term-index l.term-items)))
