-- The first literals are measured.
use Rattle.std.proofs.Common.{◌≡◌, take}
use Rattle.substitutions.specs.Bindings.{by_bindings}
use Rattle.inference.specs.Left.{all_left, left_clause}
use Rattle.inference.specs.Measured.{clause_measured}
use Rattle.term_unifiers.specs.Renamed.{own_among}
use Rattle.inference.proofs.measuring.measure_all.Given as goal

abbrev pub invariant-loop-one : goal.invariant-loop-one
invariant-loop-one l = l.all ≡ clause_measured (left_clause (own_among l.many (by_bindings l.unifier)) (all_left (take l.one-index l.left)))
