-- The first literals are measured.
use Rattle.std.proofs.Common.{◌≡◌, map, take}
use Rattle.fol_core.specs.ClauseView.{literal_of}
use Rattle.substitutions.specs.Bindings.{by_bindings}
use Rattle.substitutions.specs.Instances.{substitute_clause}
use Rattle.inference.specs.Measured.{clause_measured}
use Rattle.inference.proofs.instance.measure_clause.Given as goal

abbrev pub invariant-loop-literal : goal.invariant-loop-literal
invariant-loop-literal l = l.all ≡ clause_measured (substitute_clause (by_bindings l.values) (map literal_of (take l.literal-index l.literal-items)))
