-- The first terms are measured.
use Rattle.std.proofs.Common.{◌≡◌, map, take}
use Rattle.inference.specs.Instance.{all_measured}
use Rattle.substitutions.specs.View.{binding_of}
use Rattle.inference.proofs.instance.measure_values.Given as goal

abbrev pub invariant-loop-term : goal.invariant-loop-term
invariant-loop-term l = l.measures.items ≡ all_measured (map binding_of (take l.term-index l.term-items))
