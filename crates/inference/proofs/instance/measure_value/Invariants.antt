-- The bindings left decide.
use Rattle.std.proofs.Common.{◌≡◌, drop, map}
use Rattle.substitutions.specs.Bindings.{by_bindings}
use Rattle.substitutions.specs.View.{binding_of}
use Rattle.inference.proofs.instance.measure_value.Given as goal

abbrev pub invariant-loop-i : goal.invariant-loop-i
invariant-loop-i l = by_bindings (map binding_of (drop l.i l.binding-items)) l.x ≡ by_bindings l.values l.x
