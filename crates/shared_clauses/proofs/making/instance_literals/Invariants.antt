-- The first literals are there.
use Rattle.std.proofs.Common.{map, take}
use Rattle.fol_core.specs.ClauseView.{literal_of}
use Rattle.shared_clauses.specs.Bound.{AreBoundTo}
use Rattle.shared_clauses.specs.Shared.{AreMade}
use Rattle.substitutions.specs.Bindings.{by_bindings}
use Rattle.substitutions.specs.Instances.{substitute_clause}
use Rattle.shared_clauses.proofs.making.instance_literals.Given as goal

abbrev pub invariant-loop-literal : goal.invariant-loop-literal
invariant-loop-literal l = record {
  bound : AreBoundTo l.bank l.values l.bindings.items;
  made : AreMade l.bank (substitute_clause (by_bindings l.values) (map literal_of (take l.literal-index l.literal-items))) l.made.items;
}
