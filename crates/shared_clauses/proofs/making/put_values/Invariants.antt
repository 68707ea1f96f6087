-- The first terms are there.
use Rattle.std.proofs.Common.{map, take}
use Rattle.shared_clauses.specs.Bound.{AreBoundTo}
use Rattle.substitutions.specs.View.{binding_of}
use Rattle.shared_clauses.proofs.making.put_values.Given as goal

abbrev pub invariant-loop-x : goal.invariant-loop-x
invariant-loop-x l = AreBoundTo l.bank (map binding_of (take l.x-index l.x-items)) l.bindings.items
