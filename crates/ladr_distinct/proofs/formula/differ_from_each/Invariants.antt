-- the name stands with each of the others so far
use Rattle.std.proofs.Common.{◌≡◌, ◌++◌, map, take}
use Rattle.fol_core.specs.RawView.{raw_list}
use Rattle.ladr_distinct.specs.Formula.{differ}
use Rattle.ladr_distinct.proofs.formula.differ_from_each.Given as goal

abbrev pub invariant-loop-other : goal.invariant-loop-other
invariant-loop-other l = raw_list l.parts.items ≡ raw_list l.fn.parts.items ++ map (differ l.name) (take l.other-index l.others)
