-- the tree so far is that of the last disjunct and those passed
use Rattle.std.proofs.Common.{◌≡◌, Some}
use Rattle.fol_core.specs.RawView.{raw_of, raw_list}
use Rattle.ladr_reader.specs.Capped.{disjunction_tree}
use Rattle.ladr_reader.specs.DisjunctView.{in_order}
use Rattle.ladr_reader.proofs.disjuncts.nested.Given as goal

abbrev pub invariant-loop-disjunct : goal.invariant-loop-disjunct
invariant-loop-disjunct l = disjunction_tree (in_order (raw_list l.yielded) (raw_of l.initial.tree)) ≡ Some (raw_of l.tree)
