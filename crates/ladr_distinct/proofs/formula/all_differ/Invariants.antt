-- those of the names so far, and then those of the others, are all
use Rattle.std.proofs.Common.{◌≡◌, ◌++◌, drop}
use Rattle.fol_core.specs.RawView.{raw_list}
use Rattle.ladr_distinct.specs.Formula.{all_differ}
use Rattle.ladr_distinct.proofs.formula.all_differ.Given as goal

abbrev pub invariant-loop-i : goal.invariant-loop-i
invariant-loop-i l = raw_list l.parts.items ++ all_differ (drop l.i l.names) ≡ all_differ l.names
