-- What lay ahead is found, or still lies ahead.
use Rattle.std.specs.List.Sorted.{IsStrictlyIncreasing}
use Rattle.discrim_tree.specs.Marking.{IsOver}
use Rattle.discrim_tree.proofs.Marked.{ComesOn}
use Rattle.discrim_tree.proofs.nodes.Nodes.over.Given as goal

abbrev pub invariant-loop-step : goal.invariant-loop-step
invariant-loop-step l = IsStrictlyIncreasing l.marks → ComesOn (IsOver l.self.items l.marks) l.fn.waiting.items l.numbers.items l.waiting.items
