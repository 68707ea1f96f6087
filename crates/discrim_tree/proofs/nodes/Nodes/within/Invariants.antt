-- What lay ahead is found, or still lies ahead.
use Rattle.discrim_tree.specs.Marking.{IsWithin}
use Rattle.discrim_tree.proofs.Marked.{ComesOn}
use Rattle.discrim_tree.proofs.nodes.Nodes.within.Given as goal

abbrev pub invariant-loop-step : goal.invariant-loop-step
invariant-loop-step l = ComesOn (IsWithin l.self.items l.marks) l.fn.waiting.items l.numbers.items l.waiting.items
