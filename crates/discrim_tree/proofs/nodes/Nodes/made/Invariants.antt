-- Along the first steps.
use Rattle.std.proofs.Common.{take}
use Rattle.discrim_tree.specs.Trees.{AllUsed, AllUsedBut, IsAlike, Leads}
use Rattle.discrim_tree.proofs.nodes.Nodes.made.Given as goal

abbrev pub invariant-loop-i : goal.invariant-loop-i
invariant-loop-i l = record {
  alike : IsAlike l.fn.self.items l.self.items;
  leads : Leads l.self.items 0 (take l.i l.path) l.at;
  used : AllUsed l.fn.self.items → AllUsedBut l.at l.self.items;
}
