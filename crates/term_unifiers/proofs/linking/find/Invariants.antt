-- The node has the label of the first; links were shortened.
use Rattle.std.proofs.Common.{◌≡◌, ◌≤◌}
use Rattle.fol_core.specs.Substitutions.{Substitution}
use Rattle.term_unifiers.specs.Merging.{FitsLinks, Shortened}
use Rattle.term_unifiers.proofs.linking.find.Given as goal

abbrev pub invariant-up : goal.invariant-up
invariant-up l = record {
  shortened : Shortened l.fn.links.items l.links.items;
  within : l.n ≤ l.start;
  same : (label : Substitution) → FitsLinks label l.links.items → label l.start ≡ label l.n;
}

abbrev pub decreases-up : goal.decreases-up
decreases-up l = l.n
