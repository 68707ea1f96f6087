-- The first nodes are linked to the least of their classes.
use Rattle.std.proofs.Common.{◌≡◌, ℕ, ◌<◌}
use Rattle.term_unifiers.specs.Merging.{nth, Shortened}
use Rattle.term_unifiers.proofs.linking.flatten.Given as goal

abbrev pub invariant-loop-n : goal.invariant-loop-n
invariant-loop-n l = record {
  shortened : Shortened l.fn.links.items l.links.items;
  flat : (k : ℕ) → k < l.n → nth l.links.items (nth l.links.items k) ≡ nth l.links.items k;
}
