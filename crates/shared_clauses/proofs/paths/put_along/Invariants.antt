-- What is put in at the end is put in where the numbers left lead, by what was made so far.
use Rattle.std.proofs.Common.{◌≡◌, ◌<◌, ◌≤◌, length, take}
use Rattle.shared_clauses.specs.Ways.{first_tree}
use Rattle.substitutions.specs.Paths.{replaced}
use Rattle.term_bank.specs.Bank.{Grows, tree_at}
use Rattle.shared_clauses.proofs.paths.put_along.Given as goal

abbrev pub invariant-up : goal.invariant-up
invariant-up l = record {
  grows : Grows l.fn.bank l.bank;
  here : l.here.0 < length l.bank;
  left : l.left ≤ length l.path;
  same : replaced (first_tree l.fn.bank l.way) l.path (tree_at l.fn.bank l.fn.new.0) ≡ replaced (first_tree l.fn.bank l.way) (take l.left l.path) (tree_at l.bank l.here.0);
}

abbrev pub decreases-up : goal.decreases-up
decreases-up l = l.left
