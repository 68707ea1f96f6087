-- The way along the first numbers.
use Rattle.std.proofs.Common.{◌≡◌, take}
use Rattle.shared_clauses.specs.Ways.{IsWay, id_at}
use Rattle.term_bank.specs.Bank.{tree_at}
use Rattle.shared_clauses.proofs.paths.way_along.Given as goal

abbrev pub invariant-loop-number : goal.invariant-loop-number
invariant-loop-number l = record {
  way : IsWay l.bank (tree_at l.bank l.fn.id.0) (take l.number-index l.path) l.way.items;
  here : l.here.0 ≡ id_at l.way.items l.number-index;
}
