-- The numbers of the clauses so far are added.
use Rattle.std.proofs.Common.{◌≡◌, ◌++◌, take}
use Rattle.held_clauses.specs.Holding.{lent}
use Rattle.prover_steps.specs.HeldOrder.{numbers_of}
use Rattle.clause_index.proofs.numbered.add_numbers.Given as goal

abbrev pub invariant-loop-held : goal.invariant-loop-held
invariant-loop-held l = l.numbers.items ≡ l.fn.numbers.items ++ numbers_of (lent (take l.held-index l.found))
