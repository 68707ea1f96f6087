-- What was built is right, and the bank grew.
use Rattle.term_bank.specs.Bank.{Grows}
use Rattle.unify.specs.Instanced.{IsBuilding}
use Rattle.unify.proofs.instancing.built.Given as goal

abbrev pub invariant-nodes : goal.invariant-nodes
invariant-nodes l = record {
  grows : Grows l.fn.bank l.bank;
  building : IsBuilding l.bank l.bound.items l.images.items l.pending.items;
}
