-- The first literals are put in.
use Rattle.std.proofs.Common.{take, map}
use Rattle.fol_core.specs.ClauseView.{literal_of}
use Rattle.term_bank.specs.Bank.{Grows}
use Rattle.clause_store.specs.Stored.{IsStoredAs}
use Rattle.clause_store.proofs.stored.Stored.put.Given as goal

abbrev pub invariant-loop-literal : goal.invariant-loop-literal
invariant-loop-literal l = Grows l.fn.bank l.bank × IsStoredAs l.bank l.literals.items (map literal_of (take l.literal-index l.literal-items))
