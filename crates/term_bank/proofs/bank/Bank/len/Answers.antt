-- There are as many terms as cells.
use Rattle.std.proofs.Common.{◌∙◌, ap, sym, subst, length}
use Rattle.term_bank.specs.Bank.{AreOnce}
use Rattle.term_bank.proofs.Building.{full_length, once_built}
use Rattle.term_bank.proofs.bank.Bank.len.Goals as goal

pub returns-clause-len : goal.returns-clause-len
returns-clause-len c = c.len.ensures.len ∙ sym (full_length c.self.inside.cells.entries) ∙ ap length c.self.view_is

pub returns-clause-once : goal.returns-clause-once
returns-clause-once c = subst AreOnce c.self.view_is (once_built c.self.inside.cells.entries c.self.invariant)
