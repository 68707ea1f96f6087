-- A cell that equals a key has its number, and one that equals none is new.
use Rattle.std.proofs.Common.{sym, subst, length}
use Rattle.term_bank.specs.Bank.{IsAt}
use Rattle.term_bank.specs.Cells.{tree_in, ArgumentsAreIn, IsNewTerm}
use Rattle.term_bank.proofs.Building.{new_where_none, found_at}
use Rattle.term_bank.proofs.bank.Bank.enter.Goals as goal

pub append-requires-clause-new : goal.append-requires-clause-new
append-requires-clause-new c =
    let arguments = subst (λ b. ArgumentsAreIn (length b) c.args.cell) (sym c.self.view_is) c.requires in
    subst (λ b. IsNewTerm b (tree_in b c.args.cell)) c.self.view_is
    (new_where_none c.self.inside.cells.entries c.self.invariant c.args.cell arguments (sym c.in-None.ensures.index))

pub returns-in-Some-clause-term : goal.returns-in-Some-clause-term
returns-in-Some-clause-term c =
    subst (λ b. IsAt b c.in-Some.place (tree_in b c.args.cell)) c.self.view_is
    (found_at c.self.inside.cells.entries c.self.invariant c.args.cell c.in-Some.place c.in-Some.ensures.index)
