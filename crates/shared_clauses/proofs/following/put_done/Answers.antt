-- The clause is as it was, or has the atom.
use Rattle.std.proofs.Common.{ap, ◌∙◌}
use Rattle.derivation.specs.Places.{with_atom}
use Rattle.term_bank.specs.Bank.{tree_at}
use Rattle.shared_clauses.specs.Shared.{clause_in}
use Rattle.shared_clauses.proofs.FollowSteps.{atom_is_in, put_differs, put_missing, put_rule_done}
use Rattle.shared_clauses.proofs.following.put_done.Goals as goal

pub returns-in-Missing-clause-put : goal.returns-in-Missing-clause-put
returns-in-Missing-clause-put c = λ bank d t path left right is same at. put_missing bank d t path left right c.args.place at c.args.done (clause_in bank c.args.literals.now.items) c.in-Missing.is is same

pub returns-in-Differs-clause-put : goal.returns-in-Differs-clause-put
returns-in-Differs-clause-put c = λ bank d t path left right is same at. put_differs bank d t path left right c.args.place at c.args.done (clause_in bank c.args.literals.now.items) c.in-Differs.is is same

pub returns-in-Atom-clause-put : goal.returns-in-Atom-clause-put
returns-in-Atom-clause-put c = λ bank d t path left right is same at.
    put_rule_done bank d t path left right c.args.place at c.args.done c.in-Atom.atom (clause_in bank c.put_atom.new.literals.items) c.in-Atom.is is (c.put_atom.ensures.clause bank ∙ ap (λ e. with_atom e c.args.place (tree_at bank c.in-Atom.atom.0)) same)

pub returns-in-Atom-clause-within : goal.returns-in-Atom-clause-within
returns-in-Atom-clause-within c = λ bank t path left right is are. c.put_atom.ensures.within bank (atom_is_in bank t path left right c.args.done c.in-Atom.atom c.in-Atom.is is) are
