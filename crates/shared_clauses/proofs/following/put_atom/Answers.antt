-- The literal there has the atom.
use Rattle.std.proofs.Common.{false, set, ap, ◌∙◌}
use Rattle.std.proofs.lemmas.List.{get_or_read}
use Rattle.shared_clauses.specs.Shared.{clause_in}
use Rattle.shared_clauses.proofs.FollowSteps.{atom_put, within_put}
use Rattle.shared_clauses.proofs.following.put_atom.Goals as goal

pub returns-clause-clause : goal.returns-clause-clause
returns-clause-clause c = λ bank.
    ap (λ p. clause_in bank (set c.args.literals.now.items c.args.place (record { positive = p; atom = c.args.atom }))) (ap (λ l. l.positive) (get_or_read c.args.literals.now.items c.args.place c.index_mut.result.now c.requires c.index_mut.ensures.value (record { positive = false; atom = record { 0 = 0 } })))
    ∙ atom_put bank c.args.literals.now.items c.args.place c.args.atom (record { positive = false; atom = record { 0 = 0 } }) c.requires

pub returns-clause-within : goal.returns-clause-within
returns-clause-within c = λ bank h are. within_put bank c.args.literals.now.items c.args.place (record { positive = c.index_mut.result.now.positive; atom = c.args.atom }) h are
