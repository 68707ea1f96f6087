use Rattle.std.proofs.Common.{◌≡◌, Bool, IfOk, filter, subst}
use Rattle.clause_index.specs.Finding.{has_atom_such}
use Rattle.fol_core.specs.Tree.{Tree}
use Rattle.fol_core.specs.TermView.{tree_of}
use Rattle.held_clauses.specs.Holding.{lent}
use Rattle.clause_index.proofs.TermTests.{either_order}
use Rattle.clause_index.proofs.held_set.HeldSet.with_unifiable.Goals as goal

pub returns-clause-found : goal.returns-clause-found
returns-clause-found c =
    subst (λ (test : Tree → Bool). IfOk c.found.result (λ hs. lent hs.items ≡ filter (has_atom_such test c.args.sign) c.args.self.now))
    (either_order (tree_of c.args.atom.now)) c.found.ensures.found
