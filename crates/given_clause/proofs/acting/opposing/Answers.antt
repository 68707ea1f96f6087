use Rattle.std.proofs.Common.{◌≡◌, IfOk, Bool, true, not, List, filter, refl, subst, ap, ap₂, ◌∙◌}
use Rattle.clause_index.specs.Entries.{is_short_unifiable}
use Rattle.derivation.specs.Places.{atom_at, has_literal}
use Rattle.fol_core.specs.Literals.{ClauseTree}
use Rattle.fol_core.specs.Tree.{Tree}
use Rattle.derivation.proofs.SideSteps.{or_variable}
use Rattle.held_clauses.specs.Holding.{lent}
use Rattle.prover_steps.specs.Clashing.{Held}
use Rattle.given_clause.proofs.acting.opposing.Goals as goal

pub returns-clause-found : goal.returns-clause-found
returns-clause-found c =
    subst (λ (hs : List Held). IfOk c.short_unifiable.result (λ ls. lent ls.items ≡ hs))
    (ap₂ (λ (t : Tree) (b : Bool). filter (is_short_unifiable (not b) t) c.args.set.now)
    (or_variable c.unwrap_or.result c.atom_at.result _ (atom_at c.clause-clause.result.now 0) c.unwrap_or.ensures refl c.atom_at.ensures ∙ ap (λ (d : ClauseTree). atom_at d 0) c.clause-clause.ensures)
    (c.has_literal.ensures ∙ ap (λ (d : ClauseTree). has_literal true d 0) c.clause-clause.ensures))
    c.short_unifiable.ensures.found
