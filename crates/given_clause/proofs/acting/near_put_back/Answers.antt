use Rattle.std.proofs.Common.{◌≡◌, IfOk, Bool, true, not, List, filter, refl, subst, sym, ap, ap₂, ◌∙◌}
use Rattle.clause_index.specs.Finding.{has_atom_such, has_inside_such}
use Rattle.derivation.specs.Equations.{left_of}
use Rattle.derivation.specs.Places.{atom_at, has_literal}
use Rattle.discrim_tree.specs.Terms.{has_instance}
use Rattle.fol_core.specs.Literals.{ClauseTree}
use Rattle.fol_core.specs.Tree.{Tree}
use Rattle.given_clause.specs.Acting.{may_put_back}
use Rattle.given_clause.specs.declared.acting.Back.{Back}
use Rattle.derivation.proofs.SideSteps.{or_variable}
use Rattle.held_clauses.specs.Holding.{lent}
use Rattle.prover_steps.specs.Clashing.{Held}
use Rattle.given_clause.proofs.acting.near_put_back.Goals as goal

pub returns-in-Deletes : goal.returns-in-Deletes
returns-in-Deletes c =
    subst (λ (hs : List Held). IfOk c.with_instance.result (λ ls. lent ls.items ≡ hs))
    (ap₂ (λ (t : Tree) (b : Bool). filter (has_atom_such (has_instance t) (not b)) c.args.set.now)
    (or_variable c.unwrap_or-atom.result c.atom_at.result _ (atom_at c.clause-clause.result.now 0) c.unwrap_or-atom.ensures refl c.atom_at.ensures ∙ ap (λ (d : ClauseTree). atom_at d 0) c.clause-clause.ensures)
    (c.has_literal.ensures ∙ ap (λ (d : ClauseTree). has_literal true d 0) c.clause-clause.ensures)
    ∙ ap (λ (b : Back). filter (may_put_back b c.args.held.now) c.args.set.now) (sym c.in-Deletes.is))
    c.with_instance.ensures.found

pub returns : goal.returns
returns c =
    subst (λ (hs : List Held). IfOk c.with_instance_inside.result (λ ls. lent ls.items ≡ hs))
    (ap (λ (t : Tree). filter (has_inside_such (has_instance t)) c.args.set.now)
    (or_variable c.unwrap_or.result c.rule_left.result _ (left_of (atom_at c.args.held.now.clause 0)) c.unwrap_or.ensures refl c.rule_left.ensures)
    ∙ ap (λ (b : Back). filter (may_put_back b c.args.held.now) c.args.set.now) (sym c.in-Rewrites.is))
    c.with_instance_inside.ensures.found
