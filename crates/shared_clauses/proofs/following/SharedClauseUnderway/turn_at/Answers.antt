-- The sides are exchanged.
use Rattle.std.proofs.Common.{IsTrue, ap, ap₂, ◌∙◌, sym, subst}
use Rattle.derivation.specs.Places.{atom_at, has_place, with_atom}
use Rattle.fol_core.specs.Tree.{Tree}
use Rattle.fol_core.specs.Literals.{ClauseTree}
use Rattle.shared_clauses.specs.Shared.{clause_in}
use Rattle.shared_clauses.proofs.FollowSteps.{clause_on, place_there, turned, within_on}
use Rattle.shared_clauses.proofs.following.SharedClauseUnderway.turn_at.Goals as goal

pub invariant_of-self : goal.invariant_of-self
invariant_of-self c = within_on c.self.inside.bank c.apply.new.self c.self.inside.literals.items c.apply.ensures.grows c.self.invariant

pub put_atom-requires : goal.put_atom-requires
put_atom-requires c = (place_there c.self.inside.bank c.self.inside.literals.items c.args.place (subst (λ d. IsTrue (has_place d c.args.place)) (sym c.self.view_is) c.requires.place))

pub invariant_of-self-in-Some : goal.invariant_of-self-in-Some
invariant_of-self-in-Some c = c.put_atom.ensures.within c.apply.new.self c.in_ok-turned-in-Some.ensures.term.within (within_on c.self.inside.bank c.apply.new.self c.self.inside.literals.items c.apply.ensures.grows c.self.invariant)

pub returns-in_ok-turned-in-Some : goal.returns-in_ok-turned-in-Some
returns-in_ok-turned-in-Some c =
    c.put_atom.ensures.clause c.apply.new.self
    ∙ ap₂ (λ (d : ClauseTree) (t : Tree). with_atom d c.args.place t) (clause_on c.self.inside.bank c.apply.new.self c.self.inside.literals.items c.apply.ensures.grows c.self.invariant ∙ c.self.view_is)
    (c.in_ok-turned-in-Some.ensures.term.tree ∙ turned c.self.inside.bank c.atom-id.result.0 c.in-Some.left.0 c.in-Some.right.0 (atom_at c.args.self.now c.args.place) c.in-Some.ensures (c.atom-id.ensures.tree ∙ ap (λ l. atom_at (clause_in c.self.inside.bank l) c.args.place) c.as_slice.ensures.value ∙ ap (λ d. atom_at d c.args.place) c.self.view_is))
