-- What is put in for the term that is there.
use Rattle.std.proofs.Common.{IsTrue, ap, ◌∙◌, sym, subst}
use Rattle.derivation.specs.Places.{atom_at, has_place}
use Rattle.fol_core.specs.TermView.{tree_of}
use Rattle.shared_clauses.specs.Shared.{clause_in}
use Rattle.term_bank.specs.Bank.{tree_at}
use Rattle.shared_clauses.proofs.FollowSteps.{clause_on, place_there, within_on}
use Rattle.shared_clauses.proofs.following.SharedClauseUnderway.rewrite_at.Goals as goal

pub invariant_of-self : goal.invariant_of-self
invariant_of-self c = within_on c.self.inside.bank c.put_rule.new.bank c.self.inside.literals.items c.put_rule.ensures.grows c.self.invariant

pub put_done-requires : goal.put_done-requires
put_done-requires c = (place_there c.self.inside.bank c.self.inside.literals.items c.args.place (subst (λ d. IsTrue (has_place d c.args.place)) (sym c.self.view_is) c.requires))

pub invariant_of-self-2 : goal.invariant_of-self-2
invariant_of-self-2 c =
    c.put_done.ensures.within c.put_rule.new.bank (tree_at c.self.inside.bank c.atom-id.result.0) c.args.path.now (tree_of c.args.left.now) (tree_of c.args.right.now) c.in_ok-done.ensures.made
    (within_on c.self.inside.bank c.put_rule.new.bank c.self.inside.literals.items c.put_rule.ensures.grows c.self.invariant)

pub returns : goal.returns
returns c =
    c.put_done.ensures.put c.put_rule.new.bank c.args.self.now (tree_at c.self.inside.bank c.atom-id.result.0) c.args.path.now (tree_of c.args.left.now) (tree_of c.args.right.now) c.in_ok-done.ensures.made
    (clause_on c.self.inside.bank c.put_rule.new.bank c.self.inside.literals.items c.put_rule.ensures.grows c.self.invariant ∙ c.self.view_is) (c.atom-id.ensures.tree ∙ ap (λ l. atom_at (clause_in c.self.inside.bank l) c.args.place) c.as_slice.ensures.value ∙ ap (λ d. atom_at d c.args.place) c.self.view_is)
