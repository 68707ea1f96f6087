-- The literal is there.
use Rattle.std.proofs.Common.{IsTrue, sym, ap, ◌∙◌, subst, arith}
use Rattle.derivation.specs.Places.{has_place}
use Rattle.shared_clauses.specs.Shared.{AreLiteralsIn, clause_in}
use Rattle.shared_clauses.proofs.FollowSteps.{place_there, removed, within_out}
use Rattle.shared_clauses.proofs.following.SharedClauseUnderway.take_out.Goals as goal

pub remove-literal-requires : goal.remove-literal-requires
remove-literal-requires c = let h = (place_there c.self.inside.bank c.self.inside.literals.items c.args.place (subst (λ d. IsTrue (has_place d c.args.place)) (sym c.self.view_is) c.requires)) in omega (arith, h, c.self.inside.literals.ok.0)

pub invariant_of-self : goal.invariant_of-self
invariant_of-self c = subst (λ l. AreLiteralsIn c.self.inside.bank l) (sym c.remove-literal.ensures.items) (within_out c.self.inside.bank c.self.inside.literals.items c.args.place c.self.invariant)

pub returns : goal.returns
returns c = ap (clause_in c.self.inside.bank) c.remove-literal.ensures.items ∙ removed c.self.inside.bank c.self.inside.literals.items c.args.place c.args.self.now c.self.view_is (place_there c.self.inside.bank c.self.inside.literals.items c.args.place (subst (λ d. IsTrue (has_place d c.args.place)) (sym c.self.view_is) c.requires))
