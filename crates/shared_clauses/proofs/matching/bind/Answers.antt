-- The variable is bound, or is from now on.
use Rattle.std.proofs.Common.{length, sym, ap, ◌∙◌, subst}
use Rattle.shared_clauses.specs.Bound.{AreBoundBelow, bound_in}
use Rattle.term_bank.specs.Bank.{tree_at}
use Rattle.unifiers.specs.Matching.{bound_term}
use Rattle.shared_clauses.proofs.BoundSteps.{bound_new, bound_old}
use Rattle.shared_clauses.proofs.matching.bind.Goals as goal

pub same-requires-clause-s : goal.same-requires-clause-s
same-requires-clause-s c = c.in-Some.ensures.within (length c.args.bank.now) (subst (λ l. AreBoundBelow (length c.args.bank.now) l) (sym c.as_slice.ensures.value) c.requires.bindings)

pub returns-in-Some : goal.returns-in-Some
returns-in-Some c =
    bound_old c.args.bank.now c.args.bindings.now.items c.args.x (tree_at c.args.bank.now c.args.id.0) (tree_at c.args.bank.now c.in-Some.old.0) c.same.result
    (c.in-Some.ensures.term c.args.bank.now ∙ ap (λ l. bound_term (bound_in c.args.bank.now l) c.args.x) c.as_slice.ensures.value) c.same.ensures c.requires.bindings

pub returns-in_ok-push-in-None : goal.returns-in_ok-push-in-None
returns-in_ok-push-in-None c =
    bound_new c.args.bank.now c.args.bindings.now.items c.push.new.self.items c.args.x c.args.id
    (c.in-None.ensures.term c.args.bank.now ∙ ap (λ l. bound_term (bound_in c.args.bank.now l) c.args.x) c.as_slice.ensures.value) c.in_ok-push-in-None.ensures.items c.requires.bindings c.requires.id
