-- A copy.
use Rattle.std.proofs.Common.{◌∷◌, [], MatchOption, refl, subst}
use Rattle.substitutions.specs.Bindings.{by_bindings}
use Rattle.unifiers.specs.Unifier.{IsMostGeneral}
use Rattle.inference.proofs.RuleSteps.{are_premises, judged_apart}
use Rattle.term_unifiers.specs.Renamed.{left_sides, right_sides}
use Rattle.term_unifiers.specs.Solved.{HasNoUnifier}
use Rattle.derivation.specs.Words.{copy_rule}
use Rattle.derivation.proofs.Conclusions.{copy_natural}
use Rattle.derivation.proofs.Lawful.{copy_lawful}
use Rattle.inference.specs.Left.{all_whole}
use Rattle.inference.proofs.OneSteps.{copy_leaves}
use Rattle.inference.proofs.applying.apply_copy.Goals as goal

pub returns-in-None : goal.returns-in-None
returns-in-None c =
    let e = c.in_ok-new.field-0 in
    judged_apart copy_rule copy_lawful copy_natural (c.args.parent.now ∷ []) e refl c.in_ok-new.ensures.pairs
    (subst (λ o. MatchOption o (HasNoUnifier (left_sides e.pairs) (right_sides e.pairs)) (λ s. IsMostGeneral (by_bindings s) (left_sides e.pairs) (right_sides e.pairs))) c.in-None.is c.in_ok-found.ensures)

pub returns-in_ok-premises-in-Some : goal.returns-in_ok-premises-in-Some
returns-in_ok-premises-in-Some c =
    let e = c.in_ok-new.field-0 in
    are_premises copy_rule (c.args.parent.now ∷ []) e 1 c.in-Some.unifier (all_whole 0 c.args.parent.now) c.in_ok-premises-in-Some.premises refl refl c.in_ok-new.ensures.pairs
    (subst (λ o. MatchOption o (HasNoUnifier (left_sides e.pairs) (right_sides e.pairs)) (λ s. IsMostGeneral (by_bindings s) (left_sides e.pairs) (right_sides e.pairs))) c.in-Some.is c.in_ok-found.ensures)
    (copy_leaves c.args.parent.now) c.in_ok-premises-in-Some.ensures
