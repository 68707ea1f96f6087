-- Nothing unifies, or the conclusion.
use Rattle.std.proofs.Common.{◌∷◌, [], MatchOption, refl, subst}
use Rattle.substitutions.specs.Bindings.{by_bindings}
use Rattle.unifiers.specs.Unifier.{IsMostGeneral}
use Rattle.inference.proofs.RuleSteps.{are_premises, judged_apart}
use Rattle.term_unifiers.specs.Renamed.{left_sides, right_sides}
use Rattle.term_unifiers.specs.Solved.{HasNoUnifier}
use Rattle.std.proofs.Common.{◌==◌}
use Rattle.derivation.specs.Places.{others}
use Rattle.derivation.specs.Words.{xx_rule}
use Rattle.derivation.proofs.Conclusions.{xx_natural}
use Rattle.derivation.proofs.Lawful.{xx_lawful}
use Rattle.fol_core.specs.TermView.{tree_of}
use Rattle.inference.specs.Left.{all_whole}
use Rattle.std.proofs.Common.{false}
use Rattle.inference.proofs.ClashSteps.{sign_within}
use Rattle.inference.proofs.OneSteps.{xx_fits, xx_leaves, xx_pairs}
use Rattle.inference.proofs.applying.reflexivity_there.Goals as goal

pub keep_without-requires : goal.keep_without-requires
keep_without-requires c = sign_within c.args.parent.now false c.args.a c.requires.literal

pub returns-in-None : goal.returns-in-None
returns-in-None c =
    let p = c.args.parent.now in
    let e = c.push.new.self in
    judged_apart (xx_rule c.args.a) (xx_lawful c.args.a) (xx_natural c.args.a) (p ∷ []) e (xx_fits c.args.a p (tree_of c.args.s.now) (tree_of c.args.t.now) c.requires.literal c.requires.sides)
    (xx_pairs c.args.a p c.in_ok-pairs.pairs.many (tree_of c.args.s.now) (tree_of c.args.t.now) c.in_ok-pairs.pairs.pairs e.pairs c.requires.literal c.requires.sides c.in_ok-pairs.ensures.many c.in_ok-pairs.ensures.pairs c.in_ok-push.ensures.pairs)
    (subst (λ o. MatchOption o (HasNoUnifier (left_sides e.pairs) (right_sides e.pairs)) (λ s. IsMostGeneral (by_bindings s) (left_sides e.pairs) (right_sides e.pairs))) c.in-None.is c.in_ok-found.ensures)

pub returns-in_ok-premises-in-Some : goal.returns-in_ok-premises-in-Some
returns-in_ok-premises-in-Some c =
    let p = c.args.parent.now in
    let e = c.push.new.self in
    are_premises (xx_rule c.args.a) (p ∷ []) e 1 c.in-Some.unifier (all_whole 0 (others (λ k. k == c.args.a) p)) c.in_ok-premises-in-Some.premises refl
    (xx_fits c.args.a p (tree_of c.args.s.now) (tree_of c.args.t.now) c.requires.literal c.requires.sides)
    (xx_pairs c.args.a p c.in_ok-pairs.pairs.many (tree_of c.args.s.now) (tree_of c.args.t.now) c.in_ok-pairs.pairs.pairs e.pairs c.requires.literal c.requires.sides c.in_ok-pairs.ensures.many c.in_ok-pairs.ensures.pairs c.in_ok-push.ensures.pairs)
    (subst (λ o. MatchOption o (HasNoUnifier (left_sides e.pairs) (right_sides e.pairs)) (λ s. IsMostGeneral (by_bindings s) (left_sides e.pairs) (right_sides e.pairs))) c.in-Some.is c.in_ok-found.ensures)
    (xx_leaves c.args.a p) c.in_ok-premises-in-Some.ensures
