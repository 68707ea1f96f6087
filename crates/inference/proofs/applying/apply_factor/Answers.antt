-- The places are there; nothing unifies, or the conclusion.
use Rattle.std.proofs.Common.{◌∷◌, [], ◌∙◌, MatchOption, refl, sym, subst}
use Rattle.substitutions.specs.Bindings.{by_bindings}
use Rattle.unifiers.specs.Unifier.{IsMostGeneral}
use Rattle.inference.proofs.RuleSteps.{are_premises, judged_apart}
use Rattle.term_unifiers.specs.Renamed.{left_sides, right_sides}
use Rattle.term_unifiers.specs.Solved.{HasNoUnifier}
use Rattle.std.proofs.Common.{◌==◌}
use Rattle.derivation.specs.Places.{others}
use Rattle.derivation.specs.Words.{factor_rule}
use Rattle.derivation.proofs.Conclusions.{factor_natural}
use Rattle.derivation.proofs.Lawful.{factor_lawful}
use Rattle.derivation.proofs.Naturality.{alike_places}
use Rattle.fol_core.specs.TermView.{tree_of}
use Rattle.inference.specs.Left.{all_whole}
use Rattle.inference.proofs.ClashSteps.{place_within}
use Rattle.inference.proofs.OneSteps.{factor_fits, factor_leaves, factor_pairs}
use Rattle.inference.proofs.applying.apply_factor.Goals as goal

pub keep_without-requires : goal.keep_without-requires
keep_without-requires c = place_within c.args.parent.now c.args.b (alike_places c.args.parent.now c.args.a c.args.parent.now c.args.b (sym c.are_alike.ensures ∙ c.if-not-are_alike.false)).1

pub returns-in-None : goal.returns-in-None
returns-in-None c =
    let p = c.args.parent.now in
    let e = c.push.new.self in
    let alike = sym c.are_alike.ensures ∙ c.if-not-are_alike.false in
    judged_apart (factor_rule c.args.a c.args.b) (factor_lawful c.args.a c.args.b) (factor_natural c.args.a c.args.b) (p ∷ []) e (factor_fits c.args.a c.args.b p c.if-a-b.false alike)
    (factor_pairs c.args.a c.args.b p c.in_ok-pairs.pairs.many (tree_of c.atom.result.now) (tree_of c.atom-2.result.now) c.in_ok-pairs.pairs.pairs e.pairs alike c.atom.ensures c.atom-2.ensures c.in_ok-pairs.ensures.many c.in_ok-pairs.ensures.pairs c.in_ok-push.ensures.pairs)
    (subst (λ o. MatchOption o (HasNoUnifier (left_sides e.pairs) (right_sides e.pairs)) (λ s. IsMostGeneral (by_bindings s) (left_sides e.pairs) (right_sides e.pairs))) c.in-None.is c.in_ok-found.ensures)

pub returns-in_ok-premises-in-Some : goal.returns-in_ok-premises-in-Some
returns-in_ok-premises-in-Some c =
    let p = c.args.parent.now in
    let e = c.push.new.self in
    let alike = sym c.are_alike.ensures ∙ c.if-not-are_alike.false in
    are_premises (factor_rule c.args.a c.args.b) (p ∷ []) e 1 c.in-Some.unifier (all_whole 0 (others (λ k. k == c.args.b) p)) c.in_ok-premises-in-Some.premises refl
    (factor_fits c.args.a c.args.b p c.if-a-b.false alike)
    (factor_pairs c.args.a c.args.b p c.in_ok-pairs.pairs.many (tree_of c.atom.result.now) (tree_of c.atom-2.result.now) c.in_ok-pairs.pairs.pairs e.pairs alike c.atom.ensures c.atom-2.ensures c.in_ok-pairs.ensures.many c.in_ok-pairs.ensures.pairs c.in_ok-push.ensures.pairs)
    (subst (λ o. MatchOption o (HasNoUnifier (left_sides e.pairs) (right_sides e.pairs)) (λ s. IsMostGeneral (by_bindings s) (left_sides e.pairs) (right_sides e.pairs))) c.in-Some.is c.in_ok-found.ensures)
    (factor_leaves c.args.a c.args.b p) c.in_ok-premises-in-Some.ensures
