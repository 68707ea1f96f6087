-- Nothing unifies, or what does is most general.
use Rattle.std.proofs.Common.{◌∷◌, [], MatchOption, refl, subst}
use Rattle.substitutions.specs.Bindings.{by_bindings}
use Rattle.unifiers.specs.Unifier.{IsMostGeneral}
use Rattle.inference.proofs.RuleSteps.{judged_apart}
use Rattle.term_unifiers.specs.Renamed.{left_sides, right_sides}
use Rattle.term_unifiers.specs.Solved.{HasNoUnifier}
use Rattle.derivation.specs.Words.{para_rule}
use Rattle.derivation.proofs.Conclusions.{para_natural}
use Rattle.derivation.proofs.Lawful.{para_lawful}
use Rattle.fol_core.specs.TermView.{tree_of}
use Rattle.inference.proofs.ParaSteps.{para_pairs}
use Rattle.inference.proofs.applying.paramodulate_there.Goals as goal

pub returns-in-None : goal.returns-in-None
returns-in-None c =
    let at = c.args.at in
    let e = c.push.new.self in
    judged_apart (para_rule at.equation at.side at.literal at.path.now) (para_lawful at.equation at.side at.literal at.path.now) (para_natural at.equation at.side at.literal at.path.now) (c.args.from.now ∷ c.args.into.now ∷ []) e c.requires.fits
    (para_pairs at.equation at.side at.literal at.path.now c.args.from.now c.args.into.now c.in_ok-pairs.pairs.many (tree_of c.args.side.now) (tree_of c.args.term.now) c.in_ok-pairs.pairs.pairs e.pairs c.requires.fits c.requires.side c.requires.there
    c.in_ok-pairs.ensures.many c.in_ok-pairs.ensures.pairs c.in_ok-push.ensures.pairs)
    (subst (λ o. MatchOption o (HasNoUnifier (left_sides e.pairs) (right_sides e.pairs)) (λ s. IsMostGeneral (by_bindings s) (left_sides e.pairs) (right_sides e.pairs))) c.in-None.is c.in_ok-found.ensures)

pub returns-in_ok-left-in-Some : goal.returns-in_ok-left-in-Some
returns-in_ok-left-in-Some c =
    let at = c.args.at in
    let e = c.push.new.self in
    record {
      fits = c.requires.fits;
      many = refl;
      general = subst (λ ps. IsMostGeneral (by_bindings c.in-Some.unifier) (left_sides ps) (right_sides ps))
          (para_pairs at.equation at.side at.literal at.path.now c.args.from.now c.args.into.now c.in_ok-pairs.pairs.many (tree_of c.args.side.now) (tree_of c.args.term.now) c.in_ok-pairs.pairs.pairs e.pairs c.requires.fits c.requires.side c.requires.there
          c.in_ok-pairs.ensures.many c.in_ok-pairs.ensures.pairs c.in_ok-push.ensures.pairs)
          (subst (λ o. MatchOption o (HasNoUnifier (left_sides e.pairs) (right_sides e.pairs)) (λ s. IsMostGeneral (by_bindings s) (left_sides e.pairs) (right_sides e.pairs))) c.in-Some.is c.in_ok-found.ensures);
      leaves = c.in_ok-left-in-Some.ensures;
    }
