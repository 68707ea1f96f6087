-- Nothing unifies, or what does is most general.
use Rattle.std.proofs.Common.{◌∙◌, MatchOption, sym, subst}
use Rattle.substitutions.specs.Bindings.{by_bindings}
use Rattle.unifiers.specs.Unifier.{IsMostGeneral}
use Rattle.inference.proofs.FitSteps.{lent_length}
use Rattle.inference.proofs.RuleSteps.{judged_apart}
use Rattle.term_unifiers.specs.Renamed.{left_sides, right_sides}
use Rattle.term_unifiers.specs.Solved.{HasNoUnifier}
use Rattle.std.proofs.Common.{map}
use Rattle.derivation.specs.Words.{clash_rule}
use Rattle.derivation.proofs.Conclusions.{clash_natural}
use Rattle.derivation.proofs.Lawful.{clash_lawful}
use Rattle.inference.specs.Judged.{clash_of}
use Rattle.inference.specs.Lent.{lent_clauses}
use Rattle.inference.proofs.applying.apply_clash.Goals as goal

pub returns-in-None : goal.returns-in-None
returns-in-None c =
    let ks = map clash_of c.args.satellites.now in
    let e = c.in_ok-clash_pairs.field-0 in
    judged_apart (clash_rule ks) (clash_lawful ks) (clash_natural ks) (lent_clauses c.args.parents.now) e (sym c.clash_fits.ensures ∙ c.if-not-clash_fits.false) c.in_ok-clash_pairs.ensures
    (subst (λ o. MatchOption o (HasNoUnifier (left_sides e.pairs) (right_sides e.pairs)) (λ s. IsMostGeneral (by_bindings s) (left_sides e.pairs) (right_sides e.pairs))) c.in-None.is c.in_ok-found.ensures)

pub clash_left-requires : goal.clash_left-requires
clash_left-requires c = sym c.clash_fits.ensures ∙ c.if-not-clash_fits.false

pub returns-in_ok-left-in-Some : goal.returns-in_ok-left-in-Some
returns-in_ok-left-in-Some c =
    let e = c.in_ok-clash_pairs.field-0 in
    record {
      fits = sym c.clash_fits.ensures ∙ c.if-not-clash_fits.false;
      many = sym (lent_length c.args.parents.now);
      general = subst (λ ps. IsMostGeneral (by_bindings c.in-Some.unifier) (left_sides ps) (right_sides ps)) c.in_ok-clash_pairs.ensures
          (subst (λ o. MatchOption o (HasNoUnifier (left_sides e.pairs) (right_sides e.pairs)) (λ s. IsMostGeneral (by_bindings s) (left_sides e.pairs) (right_sides e.pairs))) c.in-Some.is c.in_ok-found.ensures);
      leaves = c.in_ok-left-in-Some.ensures;
    }
