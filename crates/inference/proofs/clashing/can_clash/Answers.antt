-- The clashes don't fit; all is equal in some instances; or nothing unifies.
use Rattle.std.proofs.Common.{map, sym, ◌∙◌}
use Rattle.std.proofs.lemmas.Bool.{false≢true}
use Rattle.std.proofs.lemmas.Result.{IfOk-weaker}
use Rattle.derivation.specs.Words.{clash_rule}
use Rattle.derivation.proofs.Conclusions.{clash_natural}
use Rattle.derivation.proofs.Lawful.{clash_lawful}
use Rattle.inference.specs.Judged.{clash_of}
use Rattle.inference.specs.Lent.{lent_clauses}
use Rattle.inference.proofs.RuleSteps.{can_be, judged_apart}
use Rattle.inference.proofs.clashing.can_clash.Goals as goal

pub returns-clause-yes : goal.returns-clause-yes
returns-clause-yes c =
    let ks = map clash_of c.args.satellites.now in
    let fits = sym c.clash_fits.ensures ∙ c.if-not-clash_fits.false in
    IfOk-weaker c.can_unify.result _ _
    (λ b is yes. let found = is.0 yes in (fits, can_be (clash_rule ks) (clash_lawful ks) (clash_natural ks) (lent_clauses c.args.parents.now) c.in_ok-clash_pairs.field-0 found.0 fits c.in_ok-clash_pairs.ensures found.1)) c.can_unify.ensures

pub returns-clause-no : goal.returns-clause-no
returns-clause-no c =
    let ks = map clash_of c.args.satellites.now in
    IfOk-weaker c.can_unify.result _ _
    (λ b is no fits own same. (judged_apart (clash_rule ks) (clash_lawful ks) (clash_natural ks) (lent_clauses c.args.parents.now) c.in_ok-clash_pairs.field-0 fits c.in_ok-clash_pairs.ensures (λ u h. false≢true (sym no ∙ is.1 (u, h)))).1 own same) c.can_unify.ensures
