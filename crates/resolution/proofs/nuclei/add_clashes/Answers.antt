use Rattle.std.proofs.Common.{◌≡◌, [], ◌∷◌, ◌++◌, ap, ◌∙◌}
use Rattle.inference.specs.Lent.{lent_clauses}
use Rattle.resolution.specs.Trying.{all_tried}
use Rattle.resolution.specs.View.{all_conclusions}
use Rattle.resolution.proofs.AllWays.{clashes_given}
use Rattle.resolution.proofs.Clashes.{lent_more}
use Rattle.resolution.proofs.nuclei.add_clashes.Goals as goal

pub returns : goal.returns
returns c = λ ks all stand.
    let n = c.args.nucleus.now in
    let one : lent_clauses c.push.new.self.items ≡ n.clause ∷ [] =
    lent_more [] c.push.new.self.items c.clause.result n.clause (c.in_ok-push.ensures.items ∙ ap (λ ds. ds ++ c.clause.result ∷ []) c.new-clauses.ensures.items) c.clause.ensures in
    c.in_ok-clash_on.ensures.made
    ∙ ap (λ ns. all_conclusions c.args.made.now.items ++ ns)
    (clashes_given c.args.kind c.args.given.now n (all_tried c.args.places.now) ks all c.number-number.result c.number-given_number.result c.is_same-used.result _ _ c.number-number.ensures
    c.number-given_number.ensures c.is_same-used.ensures c.new-satellites.ensures.items one stand)
