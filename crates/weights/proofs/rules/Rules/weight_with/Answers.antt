-- What the hint says, or what the atoms weigh.
use Rattle.std.proofs.Common.{◌∙◌, ap, map, sym, unwrap_or}
use Rattle.weights.specs.Rows.{weight_row}
use Rattle.weights.specs.Weighing.{atoms_weight}
use Rattle.weights.proofs.Hinted.{weight_hinted}
use Rattle.weights.proofs.rules.Rules.weight_with.Goals as goal

pub returns-in-Some-clause-weight : goal.returns-in-Some-clause-weight
returns-in-Some-clause-weight c =
    let rs = map weight_row c.args.self.now.patterns.items in
    c.from.ensures
    ∙ sym (weight_hinted rs c.args.self.now.hints c.args.clause.now c.args.hint c.requires.hint
    ∙ ap (λ w. unwrap_or w (atoms_weight rs c.args.clause.now)) (sym c.weight_at.ensures ∙ c.in-Some.is))

pub returns-in-None-clause-weight : goal.returns-in-None-clause-weight
returns-in-None-clause-weight c =
    let rs = map weight_row c.args.self.now.patterns.items in
    c.atoms_weight.ensures.weight ∙ ap (λ ps. atoms_weight (map weight_row ps) c.args.clause.now) c.as_slice-patterns.ensures.value
    ∙ sym (weight_hinted rs c.args.self.now.hints c.args.clause.now c.args.hint c.requires.hint
    ∙ ap (λ w. unwrap_or w (atoms_weight rs c.args.clause.now)) (sym c.weight_at.ensures ∙ c.in-None.is))
