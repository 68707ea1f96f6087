use Rattle.std.proofs.Common.{◌++◌, flat_map, ap, ◌∙◌}
use Rattle.held_clauses.specs.Holding.{lent}
use Rattle.held_clauses.specs.Order.{greater_of}
use Rattle.prover_steps.specs.Equalities.{paramodulants_with}
use Rattle.resolution.specs.View.{all_conclusions}
use Rattle.paramod.proofs.Unpaired.{paramodulants_left}
use Rattle.paramod.proofs.pairs.add_paramodulants.Goals as goal

pub returns : goal.returns
returns c =
    let greater = greater_of c.args.precedence.now in
    let g = c.args.given.now in
    c.in_ok-add_with_each.ensures
    ∙ ap (λ ns. all_conclusions c.args.made.now.items ++ ns)
    (ap (λ ks. flat_map (paramodulants_with greater g) (lent ks)) c.as_slice.ensures.value ∙ paramodulants_left greater c.args.held.now (lent c.in_ok-others.others.items) g c.in_ok-others.ensures)
