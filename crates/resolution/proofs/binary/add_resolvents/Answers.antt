use Rattle.std.proofs.Common.{◌++◌, filter, flat_map, ap, ◌∙◌}
use Rattle.fol_core.specs.Literals.{ClauseTree}
use Rattle.clause_index.specs.Numbered.{is_numbered}
use Rattle.held_clauses.specs.Holding.{lent}
use Rattle.prover_steps.specs.Clashing.{resolvents_with}
use Rattle.resolution.specs.Opposing.{numbers_against}
use Rattle.resolution.specs.View.{all_conclusions}
use Rattle.resolution.proofs.Unopposed.{resolvents_left}
use Rattle.resolution.proofs.binary.add_resolvents.Goals as goal

pub returns : goal.returns
returns c =
    let g = c.args.given.now in
    let hs = c.args.held.now in
    c.in_ok-resolve_with_each.ensures
    ∙ ap (λ ns. all_conclusions c.args.made.now.items ++ ns)
    (ap (λ ks. flat_map (resolvents_with g) (lent ks)) c.as_slice.ensures.value
    ∙ ap (flat_map (resolvents_with g)) (c.in_ok-others.ensures ∙ ap (λ (d : ClauseTree). filter (is_numbered (numbers_against hs d)) hs) c.clause.ensures)
    ∙ resolvents_left hs g)
