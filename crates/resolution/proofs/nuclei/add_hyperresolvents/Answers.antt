use Rattle.std.proofs.Common.{◌++◌, filter, flat_map, ap, ◌∙◌, ℕ}
use Rattle.clause_index.specs.Numbered.{is_numbered}
use Rattle.held_clauses.specs.Holding.{lent}
use Rattle.resolution.specs.Opposing.{nuclei_numbers}
use Rattle.resolution.specs.View.{all_conclusions}
use Rattle.resolution.specs.declared.partners.ClashKind.TheVariants.{Hyper}
use Rattle.resolution.proofs.Idle.{hyper_left}
use Rattle.resolution.proofs.Nucleated.{hyper_tried}
use Rattle.resolution.proofs.nuclei.add_hyperresolvents.Goals as goal

pub returns : goal.returns
returns c =
    let g = c.args.given.now in
    let hs = c.args.held.now in
    c.in_ok-add_clashes_of_each.ensures
    ∙ ap (λ ns. all_conclusions c.args.made.now.items ++ ns)
    (ap (λ ks. flat_map (hyper_tried hs g) (lent ks)) c.as_slice.ensures.value
    ∙ ap (flat_map (hyper_tried hs g)) (c.in_ok-nuclei.ensures ∙ ap (λ (n : ℕ). filter (is_numbered (nuclei_numbers Hyper hs n)) hs) c.number.ensures)
    ∙ hyper_left hs g)
