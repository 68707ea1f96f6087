use Rattle.std.proofs.Common.{◌++◌, ◌∷◌, [], filter, flat_map, ap, ap₂, ◌∙◌}
use Rattle.clause_index.specs.Numbered.{is_numbered}
use Rattle.held_clauses.specs.Holding.{lent}
use Rattle.resolution.specs.Opposing.{numbers_by}
use Rattle.resolution.proofs.opposing.nuclei_with.Goals as goal

pub returns : goal.returns
returns c =
    let hs = c.args.held.now in
    c.in_ok-found.ensures
    ∙ ap (λ ns. filter (is_numbered ns) hs)
    (c.in_ok-add_nuclei_each.ensures
    ∙ ap₂ (λ ns ks. ns ++ flat_map (numbers_by c.args.kind hs) ks) (c.in_ok-push.ensures.items ∙ ap (λ ns. ns ++ c.args.number ∷ []) c.new-numbers.ensures.items)
    (ap lent c.as_slice.ensures.value ∙ c.in_ok-satellites.ensures))
