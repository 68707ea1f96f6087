use Rattle.std.proofs.Common.{◌++◌, ◌∷◌, [], filter, ap, ◌∙◌}
use Rattle.clause_index.specs.Numbered.{is_numbered}
use Rattle.resolution.proofs.opposing.numbered_as.Goals as goal

pub returns : goal.returns
returns c =
    c.in_ok-found.ensures
    ∙ ap (λ ns. filter (is_numbered ns) c.args.held.now) (c.in_ok-push.ensures.items ∙ ap (λ ns. ns ++ c.args.number ∷ []) c.new-one.ensures.items)
