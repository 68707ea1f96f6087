use Rattle.std.proofs.Common.{◌++◌, filter, ap, ◌∙◌}
use Rattle.clause_index.specs.Numbered.{is_numbered}
use Rattle.resolution.specs.Opposing.{numbers_against}
use Rattle.resolution.proofs.opposing.opposing.Goals as goal

pub returns : goal.returns
returns c =
    let hs = c.args.held.now in
    c.in_ok-found.ensures
    ∙ ap (λ ns. filter (is_numbered ns) hs) (c.in_ok-add_against.ensures ∙ ap (λ ns. ns ++ numbers_against hs c.args.clause.now) c.new-numbers.ensures.items)
