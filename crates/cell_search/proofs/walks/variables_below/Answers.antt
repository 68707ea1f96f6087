use Rattle.std.proofs.Common.{ℕ, List, [], ◌∷◌, ◌++◌, sym, ap, ◌∙◌}
use Rattle.cell_search.proofs.Ways.{range_more}
use Rattle.cell_search.proofs.walks.variables_below.Goals as goal

pub loop-variable-preserved : goal.loop-variable-preserved
loop-variable-preserved c =
    c.in_ok-push.ensures.items ∙ ap (λ (xs : List ℕ). xs ++ c.loop-variable.variable ∷ []) c.loop-variable.invariant ∙ sym (range_more c.loop-variable.variable)
