use Rattle.std.proofs.Common.{ℕ, ◌+◌, ◌∷◌, [], ◌++◌, List, unwrap_or, sym, ap, ◌∙◌, arith}
use Rattle.std.proofs.lemmas.List.FromFn.{map-range_with_len_more}
use Rattle.mace_cells.specs.Trails.{value_in}
use Rattle.cell_search.specs.Finites.{cell_values}
use Rattle.cell_search.proofs.tables.cell_values.Goals as goal

pub loop-place-preserved : goal.loop-place-preserved
loop-place-preserved c =
    let f : ℕ → ℕ = λ j. unwrap_or (value_in c.args.trail.now.entries j) 0 in
    c.in_ok-push.ensures.items ∙ ap (λ (xs : List ℕ). xs ++ c.cell_value.result ∷ []) c.loop-place.invariant
    ∙ ap (λ (x : ℕ). cell_values c.args.trail.now.entries c.args.first c.loop-place.place ++ x ∷ []) c.cell_value.ensures
    ∙ sym (map-range_with_len_more f c.args.first c.loop-place.place (c.args.first + c.loop-place.place) (omega arith))
