use Rattle.std.proofs.Common.{ℕ, List, [], ◌∷◌, ◌++◌, map, sym, ap, ◌∙◌, append_assoc, arith}
use Rattle.std.specs.List.{range_with_len}
use Rattle.std.proofs.lemmas.List.FromFn.{map-range_with_len_more}
use Rattle.mace_cells.specs.Numbers.{above_each}
use Rattle.mace_ground.specs.Cells.{digits}
use Rattle.cell_choice.specs.declared.shape.CellShape.{CellShape}
use Rattle.cell_choice.proofs.shape.add_shapes.Goals as goal

pub loop-place-preserved : goal.loop-place-preserved
loop-place-preserved c =
    let f : ℕ → CellShape = λ k. record { kind = c.args.block.kind; above = above_each (digits c.args.size c.args.block.arity k) } in
    let old : List CellShape = c.args.shapes.now.items in
    let k : ℕ = c.loop-place.place in
    c.in_ok-push.ensures.items ∙ ap (λ (xs : List CellShape). xs ++ record { kind = c.args.block.kind; above = c.above_digits-above.result } ∷ []) c.loop-place.invariant
    ∙ append_assoc old (map f (range_with_len 0 k)) (record { kind = c.args.block.kind; above = c.above_digits-above.result } ∷ [])
    ∙ ap (λ (x : ℕ). old ++ (map f (range_with_len 0 k) ++ record { kind = c.args.block.kind; above = x } ∷ [])) c.above_digits-above.ensures
    ∙ ap (λ (xs : List CellShape). old ++ xs) (sym (map-range_with_len_more f 0 k k (omega arith)))
