-- the shapes so far
use Rattle.std.proofs.Common.{◌≡◌, ◌++◌, map}
use Rattle.std.specs.List.{range_with_len}
use Rattle.mace_ground.specs.Cells.{digits}
use Rattle.mace_cells.specs.Numbers.{above_each}
use Rattle.cell_choice.proofs.shape.add_shapes.Given as goal

abbrev pub invariant-loop-place : goal.invariant-loop-place
invariant-loop-place l =
    l.shapes.items ≡ l.fn.shapes.items ++ map (λ k. record { kind = l.block.kind; above = above_each (digits l.size l.block.arity k) }) (range_with_len 0 l.place)
