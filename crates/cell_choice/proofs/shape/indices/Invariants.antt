-- those of the shapes so far
use Rattle.std.proofs.Common.{◌≡◌, map, take}
use Rattle.cell_choice.proofs.shape.indices.Given as goal

abbrev pub invariant-loop-shape : goal.invariant-loop-shape
invariant-loop-shape l = l.indices.items ≡ map (λ s. s.above) (take l.shape-index l.shapes)
