use Rattle.std.proofs.Common.{map, arith}
use Rattle.mace_ground.proofs.Sums.{cells_both}
use Rattle.mace_ground.proofs.counting.count.Goals as goal

pub returns : goal.returns
returns c =
    let cells = rw c.deref.ensures.value at c.formula_cells-cells.ensures in
    let skolem = rw c.deref-2.ensures.value at c.skolem_cells-skolem.ensures in
    let literals = rw c.deref-3.ensures.value at c.literals.ensures in
    omega (
      arith,
      cells,
      skolem,
      literals,
      c.saturating_add.ensures,
      c.saturating_add-2.ensures,
      cells_both c.args.size c.args.symbols.now (map (λ s. s.0) c.args.clauses.now.symbols.items) (map (λ e. e.symbol.0) c.args.clauses.now.skolem.items),
    )
