-- the rows so far
use Rattle.std.proofs.Common.{◌≡◌, map}
use Rattle.std.specs.List.{range_with_len}
use Rattle.fol_core.specs.SymbolTable.{kind_at}
use Rattle.model_tables.specs.Tables.{listing, row_of}
use Rattle.cell_search.specs.Finites.{finite_of}
use Rattle.cell_search.proofs.tables.finite.Given as goal

abbrev pub invariant-loop-number : goal.invariant-loop-number
invariant-loop-number l = l.rows.items ≡ map (λ s. listing (kind_at l.symbols s) (row_of (finite_of l.setup l.trail.entries) s)) (range_with_len 0 l.number)
