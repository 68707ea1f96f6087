-- How great a search is.
use Rattle.std.specs.Prelude.{ℕ, ◌+◌, List, ◌++◌, map}
use Rattle.fol_core.specs.Literals.{ClauseTree}
use Rattle.fol_core.specs.SymbolTable.{Symbol}
use Rattle.fol_core.specs.declared.clause.Clauses.{Clauses}
use Rattle.fol_core.specs.declared.clause.Entry.{Entry}
use Rattle.mace_ground.specs.Cells.{Block, blocks_of, cells_in}
use Rattle.mace_ground.specs.Instances.{ground_literals}

-- the symbols that have cells: those of the formulas by number, and then the Skolem symbols
abbrev pub cell_symbols : List ℕ → List Entry → List ℕ
cell_symbols symbols skolem = symbols ++ map (λ e. e.symbol.0) skolem

abbrev pub blocks_in : List Symbol → Clauses → List Block
blocks_in table c = blocks_of table (cell_symbols (map (λ s. s.0) c.symbols.items) c.skolem.items)

-- the clauses, without the numbers of their formulas
abbrev pub clause_trees : Clauses → List ClauseTree
clause_trees c = map (λ row. row.1) c.clauses.items

-- cells and ground literals
abbrev pub ground_count : ℕ → List Symbol → Clauses → ℕ
ground_count n table c = cells_in n (blocks_in table c) + ground_literals n (clause_trees c)
