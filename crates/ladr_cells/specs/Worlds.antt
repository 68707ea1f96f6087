-- What a search for the models of what is stated is about.
use Rattle.std.specs.Prelude.{ℕ, ◌+◌, ◌<◌, ◌≤◌, List, ◌++◌, length, map}
use Rattle.cell_search.specs.Searchable.{HasAllCells}
use Rattle.clausify.specs.Input.{formulas, used_symbols, with_skolems, clauses_in_table, axioms_in_table}
use Rattle.fol_core.specs.Literals.{ClauseTree, equality}
use Rattle.fol_core.specs.Occurs.{size_needed}
use Rattle.fol_problem.specs.Stated.{Stated}
use Rattle.ladr_cells.specs.Fitting.{FitsTable}
use Rattle.mace_cells.specs.World.{World}
use Rattle.mace_cells.specs.declared.way.Way.{Way}
use Rattle.mace_ground.specs.Cells.{Block, blocks_of, cells_in}
use Rattle.mace_ground.specs.Instances.{ground_literals}

-- the clauses, in the words of the problem's table with the Skolem symbols behind it
abbrev pub clauses_for : Stated → List ClauseTree
clauses_for p = map (λ row. row.1) (clauses_in_table p.symbols p)

-- the cells: those of the symbols of the formulas by number, and then those of the Skolem symbols
abbrev pub blocks_for : Stated → List Block
blocks_for p =
    blocks_of (with_skolems p.symbols p)
    (used_symbols p.symbols p.formulas ++ map (λ w. w.symbol) (axioms_in_table p.symbols p))

-- the search among n elements, of which those keep their names that stand below the least number
-- above all that the formulas name, and how it goes
abbrev pub world_for : Stated → ℕ → Way → World
world_for p n way = record {
  size = n;
  fixed = size_needed (formulas p.formulas);
  clauses = clauses_for p;
  blocks = blocks_for p;
  way = way;
}

-- how many cells and ground literals it has
abbrev pub ground_size : ℕ → Stated → ℕ
ground_size n p = cells_in n (blocks_for p) + ground_literals n (clauses_for p)

-- Where the formulas use symbols as the table has them, each term of the clauses has cells in a
-- size with each element that is named, unless there are more symbols than numbers.
abbrev pub CellsForAll : Type 0
CellsForAll =
    (p : Stated) (n : ℕ) (way : Way) → FitsTable p → 0 < n → size_needed (formulas p.formulas) ≤ n
    → length p.symbols ≤ equality → length (axioms_in_table p.symbols p) ≤ equality
    → HasAllCells (world_for p n way)
