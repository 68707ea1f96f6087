-- The tables that a partial table with a value in each cell is.
use Rattle.std.specs.Prelude.{ℕ, suc, ◌≡◌, ◌+◌, ◌-◌, ◌^◌, max, List, [], ◌∷◌, map, length, Option, None, Some, unwrap_or}
use Rattle.std.specs.List.{range_with_len}
use Rattle.fol_core.specs.Meaning.{Meaning}
use Rattle.fol_core.specs.SymbolTable.{Symbol, kind_at}
use Rattle.fol_core.specs.declared.symbols.Kind.TheVariants.{Function}
use Rattle.mace_cells.specs.Choices.{Decision}
use Rattle.mace_cells.specs.Trails.{value_in}
use Rattle.mace_cells.specs.World.{World, cell_of}
use Rattle.mace_cells.specs.declared.trail.TrailEntry.{TrailEntry}
use Rattle.mace_ground.specs.Cells.{Block, found}
use Rattle.model_tables.specs.Size.{bound_of, AllBelow}
use Rattle.model_tables.specs.Tables.{listing, Finite, meaning_of, row_of}
use Rattle.plain_search.specs.Coming.{closed_behind}
use Rattle.plain_search.specs.Lefts.{ValuesLeft, only_value}

-- the values of so many cells from k on, 0 where there is none
abbrev pub cell_values : List TrailEntry → ℕ → ℕ → List ℕ
cell_values es k n = map (λ j. unwrap_or (value_in es j) 0) (range_with_len k n)

-- the values of a symbol, none where it has no cells
abbrev pub values_in : World → List TrailEntry → Option (ℕ × Block) → List ℕ
values_in w es None = []
values_in w es (Some q) = cell_values es q.0 (w.size ^ q.1.arity)

abbrev pub values_of_symbol : World → List TrailEntry → ℕ → List ℕ
values_of_symbol w es s = values_in w es (found w.size w.blocks s)

-- the least number above each symbol that has cells
abbrev pub above_symbols : List Block → ℕ
above_symbols [] = 0
above_symbols (b ∷ bs) = max (suc b.symbol) (above_symbols bs)

-- up to the last of these, whatever kinds they have
abbrev pub finite_of : World → List TrailEntry → Finite
finite_of w es =
    record {
      top = w.size - 1;
      rows = map (λ s. listing Function (values_of_symbol w es s))
          (range_with_len 0 (above_symbols w.blocks));
    }

-- the same of values that cells have by number, 0 where there is none
abbrev pub values_by : World → (ℕ → Option ℕ) → Option (ℕ × Block) → List ℕ
values_by w f None = []
values_by w f (Some q) = map (λ j. unwrap_or (f j) 0) (range_with_len q.0 (w.size ^ q.1.arity))

abbrev pub finite_by : World → (ℕ → Option ℕ) → Finite
finite_by w f =
    record {
      top = w.size - 1;
      rows = map (λ s. listing Function (values_by w f (found w.size w.blocks s)))
          (range_with_len 0 (above_symbols w.blocks));
    }

-- the tables of a leaf of the plain search, which has one value left in each cell
abbrev pub finite_at : World → ValuesLeft → Finite
finite_at w p = finite_by w (λ k. only_value (p (cell_of w k)))

-- Where decisions lead to a leaf, these are its tables.
abbrev pub AreLeafTables : World → List Decision → Finite → Type 0
AreLeafTables w ds t = (p : ValuesLeft) → closed_behind w ds ≡ Some p → t ≡ finite_at w p

-- and as an interpretation
abbrev pub meaning_by_cells : World → List TrailEntry → Meaning
meaning_by_cells w es = meaning_of (finite_of w es)

-- the same values for the symbols of a table, each with its kind
abbrev pub tables_over : List Symbol → Finite → Finite
tables_over table t =
    record {
      top = t.top;
      rows = map (λ s. listing (kind_at table s) (row_of t s)) (range_with_len 0 (length table));
    }

-- a value for each cell of a symbol, none too great; none where it has no cells
abbrev pub IsRowFor : World → Option (ℕ × Block) → List ℕ → Type 0
IsRowFor w None vs = vs ≡ []
IsRowFor w (Some q) vs = (length vs ≡ w.size ^ q.1.arity) × AllBelow (bound_of w.size q.1.kind) vs

-- tables of the size with such a row for each symbol
pub record AreTablesFor (w : World) (t : Finite) : Type 0 where
  pub size : t.top + 1 ≡ w.size
  pub rows : (s : ℕ) → IsRowFor w (found w.size w.blocks s) (row_of t s)
