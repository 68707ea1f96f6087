-- Formulas that use symbols as a table has them.
use Rattle.std.specs.Prelude.{ℕ, ◌≡◌, List, Some, slice_get}
use Rattle.std.specs.List.{AllByRecursion}
use Rattle.fol_problem.specs.Stated.{Stated}
use Rattle.fol_core.specs.SymbolTable.{Symbol, symbol}
use Rattle.ladr_cells.specs.Uses.{Use, applies, mentions, IsFormulaOf}

-- the symbol stands in the table with this kind and so many arguments; any element may be named
abbrev pub IsUseOf : List Symbol → Use → Type 0
IsUseOf table (applies kind s arity) =
    (name : List ℕ) × (slice_get table s ≡ Some (symbol name arity kind))
IsUseOf table (mentions k) = Unit {0}

-- so do the symbols of each formula
abbrev pub FitsTable : Stated → Type 0
FitsTable p = AllByRecursion (λ s. IsFormulaOf (IsUseOf p.symbols) s.formula) p.formulas
