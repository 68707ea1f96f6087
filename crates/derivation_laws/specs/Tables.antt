-- Two tables of symbols, one of which has all symbols of the other, in another order.
use Rattle.std.specs.Prelude.{◌≡◌, ℕ, ◌≤◌, List, [], ◌∷◌, length, slice_get, Some}
use Rattle.clausify.specs.Input.{skolems, clauses_in_table}
use Rattle.derivation.specs.Lines.{LineTree, IsRefutation}
use Rattle.fol_core.specs.Literals.{equality}
use Rattle.fol_problem.specs.Stated.{Stated, IsWellFormed}
use Rattle.fol_core.specs.SymbolTable.{Symbol, FindsEach, KeepsNumbers}
use Rattle.derivation_laws.specs.Moved.{Moving, IsExchange, moved_lines}

-- the symbol stands in the table
abbrev pub StandsIn : List Symbol → Symbol → Type 0
StandsIn table x = (n : ℕ) × (slice_get table n ≡ Some x)

-- so does each of a list
abbrev pub AllStandIn : List Symbol → List Symbol → Type 0
AllStandIn table [] = Unit {0}
AllStandIn table (x ∷ xs) = StandsIn table x × AllStandIn table xs

-- each symbol of a table stands in the other one
abbrev pub IsWithinTable : List Symbol → List Symbol → Type 0
IsWithinTable table all = (n : ℕ) (x : Symbol) → slice_get table n ≡ Some x → StandsIn all x

-- numbers are exchanged so that those of the one table become those of the other
pub record LeadsTo (all table : List Symbol) (to back : Moving) : Type 0 where
  pub exchange : IsExchange to back
  pub same : (n m : ℕ) (x : Symbol) → slice_get all n ≡ Some x → slice_get table m ≡ Some x
      → to n ≡ m

-- A table has a problem's symbols under their numbers, each symbol once.
pub record IsTableOf (p : Stated) (table : List Symbol) : Type 0 where
  pub finds : FindsEach table
  pub keeps : KeepsNumbers p.symbols table

-- It also has the Skolem symbols of the problem's clauses, and room for equality's number.
pub record HasSkolems (p : Stated) (all : List Symbol) : Type 0 where
  pub is_table : IsTableOf p all
  pub skolem : AllStandIn all (skolems p.symbols p.formulas)
  pub few : length all ≤ equality

-- refutations in the numbers of the one table are refutations in those of the other
abbrev pub KeepsRefutations : Stated → List Symbol → List Symbol → Moving → Type 0
KeepsRefutations p all table to =
    (ls : List LineTree) → IsRefutation p.formulas (clauses_in_table all p) ls
    → IsRefutation p.formulas (clauses_in_table table p) (moved_lines to ls)

-- Behind a table of the problem's symbols with some of those of a larger table, in whatever order,
-- the clauses and the refutations are those of the larger one, but for the numbers.
abbrev pub RefutationIsRead : Type 0
RefutationIsRead =
    (p : Stated) (all table : List Symbol) → IsWellFormed p → HasSkolems p all → IsTableOf p table
    → IsWithinTable table all
    → (to : Moving) × (back : Moving) × LeadsTo all table to back × KeepsRefutations p all table to
