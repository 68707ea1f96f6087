-- Which clauses have a text, and which terms as read (`ladr_reader`).
use Rattle.std.specs.Prelude.{◌≡◌, ◌⊎◌, ℕ, suc, ◌<◌, ◌^◌, List, [], ◌∷◌, length}
use Rattle.fol_core.specs.Literals.{ClauseTree, equality}
use Rattle.fol_core.specs.SymbolTable.{Symbol, name_at, arity_at}
use Rattle.fol_core.specs.Tree.{Tree, var, elem, app, Trees, none, more}
use Rattle.ladr_reader.specs.Table.{OperatorTable}
pub use Rattle.ladr_reader.specs.HasText.{kind_of, CanStand, plain, before, behind, between, CanName, CanBind, HasText, HaveTexts}

-- each symbol of a table can have its name and its number of arguments
abbrev pub CanNameSymbols : OperatorTable → List Symbol → Type 0
CanNameSymbols g table = (s : ℕ) → s < length table → CanName g (name_at table s) (arity_at table s)

abbrev pub many : Trees → ℕ
many none = 0
many (more t ts) = suc (many ts)

-- the symbol is one of the table, with so many arguments
abbrev pub IsSymbolOf : List Symbol → ℕ → ℕ → Type 0
IsSymbolOf table s n = (s < length table) × (arity_at table s ≡ n)

-- a term's symbols are a table's, the variables have numbers of the machine, and no element is
-- named
abbrev mutual
  pub IsTermOver : List Symbol → Tree → Type 0
  IsTermOver table (var x) = x < 2 ^ 64
  IsTermOver table (elem k) = ⊥
  IsTermOver table (app s ts) = IsSymbolOf table s (many ts) × AreOver table ts

  pub AreOver : List Symbol → Trees → Type 0
  AreOver table none = Unit {0}
  AreOver table (more t ts) = IsTermOver table t × AreOver table ts

-- an atom is an equation, or its relation is a symbol of the table
abbrev pub IsAtomOver : List Symbol → Tree → Type 0
IsAtomOver table (var x) = ⊥
IsAtomOver table (elem k) = ⊥
IsAtomOver table (app r ts) =
    (IsSymbolOf table r (many ts) ⊎ ((r ≡ equality) × (many ts ≡ 2))) × AreOver table ts

abbrev pub IsClauseOver : List Symbol → ClauseTree → Type 0
IsClauseOver table [] = Unit {0}
IsClauseOver table (l ∷ ls) = IsAtomOver table l.atom × IsClauseOver table ls
