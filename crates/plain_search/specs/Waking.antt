-- When instances are to be looked at again, and what a look is good for.
use Rattle.std.specs.Prelude.{ℕ, ◌≡◌, ◌==◌, MatchBool, [], ◌∷◌, Option, Some}
use Rattle.std.specs.List.{AllByRecursion}
use Rattle.std.specs.Option.{option_and_then}
use Rattle.fol_core.specs.Literals.{ClauseTree, Lit, equality}
use Rattle.fol_core.specs.Tree.{Tree, var, elem, app, Trees, none, more}
use Rattle.fol_core.specs.Truth.{Assignment}
use Rattle.fol_core.specs.declared.symbols.Kind.{Kind}
use Rattle.fol_core.specs.declared.symbols.Kind.TheVariants.{Function, Relation}
use Rattle.mace_ground.specs.Cells.{Cell}
use Rattle.plain_search.specs.Closing.{told}
use Rattle.plain_search.specs.Known.{cell_for, all_known}
use Rattle.plain_search.specs.Lefts.{ValuesLeft, only_value, with_left}
use Rattle.plain_search.specs.Orders.{IsTable, IsNarrower, Obeys}

-- the cell of an occurrence of a symbol, where its arguments have values
abbrev pub cell_met : ℕ → ValuesLeft → Assignment → Kind → ℕ → Trees → Option Cell
cell_met n p e kind s ts = option_and_then (cell_for n kind s) (all_known n p e ts)

abbrev mutual
  -- each cell that a term's occurrences are is such a cell
  pub MeetsOnly : (Cell → Type 0) → ℕ → ValuesLeft → Assignment → Tree → Type 0
  MeetsOnly P n p e (var x) = Unit {0}
  MeetsOnly P n p e (elem k) = Unit {0}
  MeetsOnly P n p e (app s ts) =
      ((c : Cell) → cell_met n p e Function s ts ≡ Some c → P c) × MeetOnly P n p e ts

  pub MeetOnly : (Cell → Type 0) → ℕ → ValuesLeft → Assignment → Trees → Type 0
  MeetOnly P n p e none = Unit {0}
  MeetOnly P n p e (more t ts) = MeetsOnly P n p e t × MeetOnly P n p e ts

-- an atom's occurrences are those of its terms, and of its relation
abbrev pub AtomMeetsOnly : (Cell → Type 0) → ℕ → ValuesLeft → Assignment → Tree → Type 0
AtomMeetsOnly P n p e (app r ts) =
    MatchBool (r == equality) (MeetOnly P n p e ts)
    (((c : Cell) → cell_met n p e Relation r ts ≡ Some c → P c) × MeetOnly P n p e ts)
AtomMeetsOnly P n p e t = Unit {0}

abbrev pub ClauseMeetsOnly : (Cell → Type 0) → ℕ → ValuesLeft → Assignment → ClauseTree → Type 0
ClauseMeetsOnly P n p e ls =
    AllByRecursion (λ (l : Lit). AtomMeetsOnly P n p e l.atom) ls

-- no occurrence in the clause is this cell
abbrev pub ClauseMeetsNot : ℕ → ValuesLeft → Assignment → Cell → ClauseTree → Type 0
ClauseMeetsNot n p e c ls = ClauseMeetsOnly (λ d. d ≡ c → ⊥) n p e ls

-- A cell gets a value. What an instance tells changes only if, as it is known then, some occurrence
-- in it is that cell.
abbrev pub StaysTold : Type 0
StaysTold =
    (n : ℕ) (p : ValuesLeft) (c : Cell) (v : ℕ) (e : Assignment) (ls : ClauseTree)
    → ClauseMeetsNot n (with_left p c (v ∷ [])) e c ls
    → told n p e ls ≡ told n (with_left p c (v ∷ [])) e ls

-- Values alone count: which values an open cell has left changes nothing of what is told.
abbrev pub ToldByValues : Type 0
ToldByValues =
    (n : ℕ) (p q : ValuesLeft) (e : Assignment) (ls : ClauseTree)
    → ((c : Cell) → only_value (p c) ≡ only_value (q c)) → told n p e ls ≡ told n q e ls

-- An instance is looked at by one table, and r does what it tells then. Then r does also what it
-- told by any table before, p.
abbrev pub LookSuffices : Type 0
LookSuffices =
    (n : ℕ) (p q r : ValuesLeft) (e : Assignment) (ls : ClauseTree) → IsTable q
    → IsNarrower q p → IsNarrower r q → Obeys r (told n q e ls) → Obeys r (told n p e ls)
