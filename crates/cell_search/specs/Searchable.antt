-- Clauses whose terms all have cells.
use Rattle.std.specs.Prelude.{ℕ, suc, ◌≡◌, ◌<◌, ◌≤◌, ◌==◌, MatchBool, [], ◌∷◌, Some, map}
use Rattle.std.specs.List.{AllByRecursion}
use Rattle.cell_choice.specs.Numbers.{NamesBelow}
use Rattle.fol_core.specs.Bound.{IsOnce}
use Rattle.fol_core.specs.Literals.{ClauseTree, equality}
use Rattle.fol_core.specs.Tree.{Tree, var, elem, app, Trees, none, more}
use Rattle.fol_core.specs.declared.symbols.Kind.{Kind}
use Rattle.fol_core.specs.declared.symbols.Kind.TheVariants.{Function, Relation}
use Rattle.mace_cells.specs.World.{World}
use Rattle.mace_ground.specs.Cells.{Block, found}

abbrev pub count_of : Trees → ℕ
count_of none = 0
count_of (more t ts) = suc (count_of ts)

-- a symbol of this kind with so many arguments has cells
abbrev pub HasCells : World → Kind → ℕ → ℕ → Type 0
HasCells w kind s arity =
    (first : ℕ)
    × ((b : Block)
    × ((found w.size w.blocks s ≡ Some (first, b)) × (b.kind ≡ kind) × (b.arity ≡ arity)))

abbrev mutual
  -- a term of functions that have cells, and of elements
  pub IsOfCells : World → Tree → Type 0
  IsOfCells w (var x) = Unit {0}
  IsOfCells w (elem k) = k < w.size
  IsOfCells w (app s ts) = HasCells w Function s (count_of ts) × AreOfCells w ts

  pub AreOfCells : World → Trees → Type 0
  AreOfCells w none = Unit {0}
  AreOfCells w (more t ts) = IsOfCells w t × AreOfCells w ts

-- an equation of two such terms
abbrev pub IsEquationOfCells : World → Trees → Type 0
IsEquationOfCells w (more s (more t none)) = IsOfCells w s × IsOfCells w t
IsEquationOfCells w ts = ⊥

-- or an atom of a relation that has cells
abbrev pub IsAtomOfCells : World → Tree → Type 0
IsAtomOfCells w (app r ts) =
    MatchBool (r == equality) (IsEquationOfCells w ts)
    (HasCells w Relation r (count_of ts) × AreOfCells w ts)
IsAtomOfCells w t = ⊥

abbrev pub IsClauseOfCells : World → ClauseTree → Type 0
IsClauseOfCells w [] = Unit {0}
IsClauseOfCells w (l ∷ c) = IsAtomOfCells w l.atom × IsClauseOfCells w c

-- There are elements, those among them that isomorphisms leave; no symbol has two blocks; each
-- symbol of the clauses has cells, and each element that they name is one of those.
pub record HasAllCells (w : World) : Type 0 where
  pub some : 0 < w.size
  pub once : IsOnce (map (λ b. b.symbol) w.blocks)
  pub fits : w.fixed ≤ w.size
  pub clauses : AllByRecursion (IsClauseOfCells w) w.clauses
  pub named : AllByRecursion (NamesBelow w.fixed) w.clauses
