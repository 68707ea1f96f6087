-- Clauses whose terms all have cells.
use Rattle.std.specs.Prelude.{ℕ, ◌≡◌, ◌<◌, ◌==◌, MatchBool, [], ◌∷◌, length, Some}
use Rattle.fol_core.specs.Literals.{ClauseTree, equality}
use Rattle.fol_core.specs.Tree.{Tree, var, elem, app, Trees, none, more, list_of}
use Rattle.fol_core.specs.declared.symbols.Kind.{Kind}
use Rattle.fol_core.specs.declared.symbols.Kind.TheVariants.{Function, Relation}
use Rattle.mace_cells.specs.World.{World}
use Rattle.mace_ground.specs.Cells.{Block, found}

-- a world has cells of a symbol of this kind with so many arguments
abbrev pub HasCells : World → Kind → ℕ → ℕ → Type 0
HasCells w kind s arity =
    (first : ℕ)
    × ((b : Block)
    × ((found w.size w.blocks s ≡ Some (first, b)) × (b.kind ≡ kind) × (b.arity ≡ arity)))

abbrev mutual
  -- the functions of a term have cells, and its elements are some
  pub IsOfCells : World → Tree → Type 0
  IsOfCells w (var x) = Unit {0}
  IsOfCells w (elem k) = k < w.size
  IsOfCells w (app s ts) = HasCells w Function s (length (list_of ts)) × AreOfCells w ts

  pub AreOfCells : World → Trees → Type 0
  AreOfCells w none = Unit {0}
  AreOfCells w (more t ts) = IsOfCells w t × AreOfCells w ts

abbrev pub IsEquationOfCells : World → Trees → Type 0
IsEquationOfCells w (more s (more t none)) = IsOfCells w s × IsOfCells w t
IsEquationOfCells w ts = ⊥

-- an equation of such terms, or such terms below a relation that has cells
abbrev pub IsAtomOfCells : World → Tree → Type 0
IsAtomOfCells w (app r ts) =
    MatchBool (r == equality) (IsEquationOfCells w ts)
    (HasCells w Relation r (length (list_of ts)) × AreOfCells w ts)
IsAtomOfCells w t = ⊥

abbrev pub IsClauseOfCells : World → ClauseTree → Type 0
IsClauseOfCells w [] = Unit {0}
IsClauseOfCells w (l ∷ c) = IsAtomOfCells w l.atom × IsClauseOfCells w c
