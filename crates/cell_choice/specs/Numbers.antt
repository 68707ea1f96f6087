-- Numbers in use and those that clauses name.
use Rattle.std.specs.Prelude.{ℕ, ◌≡◌, ◌<◌, ◌≤◌, List, [], ◌∷◌}
use Rattle.std.specs.List.{AllByRecursion}
use Rattle.fol_core.specs.Literals.{ClauseTree}
use Rattle.fol_core.specs.Occurs.{above_elements}
use Rattle.fol_core.specs.declared.symbols.Kind.TheVariants.{Function}
use Rattle.mace_cells.specs.Choices.{Decision}
use Rattle.mace_cells.specs.Numbers.{above_each, above_used}
use Rattle.mace_cells.specs.World.{World, IsBound}
use Rattle.mace_ground.specs.Cells.{Cell}
use Rattle.model_tables.specs.Size.{AllBelow}

-- for each decision, the latest first, the least number above those in use with it
abbrev pub uses_by : ℕ → List Decision → List ℕ
uses_by fixed [] = []
uses_by fixed (d ∷ ds) = above_used fixed (d ∷ ds) ∷ uses_by fixed ds

-- each element that a clause names is below k
abbrev pub NamesBelow : ℕ → ClauseTree → Type 0
NamesBelow k [] = Unit {0}
NamesBelow k (l ∷ c) = (above_elements l.atom ≤ k) × NamesBelow k c

-- Where clauses name elements below `fixed` alone, and an element is not below the least number
-- above those in use, nor below that above the arguments of a function's cell: each solution that
-- agrees with the decisions is isomorphic to one that does so too and has at most this element as
-- the value of the cell.
abbrev pub LeastNumbersSuffice : Type 0
LeastNumbersSuffice =
    (w : World) (ds : List Decision) (c : Cell) (most : ℕ)
    → AllByRecursion (NamesBelow w.fixed) w.clauses → c.kind ≡ Function
    → AllBelow w.size c.arguments → most < w.size → above_used w.fixed ds ≤ most
    → above_each c.arguments ≤ most → IsBound w ds c most
