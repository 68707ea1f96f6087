-- What a search is about, and what it knows of the interpretations that agree with its decisions.
use Rattle.std.specs.Prelude.{ℕ, suc, ◌≡◌, ◌<◌, ◌≤◌, List, Option, None, Some}
use Rattle.fol_core.specs.Literals.{ClauseTree}
use Rattle.fol_core.specs.Meaning.{Meaning}
use Rattle.mace_cells.specs.Choices.{Decision, AgreesWith}
use Rattle.mace_cells.specs.Solutions.{IsSolution, CoversIsomorphic}
use Rattle.mace_cells.specs.declared.way.Way.{Way}
use Rattle.mace_ground.specs.Cells.{Block, Cell, cell_at, cells_in, value_at}

-- how many elements there are, below which of them an isomorphism moves none, the clauses, the
-- cells, and how they are chosen
pub record World : Type 0 where
  pub size : ℕ
  pub fixed : ℕ
  pub clauses : List ClauseTree
  pub blocks : List Block
  pub way : Way

abbrev pub Solves : World → Meaning → Type 0
Solves w m = IsSolution w.size w.clauses m

abbrev pub cell_of : World → ℕ → Cell
cell_of w k = cell_at w.size w.blocks k

abbrev pub many_cells : World → ℕ
many_cells w = cells_in w.size w.blocks

-- they have the same value in each cell
abbrev pub AreAlike : World → Meaning → Meaning → Type 0
AreAlike w m u = (k : ℕ) → k < many_cells w → value_at m (cell_of w k) ≡ value_at u (cell_of w k)

-- Where a search stands, its choices followed as far as they lead: this solution agrees with the
-- decisions, and each that does has the same values.
abbrev pub IsSettled : World → List Decision → Meaning → Type 0
IsSettled w ds m =
    Solves w m × AgreesWith m ds × ((u : Meaning) → Solves w u → AgreesWith u ds → AreAlike w u m)

-- or none agrees with them
abbrev pub IsRefuted : World → List Decision → Type 0
IsRefuted w ds = (m : Meaning) → Solves w m → AgreesWith m ds → ⊥

-- none that agrees with them has in a cell a value from v on and below u
abbrev pub AreRefuted : World → List Decision → Cell → ℕ → ℕ → Type 0
AreRefuted w ds c v u =
    (m : Meaning) → Solves w m → AgreesWith m ds → v ≤ value_at m c → value_at m c < u → ⊥

-- each that agrees with them is isomorphic to one that does so too and has at most this value in
-- the cell
abbrev pub IsBound : World → List Decision → Cell → ℕ → Type 0
IsBound w ds c most =
    CoversIsomorphic w.size w.clauses w.fixed (λ m. AgreesWith m ds)
    (λ m. AgreesWith m ds × (value_at m c ≤ most))

-- the least value from v on, up to the greatest, that isn't known to be refuted
abbrev pub IsNextValue : World → List Decision → Cell → ℕ → ℕ → Option ℕ → Type 0
IsNextValue w ds c v most None = AreRefuted w ds c v (suc most)
IsNextValue w ds c v most (Some u) = (v ≤ u) × (u ≤ most) × AreRefuted w ds c v u
