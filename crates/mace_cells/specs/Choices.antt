-- Where a search stands: its choices, and which interpretations are still ahead of it.
use Rattle.std.specs.Prelude.{ℕ, ◌≡◌, ◌<◌, ◌≤◌, ◌⊎◌, Bool, true, false, IsTrue, List, [], ◌∷◌}
use Rattle.fol_core.specs.Meaning.{Meaning}
use Rattle.mace_ground.specs.Cells.{Cell, value_at}

-- a cell with the value that was decided for it
pub record Decision : Type 0 where
  pub cell : Cell
  pub value : ℕ

abbrev pub AgreesWith : Meaning → List Decision → Type 0
AgreesWith m [] = Unit {0}
AgreesWith m (d ∷ ds) = (value_at m d.cell ≡ d.value) × AgreesWith m ds

-- no decision is one of this cell
abbrev pub IsUndecided : List Decision → Cell → Type 0
IsUndecided [] c = Unit {0}
IsUndecided (d ∷ ds) c = (d.cell ≡ c → ⊥) × IsUndecided ds c

-- the latest decision is one of this cell
abbrev pub IsLatest : List Decision → Cell → Type 0
IsLatest [] c = ⊥
IsLatest (d ∷ ds) c = d.cell ≡ c

-- a choice that stands: a cell, the value being tried, and the greatest that is to be tried
pub record Choice : Type 0 where
  pub cell : Cell
  pub value : ℕ
  pub most : ℕ

-- the choices stand with the latest first
abbrev pub decisions : List Choice → List Decision
decisions [] = []
decisions (c ∷ cs) = record { cell = c.cell; value = c.value } ∷ decisions cs

-- At some choice that stands it agrees with the decisions before that choice, and has in the chosen
-- cell a value that is yet to be tried.
abbrev pub IsAhead : Meaning → List Choice → Type 0
IsAhead m [] = ⊥
IsAhead m (c ∷ cs) =
    (AgreesWith m (decisions cs) × (c.value < value_at m c.cell) × (value_at m c.cell ≤ c.most))
    ⊎ IsAhead m cs

-- it is ahead, or the decisions are still being followed and it agrees with all of them
abbrev pub IsOpen : Bool → List Choice → Meaning → Type 0
IsOpen live cs m = (IsTrue live × AgreesWith m (decisions cs)) ⊎ IsAhead m cs
