-- Partial tables: which values each cell has left.
use Rattle.std.specs.Prelude.{ℕ, ◌≡◌, ◌==◌, ◌&&◌, ◌⊎◌, Bool, true, false, if◌then◌else◌, List, [], ◌∷◌, Option, None, Some}
use Rattle.std.specs.List.{range_with_len}
use Rattle.fol_core.specs.Meaning.{Meaning}
use Rattle.fol_core.specs.SymbolTable.{is_same_kind}
use Rattle.mace_cells.specs.World.{World}
use Rattle.mace_ground.specs.Cells.{Cell, value_at}
use Rattle.model_tables.specs.Size.{bound_of, AllBelow}

-- a partial table gives each cell the values that it has left
abbrev pub ValuesLeft : Type 0
ValuesLeft = Cell → List ℕ

-- at first a cell has all values left that it can have
abbrev pub all_left : World → ValuesLeft
all_left w = λ c. range_with_len 0 (bound_of w.size c.kind)

-- a cell is assigned where it has one value left, which is its value
abbrev pub only_value : List ℕ → Option ℕ
only_value [] = None
only_value (v ∷ []) = Some v
only_value (v ∷ u ∷ us) = None

abbrev pub IsAmong : ℕ → List ℕ → Type 0
IsAmong v [] = ⊥
IsAmong v (u ∷ us) = (v ≡ u) ⊎ IsAmong v us

-- an interpretation by the elements below n extends a partial table: its value in each cell is
-- among those left
abbrev pub Extends : ℕ → Meaning → ValuesLeft → Type 0
Extends n m p = (c : Cell) → AllBelow n c.arguments → IsAmong (value_at m c) (p c)

abbrev pub are_same : List ℕ → List ℕ → Bool
are_same [] [] = true
are_same [] (y ∷ ys) = false
are_same (x ∷ xs) [] = false
are_same (x ∷ xs) (y ∷ ys) = x == y && are_same xs ys

abbrev pub is_same_cell : Cell → Cell → Bool
is_same_cell c d =
    is_same_kind c.kind d.kind && (c.symbol == d.symbol && are_same c.arguments d.arguments)

-- the partial table with these values left in a cell, whatever it had there
abbrev pub with_left : ValuesLeft → Cell → List ℕ → ValuesLeft
with_left p c vs = λ d. if is_same_cell c d then vs else p d
