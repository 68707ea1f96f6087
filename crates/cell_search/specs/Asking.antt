-- What clauses ask of cells.
use Rattle.std.specs.Prelude.{ℕ, ◌+◌, ◌*◌, ◌≡◌, ◌<◌, ◌⊎◌, true, false, IsTrue, MatchBool, List, [], ◌∷◌, Option, None, Some}
use Rattle.fol_core.specs.Literals.{Lit, ClauseTree, is_true_literal, is_true_clause}
use Rattle.fol_core.specs.Meaning.{Meaning}
use Rattle.fol_core.specs.Tree.{Tree}
use Rattle.fol_core.specs.Truth.{Assignment, value_of}
use Rattle.mace_cells.specs.Choices.{AgreesWith}
use Rattle.mace_cells.specs.Trails.{Partial, HasTwoLeft, value_in, is_struck_off}
use Rattle.mace_cells.specs.World.{World, Solves, cell_of, many_cells}
use Rattle.mace_cells.specs.declared.trail.TrailEntry.{TrailEntry}
use Rattle.mace_ground.specs.Cells.{value_at}
use Rattle.model_tables.specs.Size.{bound_of}
use Rattle.cell_search.specs.Known.{literal_seen}
use Rattle.cell_search.specs.Losses.{Extends, decided_in}
use Rattle.cell_search.specs.declared.asks.Ask.{Ask}
use Rattle.cell_search.specs.declared.closing.Rest.{Rest}
use Rattle.cell_search.specs.declared.closing.Rest.TheVariants.{Nothing, One, Several}
use Rattle.cell_search.specs.declared.look.Verdict.{Verdict}
use Rattle.cell_search.specs.declared.look.Verdict.TheVariants.{Quiet, Contradiction, Asks}

-- an interpretation has the value in the cell, or hasn't it, as it is asked
abbrev pub Passes : World → Meaning → Ask → Type 0
Passes w m a =
    MatchBool a.positive (value_at m (cell_of w a.cell) ≡ a.value)
    (value_at m (cell_of w a.cell) ≡ a.value → ⊥)

-- the first term is that of a cell, and the other has a value, in whatever has the values of the
-- table
abbrev pub AreSides : World → List TrailEntry → Assignment → Tree → Tree → ℕ × ℕ → Type 0
AreSides w es e s t p =
    (p.0 < many_cells w)
    × ((m : Meaning) → Extends w m es → (value_at m (cell_of w p.0) ≡ value_of m e s)
    × (value_of m e t ≡ p.1))

-- whatever has the values of the table and makes the literal true passes
abbrev pub IsAsked : World → List TrailEntry → Assignment → Lit → Ask → Type 0
IsAsked w es e l a =
    (a.cell < many_cells w)
    × ((m : Meaning) → Extends w m es → IsTrue (is_true_literal m e l) → Passes w m a)

-- each literal is false by the values of the table
abbrev pub AreSeenFalse : World → List TrailEntry → Assignment → ClauseTree → Type 0
AreSeenFalse w es e [] = Unit {0}
AreSeenFalse w es e (l ∷ ls) = (literal_seen w es e l ≡ Some false) × AreSeenFalse w es e ls

-- some literal isn't seen to be false; or what has the values can't make the clause true, or where
-- it does it passes
abbrev pub InstanceTells : World → List TrailEntry → Assignment → ClauseTree → Verdict → Type 0
InstanceTells w es e c Quiet = AreSeenFalse w es e c → ⊥
InstanceTells w es e c Contradiction =
    (m : Meaning) → Extends w m es → IsTrue (is_true_clause m e c) → ⊥
InstanceTells w es e c (Asks a) =
    (a.cell < many_cells w)
    × ((m : Meaning) → Extends w m es → IsTrue (is_true_clause m e c) → Passes w m a)

-- each solution that agrees with what was decided passes
abbrev pub IsDue : World → List TrailEntry → Ask → Type 0
IsDue w es a = (m : Meaning) → Solves w m → AgreesWith m (decided_in w es) → Passes w m a

-- each of them has this value in a cell
abbrev pub IsOnly : World → List TrailEntry → ℕ → ℕ → Type 0
IsOnly w es k v =
    (m : Meaning) → Solves w m → AgreesWith m (decided_in w es) → value_at m (cell_of w k) ≡ v

-- none of them has it
abbrev pub IsNone : World → List TrailEntry → ℕ → ℕ → Type 0
IsNone w es k v =
    (m : Meaning) → Solves w m → AgreesWith m (decided_in w es) → value_at m (cell_of w k) ≡ v → ⊥

-- each value of the cell is crossed off, but this one if there is one
abbrev pub AreCrossedBut : Partial → ℕ → ℕ → Option ℕ → Type 0
AreCrossedBut t k end only =
    (v : ℕ) → v < end → (is_struck_off (k * t.stride + v) t.crossings ≡ true) ⊎ (only ≡ Some v)

-- what values a cell has left
abbrev pub IsRest : Partial → ℕ → ℕ → Rest → Type 0
IsRest t k end Nothing = AreCrossedBut t k end None
IsRest t k end (One v) = (v < end) × AreCrossedBut t k end (Some v)
IsRest t k end Several = HasTwoLeft t k end

-- the cell has a value, or two that it can have are left
abbrev pub IsWellLeft : World → Partial → ℕ → Type 0
IsWellLeft w t k =
    ((v : ℕ) × (value_in t.entries k ≡ Some v))
    ⊎ HasTwoLeft t k (bound_of w.size (cell_of w k).kind)

-- what had a value has it still
abbrev pub KeepsValues : List TrailEntry → List TrailEntry → Type 0
KeepsValues es es' = (k v : ℕ) → value_in es k ≡ Some v → value_in es' k ≡ Some v

-- a cell that can have one value alone has a value
abbrev pub IsGivenSingle : World → List TrailEntry → ℕ → Type 0
IsGivenSingle w es k =
    bound_of w.size (cell_of w k).kind ≡ 1 → (v : ℕ) × (value_in es k ≡ Some v)
