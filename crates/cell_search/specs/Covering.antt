-- Which instances are gone over.
use Rattle.std.specs.List.{range_with_len}
use Rattle.std.specs.Prelude.{ℕ, ◌≡◌, ◌<◌, ◌⊎◌, ◌-◌, ◌/◌, ◌%◌, nat_lt, if◌then◌else◌, List, [], ◌∷◌, set, Option, None, Some, drop, get_or, length, slice_index}
use Rattle.fol_core.specs.Literals.{ClauseTree}
use Rattle.fol_core.specs.Tree.{Tree, var, elem, app, Trees, none, more, trees_of}
use Rattle.fol_core.specs.Truth.{Assignment}
use Rattle.mace_cells.specs.Trails.{Partial}
use Rattle.mace_cells.specs.World.{World}
use Rattle.mace_cells.specs.declared.trail.TrailEntry.{TrailEntry}
use Rattle.mace_ground.specs.Instances.{variables_in, assigned_by, IsInstance}
use Rattle.model_tables.specs.Size.{AllBelow}
use Rattle.plain_search.specs.Closing.{told}
use Rattle.plain_search.specs.Lefts.{IsAmong}
use Rattle.plain_search.specs.Orders.{Obeys}
use Rattle.cell_search.specs.Following.{AreWellLeft}
use Rattle.cell_search.specs.Known.{cell_seen}
use Rattle.cell_search.specs.Searchable.{HasAllCells}
use Rattle.cell_search.specs.Telling.{told_seen}
use Rattle.cell_search.specs.Viewing.{left_in}
use Rattle.cell_search.specs.declared.walk.Occurrence.{Occurrence}
use Rattle.cell_search.specs.declared.walk.Walk.{Walk}

-- all variables but some have the same elements
abbrev pub AgreeOutside : List ℕ → List ℕ → List ℕ → Type 0
AgreeOutside vs xs ys = (x : ℕ) → (IsAmong x vs → ⊥) → slice_index xs x ≡ slice_index ys x

abbrev pub IsClauseAt : World → ℕ → ClauseTree → Type 0
IsClauseAt w i c = (i < length w.clauses) × (c ≡ get_or w.clauses i c)

-- what an instance of a clause tells by one table is done in another
abbrev pub IsDone : World → ClauseTree → List ℕ → Partial → Partial → Type 0
IsDone w c xs t t' = Obeys (left_in w t') (told w.size (left_in w t) (assigned_by xs) c)

-- an occurrence's terms have the values of a cell's arguments; so it is where a way has none
abbrev pub IsHere : World → List TrailEntry → Assignment → Option Occurrence → ℕ → Type 0
IsHere w es e None k = Unit {0}
IsHere w es e (Some o) k = cell_seen w es e o.kind o.symbol.0 (trees_of o.terms.now) ≡ Some k

abbrev mutual
  pub HasVariable : ℕ → Tree → Type 0
  HasVariable x (var y) = x ≡ y
  HasVariable x (elem k) = ⊥
  HasVariable x (app s ts) = HaveVariable x ts

  pub HaveVariable : ℕ → Trees → Type 0
  HaveVariable x none = ⊥
  HaveVariable x (more t ts) = HasVariable x t ⊎ HaveVariable x ts

abbrev pub IsIn : ℕ → Option Occurrence → Type 0
IsIn x None = ⊥
IsIn x (Some o) = HaveVariable x (trees_of o.terms.now)

-- a way whose occurrence has no variable behind the first ones, for which so many elements suffice
pub record IsWay (walk : Walk) (many : ℕ) : Type 0 where
  pub own : (x : ℕ) → IsIn x walk.occurrence → IsAmong x (drop walk.nested walk.order.items) → ⊥
  pub room : (x : ℕ) → IsAmong x walk.order.items → x < many

-- Where the variables from one place of the way on get all elements, and the others have those of a
-- list, each instance is gone over in which the occurrence is the cell.
abbrev pub Covers : World → Walk → ℕ → ℕ → List ℕ → Partial → Partial → Type 0
Covers w walk k at env t t' =
    HasAllCells w → AreWellLeft w t → IsWay walk (length env) → (c : ClauseTree)
    → IsClauseAt w walk.clause c → (xs : List ℕ) → AllBelow w.size xs
    → AgreeOutside (drop at walk.order.items) xs env
    → IsHere w t.entries (assigned_by xs) walk.occurrence k → IsDone w c xs t t'

-- a way through all instances of a clause
pub record IsWholeWay (c : ClauseTree) (i : ℕ) (walk : Walk) : Type 0 where
  pub clause : walk.clause ≡ i
  pub none : walk.occurrence ≡ None
  pub all : walk.order.items ≡ range_with_len 0 (variables_in c)

-- one for each clause
abbrev pub AreWaysThrough : List ClauseTree → List Walk → Type 0
AreWaysThrough cs walks =
    (i : ℕ) (c : ClauseTree) (walk : Walk) → (i < length cs) × (c ≡ get_or cs i c)
    → i < length walks → walk ≡ get_or walks i walk → IsWholeWay c i walk

abbrev pub AreWholeWays : World → List Walk → Type 0
AreWholeWays w walks = AreWaysThrough w.clauses walks

-- What each instance of the first so many clauses tells by the first table is done in the second.
abbrev pub AreDoneBefore : World → ℕ → Partial → Partial → Type 0
AreDoneBefore w n t t' =
    HasAllCells w → AreWellLeft w t → (i : ℕ) (c : ClauseTree) (xs : List ℕ) → i < n
    → IsClauseAt w i c → IsInstance w.size c xs → IsDone w c xs t t'

-- the element that a cell has for an argument, by the cell's place in its block and by how many cells
-- lie between those of one element and the next
abbrev pub element_of : ℕ → ℕ → ℕ → ℕ
element_of n place step = if nat_lt 0 step then place / step % n else 0

-- each variable gets that element
abbrev pub bound_by : ℕ → ℕ → List (ℕ × ℕ) → List ℕ → List ℕ
bound_by n place [] env = env
bound_by n place (d ∷ ds) env = bound_by n place ds (set env d.0 (element_of n place d.1))

-- the first so many steps, which are the earliest
abbrev pub first_steps : ℕ → List TrailEntry → List TrailEntry
first_steps n es = drop (length es - n) es

-- what each instance tells by the values of the first so many steps is done in the table
abbrev pub IsGoneOver : World → Partial → ℕ → Type 0
IsGoneOver w t n =
    (i : ℕ) (c : ClauseTree) (xs : List ℕ) → IsClauseAt w i c → IsInstance w.size c xs
    → Obeys (left_in w t) (told_seen w (first_steps n t.entries) (assigned_by xs) c)
