-- Closing has one result: laws of passes over ground instances in any order.
use Rattle.std.specs.Prelude.{ℕ, suc, ◌≡◌, ◌<◌, ◌≤◌, ◌⊎◌, MatchBool, List, [], ◌∷◌, length, None, Some}
use Rattle.std.specs.List.{AllByRecursion}
use Rattle.mace_cells.specs.World.{World}
use Rattle.mace_ground.specs.Cells.{Cell}
use Rattle.plain_search.specs.Closing.{Told, nothing, contradiction, asks, Ground, pass, instances_of, closure}
use Rattle.plain_search.specs.Fitting.{IsClauseOfCells}
use Rattle.plain_search.specs.Lefts.{ValuesLeft, IsAmong}
use Rattle.plain_search.specs.PlainLaws.{IsClosed, IsSmall}

-- the numbers rise, and the first is a or more
abbrev pub IsRisingFrom : ℕ → List ℕ → Type 0
IsRisingFrom a [] = Unit {0}
IsRisingFrom a (v ∷ vs) = (a ≤ v) × IsRisingFrom (suc v) vs

-- no cell is without values, and those of each rise
abbrev pub IsTable : ValuesLeft → Type 0
IsTable p = (c : Cell) → IsRisingFrom 0 (p c) × (0 < length (p c))

-- no cell has a value left that it hasn't in the second table
abbrev pub IsNarrower : ValuesLeft → ValuesLeft → Type 0
IsNarrower q p = (c : Cell) (v : ℕ) → IsAmong v (q c) → IsAmong v (p c)

-- a table is already as it is told to be
abbrev pub Obeys : ValuesLeft → Told → Type 0
Obeys q nothing = Unit {0}
Obeys q contradiction = ⊥
Obeys q (asks c v positive) =
    MatchBool positive ((u : ℕ) → IsAmong u (q c) → u ≡ v) (IsAmong v (q c) → ⊥)

abbrev pub IsInstanceIn : Ground → List Ground → Type 0
IsInstanceIn g [] = ⊥
IsInstanceIn g (h ∷ hs) = (g ≡ h) ⊎ IsInstanceIn g hs

-- each of them is an instance of a world's clauses, some perhaps often, and others perhaps missing
abbrev pub AreInstancesOf : World → List Ground → Type 0
AreInstancesOf w gs = AllByRecursion (λ g. IsInstanceIn g (instances_of w.size w.clauses)) gs

-- the terms of the clauses have cells, and no cell has too few or too many values left
pub record CanClose (w : World) (p : ValuesLeft) : Type 0 where
  pub fits : AllByRecursion (IsClauseOfCells w) w.clauses
  pub table : IsTable p
  pub small : IsSmall w p

-- Going over instances in any order: what comes of it is the closure if it is closed.
abbrev pub ClosureInAnyOrder : Type 0
ClosureInAnyOrder =
    (w : World) (p q : ValuesLeft) (gs : List Ground) → CanClose w p → AreInstancesOf w gs
    → pass w.size gs p ≡ Some q → IsClosed w q → closure w p ≡ Some q

-- If it meets a contradiction, then closure does.
abbrev pub ContradictionInAnyOrder : Type 0
ContradictionInAnyOrder =
    (w : World) (p : ValuesLeft) (gs : List Ground) → CanClose w p → AreInstancesOf w gs
    → pass w.size gs p ≡ None → closure w p ≡ None

-- a closed table within another
pub record IsClosedWithin (w : World) (p q : ValuesLeft) : Type 0 where
  pub table : IsTable q
  pub closed : IsClosed w q
  pub narrower : IsNarrower q p

-- Of all closed tables within another the closure is the widest.
abbrev pub ClosureIsWidest : Type 0
ClosureIsWidest =
    (w : World) (p q : ValuesLeft) → CanClose w p → IsClosedWithin w p q
    → ((r : ValuesLeft) → IsClosedWithin w p r → IsNarrower r q) → closure w p ≡ Some q

-- If there is none, then closure meets a contradiction.
abbrev pub NoneIsClosed : Type 0
NoneIsClosed =
    (w : World) (p : ValuesLeft) → CanClose w p → ((r : ValuesLeft) → IsClosedWithin w p r → ⊥)
    → closure w p ≡ None
