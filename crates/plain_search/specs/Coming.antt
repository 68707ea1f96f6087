-- The plain search as a row of events, and which of them are still to come.
use Rattle.std.specs.Prelude.{ℕ, zero, suc, ◌≡◌, ◌<◌, ◌≤◌, ◌&&◌, nat_le, Bool, true, false, List, [], ◌∷◌, ◌++◌, Option, None, Some}
use Rattle.std.specs.List.{filter, flat_map}
use Rattle.std.specs.Option.{option_and_then}
use Rattle.mace_cells.specs.Choices.{Decision, Choice, decisions}
use Rattle.mace_cells.specs.Numbers.{greatest_tried}
use Rattle.mace_cells.specs.World.{World, many_cells}
use Rattle.mace_ground.specs.Cells.{Cell}
use Rattle.plain_search.specs.Closing.{closure}
use Rattle.plain_search.specs.Lefts.{ValuesLeft, IsAmong, all_left, with_left}
use Rattle.plain_search.specs.Orders.{IsTable}
use Rattle.plain_search.specs.Trying.{chosen, decide, tried, leaves}

-- that a cell is chosen, or that a table is found
pub data Event : Type 0 where
  choice : Event
  leaf : ValuesLeft → Event

-- the events from a closed table on, where `go` has those from each decision on: the leaf alone, or
-- the choice and what comes with each value that is tried
abbrev pub done_below : (List Decision → ValuesLeft → List Event) → World → List Decision →
    ValuesLeft → Option Cell → List Event
done_below go w ds p None = leaf p ∷ []
done_below go w ds p (Some c) =
    choice ∷ flat_map (λ v. go (decide c v ∷ ds) (with_left p c (v ∷ []))) (tried w ds p c)

-- none where closing met a contradiction
abbrev pub done_behind : (List Decision → ValuesLeft → List Event) → World → List Decision →
    Option ValuesLeft → List Event
done_behind go w ds None = []
done_behind go w ds (Some p) = done_below go w ds p (chosen w ds p)

-- those of a search that decides fewer than k cells more
abbrev pub events_within : ℕ → World → List Decision → ValuesLeft → List Event
events_within zero w ds p = []
events_within (suc k) w ds p = done_behind (events_within k w) w ds (closure w p)

-- all events of the plain search
abbrev pub events : World → List Event
events w = events_within (suc (many_cells w)) w [] (all_left w)

abbrev pub leaves_among : List Event → List ValuesLeft
leaves_among [] = []
leaves_among (choice ∷ es) = leaves_among es
leaves_among (leaf p ∷ es) = p ∷ leaves_among es

-- The leaves among the events are those of the plain search, in their order.
abbrev pub LeavesAreFound : Type 0
LeavesAreFound = (w : World) → leaves_among (events w) ≡ leaves w

-- the table that decisions lead to: closed at first, and again when each is made; None where some
-- closing met a contradiction
abbrev pub closed_behind : World → List Decision → Option ValuesLeft
closed_behind w [] = closure w (all_left w)
closed_behind w (d ∷ ds) =
    option_and_then (λ p. closure w (with_left p d.cell (d.value ∷ []))) (closed_behind w ds)

-- the events behind decisions
abbrev pub events_at : World → List Decision → List Event
events_at w ds = done_behind (events_within (many_cells w) w) w ds (closed_behind w ds)

-- the values of a list from one number on up to another
abbrev pub within : ℕ → ℕ → List ℕ → List ℕ
within from most vs = filter (λ v. nat_le from v && nat_le v most) vs

-- the events where a cell has such values left, and is given one after the other
abbrev pub events_with : World → List Decision → Cell → List ℕ → List Event
events_with w ds c vs = flat_map (λ v. events_at w (decide c v ∷ ds)) vs

abbrev pub events_from : World → List Decision → Cell → ℕ → ℕ → Option ValuesLeft → List Event
events_from w ds c from most None = []
events_from w ds c from most (Some p) = events_with w ds c (within from most (p c))

-- the events of the further values of choices, those of the latest choice first
abbrev pub ahead : World → List Choice → List Event
ahead w [] = []
ahead w (c ∷ cs) =
    events_from w (decisions cs) c.cell (suc c.value) c.most (closed_behind w (decisions cs))
    ++ ahead w cs

-- What is still to come where choices stand: if their decisions are being followed, what is behind
-- these and then the further values, and else the further values alone.
abbrev pub to_come : World → Bool → List Choice → List Event
to_come w true cs = events_at w (decisions cs) ++ ahead w cs
to_come w false cs = ahead w cs

-- the least of the values from one number on up to another, None where there is none
abbrev pub IsFirst : List ℕ → ℕ → ℕ → Option ℕ → Type 0
IsFirst vs from most None = (v : ℕ) → IsAmong v vs → from ≤ v → v ≤ most → ⊥
IsFirst vs from most (Some u) =
    IsAmong u vs × (from ≤ u) × (u ≤ most)
    × ((v : ℕ) → IsAmong v vs → from ≤ v → v < u → ⊥)

-- the choices lead to this table
abbrev pub Stands : World → List Choice → ValuesLeft → Type 0
Stands w cs p = (closed_behind w (decisions cs) ≡ Some p) × IsTable p

abbrev pub tries : Cell → ℕ → ℕ → Choice
tries c v most = record { cell = c; value = v; most = most }

-- What each step of a search by choices leaves to come.
pub record StepsOfSearch (w : World) (cs : List Choice) : Type 0 where
  -- decisions that a closing refutes are followed no more
  pub refuted : closed_behind w (decisions cs) ≡ None → to_come w true cs ≡ to_come w false cs
  -- where no cell is open a leaf comes
  pub found : (p : ValuesLeft) → Stands w cs p → chosen w (decisions cs) p ≡ None
      → to_come w true cs ≡ leaf p ∷ to_come w false cs
  -- a cell is chosen, and its least value tried
  pub chose : (p : ValuesLeft) (c : Cell) (v : ℕ) → Stands w cs p
      → chosen w (decisions cs) p ≡ Some c
      → IsFirst (p c) 0 (greatest_tried w (decisions cs) c) (Some v)
      → to_come w true cs
      ≡ choice ∷ to_come w true (tries c v (greatest_tried w (decisions cs) c) ∷ cs)
  -- or none of its values is to be tried
  pub chose_none : (p : ValuesLeft) (c : Cell) → Stands w cs p
      → chosen w (decisions cs) p ≡ Some c
      → IsFirst (p c) 0 (greatest_tried w (decisions cs) c) None
      → to_come w true cs ≡ choice ∷ to_come w false cs
  -- the latest choice gets its next value
  pub tried_next : (p : ValuesLeft) (c : Cell) (v u most : ℕ) → Stands w cs p
      → IsFirst (p c) (suc v) most (Some u)
      → to_come w false (tries c v most ∷ cs) ≡ to_come w true (tries c u most ∷ cs)
  -- or is taken back, as it has none
  pub took_back : (p : ValuesLeft) (c : Cell) (v most : ℕ) → Stands w cs p
      → IsFirst (p c) (suc v) most None
      → to_come w false (tries c v most ∷ cs) ≡ to_come w false cs

abbrev pub SearchGoesOn : Type 0
SearchGoesOn = (w : World) (cs : List Choice) → StepsOfSearch w cs

-- Before the first choice all events are to come.
abbrev pub AllIsToCome : Type 0
AllIsToCome = (w : World) → to_come w true [] ≡ events w
