-- Closures, choices and searches worked out.
use Rattle.std.specs.Prelude.{ℕ, Bool, true, false, List, [], ◌∷◌, ◌++◌, map, unwrap_or, Option, None, Some}
use Rattle.fol_core.specs.Literals.{ClauseTree, literal, equality}
use Rattle.fol_core.specs.Tree.{Tree, var, elem, app, none, more}
use Rattle.fol_core.specs.declared.symbols.Kind.TheVariants.{Function, Relation}
use Rattle.mace_cells.specs.Choices.{Decision, Choice}
use Rattle.mace_cells.specs.World.{World}
use Rattle.mace_cells.specs.declared.way.Candidates.{Candidates}
use Rattle.mace_cells.specs.declared.way.Candidates.TheVariants.{All, InUse}
use Rattle.mace_cells.specs.declared.way.CellMeasure.{CellMeasure}
use Rattle.mace_cells.specs.declared.way.CellMeasure.TheVariants.{First, MostCrossed}
use Rattle.mace_cells.specs.declared.way.Way.{Way}
use Rattle.mace_ground.specs.Cells.{Cell, cell}
use Rattle.plain_search.specs.Closing.{Ground, ground, closure}
use Rattle.plain_search.specs.Coming.{Event, choice, leaf, events, to_come}
use Rattle.plain_search.specs.Lefts.{ValuesLeft, all_left, with_left}
use Rattle.plain_search.specs.Trying.{all_cells, chosen, chosen_for, decide, leaves, listed, tried}

-- two elements, a relation `p` and a function `f`, each of one argument
abbrev pub world : List ClauseTree → World
world clauses = record {
  size = 2;
  fixed = 2;
  clauses = clauses;
  blocks =
      record { kind = Relation; symbol = 0; arity = 1 }
      ∷ record { kind = Function; symbol = 1; arity = 1 } ∷ [];
  way = record { candidates = InUse; measure = MostCrossed; least_numbers = true };
}

abbrev pub p : Tree → Tree
p t = app 0 (more t none)

abbrev pub f : Tree → Tree
f t = app 1 (more t none)

abbrev pub equal : Tree → Tree → Tree
equal s t = app equality (more s (more t none))

-- `p(0)`
abbrev pub beginning : ClauseTree
beginning = literal true (p (elem 0)) ∷ []

-- `f(0) = 1`
abbrev pub leading : ClauseTree
leading = literal true (equal (f (elem 0)) (elem 1)) ∷ []

-- `-p(x) | p(f(x))`
abbrev pub implying : ClauseTree
implying = literal false (p (var 0)) ∷ literal true (p (f (var 0))) ∷ []

abbrev pub spreading : List ClauseTree
spreading = beginning ∷ leading ∷ implying ∷ []

-- `-p(1)`
abbrev pub denial : ClauseTree
denial = literal false (p (elem 1)) ∷ []

-- `f(f(x)) = x` and `p(x)`
abbrev pub turning : List ClauseTree
turning =
    (literal true (equal (f (f (var 0))) (var 0)) ∷ []) ∷ (literal true (p (var 0)) ∷ []) ∷ []

-- `f(0) = 0`
abbrev pub fixing : ClauseTree
fixing = literal true (equal (f (elem 0)) (elem 0)) ∷ []

abbrev pub p_at : ℕ → Cell
p_at x = cell Relation 0 (x ∷ [])

abbrev pub f_at : ℕ → Cell
f_at x = cell Function 1 (x ∷ [])

-- `f(0) != f(0) | p(0)`
abbrev pub reflecting : List ClauseTree
reflecting =
    (literal false (equal (f (elem 0)) (f (elem 0))) ∷ literal true (p (elem 0)) ∷ []) ∷ []

abbrev pub way : Candidates → CellMeasure → Bool → Way
way candidates measure least =
    record { candidates = candidates; measure = measure; least_numbers = least }

-- n elements and the function `f` alone, searched in a way; the clauses name no element
abbrev pub mapping : ℕ → Way → List ClauseTree → World
mapping n way clauses = record {
  size = n;
  fixed = 0;
  clauses = clauses;
  blocks = record { kind = Function; symbol = 1; arity = 1 } ∷ [];
  way = way;
}

-- `f(f(x)) = x`
abbrev pub involution : List ClauseTree
involution = (literal true (equal (f (f (var 0))) (var 0)) ∷ []) ∷ []

-- four elements and a constant `b`; the clauses name 0 and 1
abbrev pub naming : List ClauseTree → World
naming clauses = record {
  size = 4;
  fixed = 2;
  clauses = clauses;
  blocks = record { kind = Function; symbol = 2; arity = 0 } ∷ [];
  way = way InUse MostCrossed true;
}

abbrev pub b : Tree
b = app 2 none

abbrev pub b_cell : Cell
b_cell = cell Function 2 []

-- `b != 0` and `b != 1`
abbrev pub apart : List ClauseTree
apart =
    (literal false (equal b (elem 0)) ∷ []) ∷ (literal false (equal b (elem 1)) ∷ []) ∷ []

-- `1 = b`
abbrev pub turned : ClauseTree
turned = literal true (equal (elem 1) b) ∷ []

-- one element, a relation `q` and the constant `b`
abbrev pub single : World
single = record {
  size = 1;
  fixed = 0;
  clauses = [];
  blocks =
      record { kind = Relation; symbol = 0; arity = 0 }
      ∷ record { kind = Function; symbol = 2; arity = 0 } ∷ [];
  way = way InUse MostCrossed true;
}

-- four elements: of `f` the value 3 is crossed off at 1 and at 2, and 2 and 3 are at 3
abbrev pub crossed : World → ValuesLeft
crossed w =
    with_left (with_left (with_left (all_left w) (f_at 1) (0 ∷ 1 ∷ 2 ∷ [])) (f_at 2)
    (0 ∷ 1 ∷ 2 ∷ [])) (f_at 3) (0 ∷ 1 ∷ [])

-- a relation without arguments was decided to have this value
abbrev pub decided : ℕ → List Decision
decided v = decide (cell Relation 0 []) v ∷ []

-- the cell of `f` that is chosen then in a way
abbrev pub chosen_by : Candidates → CellMeasure → List Decision → Option Cell
chosen_by candidates measure ds =
    let w : World = mapping 4 (way candidates measure false) [] in chosen w ds (crossed w)

-- the values of `f(0)` that are tried then, by the least-number heuristic or not
abbrev pub tried_by : Bool → List Decision → List ℕ
tried_by least ds =
    let w : World = mapping 4 (way InUse MostCrossed least) [] in tried w ds (crossed w) (f_at 0)

-- the values of the cells in all that the search finds
abbrev pub found_in : World → List (List (List ℕ))
found_in w = listed w (leaves w)

-- the instances of these clauses, the last of them first
abbrev pub backwards : List Ground
backwards =
    ground implying (1 ∷ []) ∷ ground implying (0 ∷ []) ∷ ground leading [] ∷ ground beginning []
    ∷ []

-- and that of the denial behind them
abbrev pub denied : List Ground
denied = backwards ++ ground denial [] ∷ []

-- `p(0)` is known, and then `f(0)` too
abbrev pub one_known : ValuesLeft
one_known = with_left (all_left (world spreading)) (p_at 0) (1 ∷ [])

abbrev pub two_known : ValuesLeft
two_known = with_left one_known (f_at 0) (1 ∷ [])

-- an involution of two elements, all values being tried, and the first of the cells
abbrev pub freely : World
freely = mapping 2 (way InUse First false) involution

-- an event with the values that each cell has left; nothing for a choice
abbrev pub shown : World → Event → Option (List (List ℕ))
shown w choice = None
shown w (leaf p) = Some (map p (all_cells w))

abbrev pub events_in : World → List (Option (List (List ℕ)))
events_in w = map (shown w) (events w)

-- what is still to come of it, where decisions are followed or not
abbrev pub come_with : Bool → List Choice → List (Option (List (List ℕ)))
come_with live cs = map (shown freely) (to_come freely live cs)

abbrev pub constant : ℕ → Tree
constant s = app s none

abbrev pub constant_at : ℕ → Cell
constant_at s = cell Function s []

-- two elements and the constants `a`, `b`, `c` and `d`, which are 2 to 5; `a != 0 | b != 0`,
-- `b != c` and `d = d`
abbrev pub four : World
four = record {
  size = 2;
  fixed = 1;
  clauses =
      (literal false (equal (constant 2) (elem 0)) ∷ literal false (equal (constant 3) (elem 0))
      ∷ []) ∷ (literal false (equal (constant 3) (constant 4)) ∷ [])
      ∷ (literal true (equal (constant 5) (constant 5)) ∷ []) ∷ [];
  blocks =
      record { kind = Function; symbol = 2; arity = 0 }
      ∷ record { kind = Function; symbol = 3; arity = 0 }
      ∷ record { kind = Function; symbol = 4; arity = 0 }
      ∷ record { kind = Function; symbol = 5; arity = 0 } ∷ [];
  way = way All First false;
}

abbrev pub g : Tree → Tree
g t = app 2 (more t none)

abbrev pub g_at : ℕ → Cell
g_at x = cell Function 2 (x ∷ [])

-- three elements and the functions `f` and `g`; `f(f(x)) = x`, `g(f(0)) = 1` and `g(2) != 1`
abbrev pub pair : World
pair = record {
  size = 3;
  fixed = 3;
  clauses =
      (literal true (equal (f (f (var 0))) (var 0)) ∷ [])
      ∷ (literal true (equal (g (f (elem 0))) (elem 1)) ∷ [])
      ∷ (literal false (equal (g (elem 2)) (elem 1)) ∷ []) ∷ [];
  blocks =
      record { kind = Function; symbol = 1; arity = 1 }
      ∷ record { kind = Function; symbol = 2; arity = 1 } ∷ [];
  way = way All MostCrossed true;
}

-- `f(f(x)) = x` and `f(x) != x`, by the least-number heuristic
abbrev pub moving : World
moving =
    mapping 4 (way InUse First true)
    ((literal true (equal (f (f (var 0))) (var 0)) ∷ [])
    ∷ (literal false (equal (f (var 0)) (var 0)) ∷ []) ∷ [])

-- the table that a search begins with, closed
abbrev pub closed_first : World → ValuesLeft
closed_first w = unwrap_or (closure w (all_left w)) (all_left w)

-- what all cells score then, and which is chosen by it
abbrev pub scores_in : (World → ValuesLeft → Cell → ℕ) → World → List ℕ
scores_in f w = map (f w (closed_first w)) (all_cells w)

abbrev pub chosen_first : (World → ValuesLeft → Cell → ℕ) → World → Option Cell
chosen_first f w = let p : ValuesLeft = closed_first w in chosen_for (f w p) w [] p
