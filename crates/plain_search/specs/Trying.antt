-- The plain search: a cell is chosen, and its values are tried one after the other.
use Rattle.std.specs.Prelude.{ℕ, zero, suc, ◌-◌, ◌&&◌, ◌||◌, min, max, nat_le, nat_lt, Bool, true, false, not, is_none, unwrap_or, if◌then◌else◌, List, [], ◌∷◌, map, length, count_by, sum_by, Option, None, Some}
use Rattle.std.specs.List.{range_with_len, filter, flat_map, list_any}
use Rattle.fol_core.specs.Literals.{Lit}
use Rattle.fol_core.specs.Truth.{Assignment}
use Rattle.mace_cells.specs.Choices.{Decision}
use Rattle.mace_cells.specs.Numbers.{above_each, above_used, greatest_tried}
use Rattle.mace_cells.specs.World.{World, cell_of, many_cells}
use Rattle.mace_cells.specs.declared.way.Candidates.{Candidates}
use Rattle.mace_cells.specs.declared.way.Candidates.TheVariants.{All, LeastIndex, InUse}
use Rattle.mace_cells.specs.declared.way.CellMeasure.{CellMeasure}
use Rattle.mace_cells.specs.declared.way.CellMeasure.TheVariants.{First, MostOccurrences, MostAssigned, MostContradicted, MostCrossed}
use Rattle.mace_ground.specs.Cells.{Cell}
use Rattle.mace_ground.specs.Instances.{assigned_by}
use Rattle.model_tables.specs.Size.{bound_of}
use Rattle.plain_search.specs.Closing.{Ground, instances_of, closure}
use Rattle.plain_search.specs.Known.{Side, sides, truth_known}
use Rattle.plain_search.specs.Lefts.{ValuesLeft, is_same_cell, all_left, with_left}

-- a cell is open where it has two values left at least
abbrev pub is_open : List ℕ → Bool
is_open [] = false
is_open (v ∷ []) = false
is_open (v ∷ u ∷ us) = true

abbrev pub all_cells : World → List Cell
all_cells w = map (cell_of w) (range_with_len 0 (many_cells w))

abbrev pub open_cells : World → ValuesLeft → List Cell
open_cells w p = filter (λ c. is_open (p c)) (all_cells w)

-- those of an index up to this one; an index is the least number above the arguments
abbrev pub up_to : ℕ → List Cell → List Cell
up_to k cs = filter (λ c. nat_le (above_each c.arguments) k) cs

abbrev pub least_index : List Cell → ℕ
least_index [] = 0
least_index (c ∷ []) = above_each c.arguments
least_index (c ∷ d ∷ cs) = min (above_each c.arguments) (least_index (d ∷ cs))

-- the open cells that may be chosen where the numbers below `used` are in use
abbrev pub candidates : Candidates → ℕ → List Cell → List Cell
candidates All used cs = cs
candidates LeastIndex used cs = up_to (least_index cs) cs
candidates InUse used cs = up_to (max used (least_index cs)) cs

-- The scores of cells. By the first, a cell counts in each ground clause that isn't known to be true
-- and of which a literal has it as a side: a literal is known to be true by the values of its sides,
abbrev pub is_known_true : ℕ → ValuesLeft → Assignment → Lit → Bool
is_known_true n p e l = unwrap_or (truth_known l.positive (sides n p e l.atom)) false

-- and its sides are cells where their arguments have values
abbrev pub is_cell : Cell → Option Cell → Bool
is_cell c None = false
is_cell c (Some d) = is_same_cell c d

abbrev pub is_side : ℕ → ValuesLeft → Assignment → Cell → Lit → Bool
is_side n p e c l =
    let q : Side × Side = sides n p e l.atom in is_cell c q.0.cell || is_cell c q.1.cell

abbrev pub counts_in : ℕ → ValuesLeft → Cell → Ground → Bool
counts_in n p c g =
    let e : Assignment = assigned_by g.elements in
    not (list_any (is_known_true n p e) g.clause) && list_any (is_side n p e c) g.clause

-- in how many ground clauses a cell counts
abbrev pub occurrences : World → ValuesLeft → Cell → ℕ
occurrences w p c = count_by (counts_in w.size p c) (instances_of w.size w.clauses)

-- By the next two each value that the cell has left is tried, whatever the greatest is that a search
-- tries: the closure with the value
abbrev pub tried_table : World → ValuesLeft → Cell → ℕ → Option ValuesLeft
tried_table w p c v = closure w (with_left p c (v ∷ []))

-- how many other cells it assigns; none where it meets a contradiction
abbrev pub assigned : World → ValuesLeft → Cell → Option ValuesLeft → ℕ
assigned w p c None = 0
assigned w p c (Some q) =
    count_by (λ d. is_open (p d) && (not (is_open (q d)) && not (is_same_cell c d)))
    (all_cells w)

-- how many the values assign together
abbrev pub assignments : World → ValuesLeft → Cell → ℕ
assignments w p c = sum_by (λ v. assigned w p c (tried_table w p c v)) (p c)

-- how many of the values meet a contradiction
abbrev pub contradictions : World → ValuesLeft → Cell → ℕ
contradictions w p c = count_by (λ v. is_none (tried_table w p c v)) (p c)

-- what counts in a cell: nothing; one of these; or how many values are crossed off it
abbrev pub score : CellMeasure → World → ValuesLeft → Cell → ℕ
score First w p c = 0
score MostOccurrences w p c = occurrences w p c
score MostAssigned w p c = assignments w p c
score MostContradicted w p c = contradictions w p c
score MostCrossed w p c = bound_of w.size c.kind - length (p c)

-- the first cell of the greatest score
abbrev pub better : (Cell → ℕ) → Cell → Option Cell → Option Cell
better f c None = Some c
better f c (Some d) = if nat_lt (f c) (f d) then Some d else Some c

abbrev pub best : (Cell → ℕ) → List Cell → Option Cell
best f [] = None
best f (c ∷ cs) = better f c (best f cs)

-- the cell that is chosen by a score behind these decisions, None where no cell is open
abbrev pub chosen_for : (Cell → ℕ) → World → List Decision → ValuesLeft → Option Cell
chosen_for f w ds p =
    best f (candidates w.way.candidates (above_used w.fixed ds) (open_cells w p))

-- and by the score of the world
abbrev pub chosen : World → List Decision → ValuesLeft → Option Cell
chosen w ds p = chosen_for (score w.way.measure w p) w ds p

-- its values left, up to the greatest that is tried
abbrev pub tried : World → List Decision → ValuesLeft → Cell → List ℕ
tried w ds p c = filter (λ v. nat_le v (greatest_tried w ds c)) (p c)

abbrev pub decide : Cell → ℕ → Decision
decide c v = record { cell = c; value = v }

-- what is found below a closed table: itself where no cell is open, and else what is found with
-- each value of the chosen cell
abbrev pub below : (List Decision → ValuesLeft → List ValuesLeft) → World → List Decision →
    ValuesLeft → Option Cell → List ValuesLeft
below find w ds p None = p ∷ []
below find w ds p (Some c) =
    flat_map (λ v. find (decide c v ∷ ds) (with_left p c (v ∷ []))) (tried w ds p c)

abbrev pub behind_closing : (List Decision → ValuesLeft → List ValuesLeft) → World →
    List Decision → Option ValuesLeft → List ValuesLeft
behind_closing find w ds None = []
behind_closing find w ds (Some p) = below find w ds p (chosen w ds p)

-- the leaves of a search that decides fewer than k cells more
abbrev pub leaves_within : ℕ → World → List Decision → ValuesLeft → List ValuesLeft
leaves_within zero w ds p = []
leaves_within (suc k) w ds p = behind_closing (leaves_within k w) w ds (closure w p)

-- the leaves of the plain search, in their order: no more cells are decided than there are
abbrev pub leaves : World → List ValuesLeft
leaves w = leaves_within (suc (many_cells w)) w [] (all_left w)

-- the values that each cell has left in each of them
abbrev pub listed : World → List ValuesLeft → List (List (List ℕ))
listed w ps = map (λ p. map p (all_cells w)) ps
