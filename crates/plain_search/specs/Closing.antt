-- Unit closure: what ground clauses ask of cells is done, pass by pass.
use Rattle.std.specs.Prelude.{ℕ, zero, suc, ◌*◌, ◌^◌, ◌==◌, max, Bool, true, false, not, List, [], ◌∷◌, ◌++◌, map, Option, None, Some}
use Rattle.std.specs.List.{range_with_len, filter}
use Rattle.std.specs.Option.{option_and_then}
use Rattle.fol_core.specs.Literals.{ClauseTree}
use Rattle.fol_core.specs.Truth.{Assignment}
use Rattle.mace_cells.specs.World.{World, many_cells}
use Rattle.mace_ground.specs.Cells.{Cell, digits}
use Rattle.mace_ground.specs.Instances.{variables_in, assigned_by}
use Rattle.plain_search.specs.Known.{Side, sides, truth_known}
use Rattle.plain_search.specs.Lefts.{ValuesLeft, with_left}

-- A ground clause tells nothing; or that it is false; or it asks that a cell has a value, or hasn't
-- it.
pub data Told : Type 0 where
  nothing : Told
  contradiction : Told
  asks : Cell → ℕ → Bool → Told

-- a side's cell is asked for the value of the other side
abbrev pub asked_for : Bool → Option Cell → Option ℕ → Told → Told
asked_for positive None o t = t
asked_for positive (Some c) None t = t
asked_for positive (Some c) (Some v) t = asks c v positive

abbrev pub asked_by : Bool → Side × Side → Told
asked_by positive q =
    asked_for positive q.0.cell q.1.value (asked_for positive q.1.cell q.0.value nothing)

-- what a literal and those behind it tell: nothing where one is true; where it is the one that
-- isn't decided, and all others are false, what it asks
abbrev pub joins : Option Bool → Told → Told → Told
joins (Some true) asked rest = nothing
joins (Some false) asked rest = rest
joins None asked nothing = nothing
joins None asked contradiction = asked
joins None asked (asks c v positive) = nothing

abbrev pub told : ℕ → ValuesLeft → Assignment → ClauseTree → Told
told n p e [] = contradiction
told n p e (l ∷ ls) =
    let q : Side × Side = sides n p e l.atom in
    joins (truth_known l.positive q) (asked_by l.positive q) (told n p e ls)

-- a value alone, or all values but this one
abbrev pub kept : Bool → ℕ → List ℕ → List ℕ
kept true v us = filter (λ u. u == v) us
kept false v us = filter (λ u. not (u == v)) us

-- a cell with no value left is a contradiction
abbrev pub narrowed : ValuesLeft → Cell → List ℕ → Option ValuesLeft
narrowed p c [] = None
narrowed p c (v ∷ vs) = Some (with_left p c (v ∷ vs))

abbrev pub followed : ValuesLeft → Told → Option ValuesLeft
followed p nothing = Some p
followed p contradiction = None
followed p (asks c v positive) = narrowed p c (kept positive v (p c))

-- a clause with elements for its variables
pub record Ground : Type 0 where
  pub clause : ClauseTree
  pub elements : List ℕ

abbrev pub ground : ClauseTree → List ℕ → Ground
ground clause elements = record { clause = clause; elements = elements }

-- one pass over ground clauses; None where it meets a contradiction
abbrev pub pass : ℕ → List Ground → ValuesLeft → Option ValuesLeft
pass n [] p = Some p
pass n (g ∷ gs) p =
    option_and_then (pass n gs) (followed p (told n p (assigned_by g.elements) g.clause))

abbrev pub passes : ℕ → ℕ → List Ground → ValuesLeft → Option ValuesLeft
passes zero n gs p = Some p
passes (suc k) n gs p = option_and_then (passes k n gs) (pass n gs p)

-- all ground instances: clause by clause, the last variable running fastest
abbrev pub instances_of : ℕ → List ClauseTree → List Ground
instances_of n [] = []
instances_of n (c ∷ cs) =
    map (λ k. ground c (digits n (variables_in c) k)) (range_with_len 0 (n ^ variables_in c))
    ++ instances_of n cs

-- Passes over all ground instances until a pass meets a contradiction or changes nothing. One that
-- changes something takes a value away, so there are no more of these than values; one more changes
-- nothing.
abbrev pub closure : World → ValuesLeft → Option ValuesLeft
closure w p =
    passes (suc (many_cells w * max w.size 2)) w.size (instances_of w.size w.clauses) p
