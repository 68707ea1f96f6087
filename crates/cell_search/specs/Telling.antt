-- What a look at an instance tells, as far as cells have values.
use Rattle.std.specs.Prelude.{ℕ, ◌≡◌, ◌<◌, ◌==◌, Bool, if◌then◌else◌, List, [], ◌∷◌, Option, None, Some}
use Rattle.std.specs.Option.{option_map, option_or}
use Rattle.fol_core.specs.Literals.{ClauseTree, Lit, equality}
use Rattle.fol_core.specs.Tree.{Tree, var, elem, app, Trees, none, more}
use Rattle.fol_core.specs.Truth.{Assignment}
use Rattle.fol_core.specs.declared.symbols.Kind.TheVariants.{Function, Relation}
use Rattle.mace_cells.specs.Trails.{value_in}
use Rattle.mace_cells.specs.World.{World, cell_of, many_cells}
use Rattle.mace_cells.specs.declared.trail.TrailEntry.{TrailEntry}
use Rattle.plain_search.specs.Closing.{Told, nothing, contradiction, asks, joins, told}
use Rattle.plain_search.specs.Fitting.{IsClauseOfCells}
use Rattle.plain_search.specs.Lefts.{ValuesLeft, only_value}
use Rattle.cell_search.specs.Known.{seen, cell_seen, literal_seen}
use Rattle.cell_search.specs.declared.asks.Ask.{Ask}
use Rattle.cell_search.specs.declared.look.Verdict.{Verdict}
use Rattle.cell_search.specs.declared.look.Verdict.TheVariants.{Quiet, Contradiction, Asks}

-- the number of the cell that a term is, where its arguments have values
abbrev pub term_number : World → List TrailEntry → Assignment → Tree → Option ℕ
term_number w es e (var x) = None
term_number w es e (elem k) = None
term_number w es e (app s ts) = cell_seen w es e Function s ts

abbrev pub both_of : Option ℕ → Option ℕ → Option (ℕ × ℕ)
both_of None o = None
both_of (Some k) None = None
both_of (Some k) (Some v) = Some (k, v)

-- the cell that one term is, with the value of the other
abbrev pub sides_seen : World → List TrailEntry → Assignment → Tree → Tree → Option (ℕ × ℕ)
sides_seen w es e s t = both_of (term_number w es e s) (seen w es e t)

-- of an equation the first side that is a cell, where the other has a value
abbrev pub equation_asked : World → List TrailEntry → Assignment → Trees → Option (ℕ × ℕ)
equation_asked w es e (more s (more t none)) =
    option_or (sides_seen w es e s t) (sides_seen w es e t s)
equation_asked w es e ts = None

-- a relation's cell is asked for 1
abbrev pub atom_asked : World → List TrailEntry → Assignment → Tree → Option (ℕ × ℕ)
atom_asked w es e (app r ts) =
    if r == equality then equation_asked w es e ts
    else option_map (λ k. (k, 1)) (cell_seen w es e Relation r ts)
atom_asked w es e t = None

-- that a cell has a value, or hasn't it
abbrev pub ask_for : Bool → ℕ × ℕ → Ask
ask_for positive q = record { cell = q.0; value = q.1; positive = positive }

-- what a literal asks
abbrev pub literal_asked : World → List TrailEntry → Assignment → Lit → Option Ask
literal_asked w es e l = option_map (ask_for l.positive) (atom_asked w es e l.atom)

-- the same in the words of the plain search
abbrev pub told_by : World → Option Ask → Told
told_by w None = nothing
told_by w (Some a) = asks (cell_of w a.cell) a.value a.positive

abbrev pub told_of : World → Verdict → Told
told_of w Quiet = nothing
told_of w Contradiction = contradiction
told_of w (Asks a) = asks (cell_of w a.cell) a.value a.positive

-- what an instance tells by the values of cells
abbrev pub told_seen : World → List TrailEntry → Assignment → ClauseTree → Told
told_seen w es e [] = contradiction
told_seen w es e (l ∷ ls) =
    joins (literal_seen w es e l) (told_by w (literal_asked w es e l)) (told_seen w es e ls)

-- a partial table has one value left in those cells of the world that the steps gave one, and this
-- one
abbrev pub HasValues : World → List TrailEntry → ValuesLeft → Type 0
HasValues w es p = (k : ℕ) → k < many_cells w → only_value (p (cell_of w k)) ≡ value_in es k

-- By such a table an instance of a clause whose terms have cells tells that too.
abbrev pub ToldAsSeen : Type 0
ToldAsSeen =
    (w : World) (es : List TrailEntry) (p : ValuesLeft) (e : Assignment) (ls : ClauseTree)
    → HasValues w es p → IsClauseOfCells w ls → told w.size p e ls ≡ told_seen w es e ls
