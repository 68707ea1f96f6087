-- Tables with the values of Skolem symbols.
use Rattle.std.specs.Prelude.{ℕ, zero, suc, ◌≡◌, ◌↔◌, ◌⊎◌, ◌+◌, ◌^◌, ◌<◌, ◌≤◌, List, [], ◌∷◌, length, slice_index}
use Rattle.fol_core.specs.Fol.{Fol}
use Rattle.fol_problem.specs.Stated.{Said, IsCountermodel, AreNewTo}
use Rattle.fol_core.specs.Truth.{Assignment, with_var, Holds}
use Rattle.fol_core.specs.SkolemAxioms.{SkolemAxiom, PicksWitnesses, AreNotIn, IsApart, AreInOrder}
use Rattle.fol_core.specs.declared.symbols.Kind.TheVariants.{Function}
use Rattle.model_tables.specs.Size.{AllBelow}
use Rattle.model_tables.specs.Tables.{Listing, Finite, listing, row_of, place_from, meaning_of}

-- these elements for the variables, and 0 for all others
abbrev pub assigned : List ℕ → List ℕ → Assignment
assigned [] ns = λ y. 0
assigned (x ∷ xs) [] = λ y. 0
assigned (x ∷ xs) (n ∷ ns) = with_var (assigned xs ns) x n

-- the body is true with this element in place of the replaced variable
abbrev pub IsWitness : Finite → Assignment → SkolemAxiom → ℕ → Type 0
IsWitness t e w n = Holds (meaning_of t) (with_var e w.variable n) w.body

-- v is the least element that makes the body true, or 0 where none does
abbrev pub IsLeastWitness : Finite → Assignment → SkolemAxiom → ℕ → Type 0
IsLeastWitness t e w v =
    ((v ≤ t.top) × IsWitness t e w v × ((n : ℕ) → n < v → ¬ IsWitness t e w n))
    ⊎ ((v ≡ 0) × ((n : ℕ) → n ≤ t.top → ¬ IsWitness t e w n))

-- a value for each list of arguments, the last argument running fastest: the least witness for them
abbrev pub AreLeastWitnesses : Finite → SkolemAxiom → List ℕ → Type 0
AreLeastWitnesses t w values =
    (length values ≡ (t.top + 1) ^ length w.variables)
    × ((ns : List ℕ) → length ns ≡ length w.variables → AllBelow (t.top + 1) ns →
    IsLeastWitness t (assigned w.variables ns) w
    (slice_index values (place_from (t.top + 1) 0 ns)))

-- the rows with this one for a symbol; a symbol before it that had none has no entry
abbrev pub with_row : List Listing → ℕ → Listing → List Listing
with_row [] zero l = l ∷ []
with_row [] (suc s) l = listing Function [] ∷ with_row [] s l
with_row (r ∷ rs) zero l = l ∷ rs
with_row (r ∷ rs) (suc s) l = r ∷ with_row rs s l

-- the tables with these values for a function
abbrev pub with_values : Finite → ℕ → List ℕ → Finite
with_values t s values = record { top = t.top; rows = with_row t.rows s (listing Function values) }

-- how many values are put in for all of them
abbrev pub skolem_cells : ℕ → List SkolemAxiom → ℕ
skolem_cells n [] = 0
skolem_cells n (w ∷ ws) = n ^ length w.variables + skolem_cells n ws

-- the second tables are the first ones with the least witnesses for each symbol, one symbol after
-- the other
abbrev pub IsExpansion : Finite → List SkolemAxiom → Finite → Type 0
IsExpansion t [] u = u ≡ t
IsExpansion t (w ∷ ws) u =
    (values : List ℕ)
    × (AreLeastWitnesses t w values × IsExpansion (with_values t w.symbol values) ws u)

-- there is an expansion of all tables
abbrev pub SomeExpansion : Type 0
SomeExpansion = (t : Finite) (ws : List SkolemAxiom) → (u : Finite) × IsExpansion t ws u

-- and no other one
abbrev pub OneExpansion : Type 0
OneExpansion =
    (t u v : Finite) (ws : List SkolemAxiom) → IsExpansion t ws u → IsExpansion t ws v → u ≡ v

-- where each body has symbols of those before alone, the expansion picks witnesses
abbrev pub ExpansionPicks : Type 0
ExpansionPicks =
    (t u : Finite) (ws : List SkolemAxiom) → AreInOrder ws → IsExpansion t ws u →
    PicksWitnesses (meaning_of u) ws

-- it has the tables of all other symbols
abbrev pub ExpansionKeeps : Type 0
ExpansionKeeps =
    (t u : Finite) (ws : List SkolemAxiom) → IsExpansion t ws u → (u.top ≡ t.top)
    × ((s : ℕ) → IsApart s ws → row_of u s ≡ row_of t s)

-- so what has no Skolem symbol is as true as before
abbrev pub ExpansionSays : Type 0
ExpansionSays =
    (t u : Finite) (ws : List SkolemAxiom) → IsExpansion t ws u →
    (((e : Assignment) (f : Fol) → AreNotIn ws f → Holds (meaning_of u) e f
    ↔ Holds (meaning_of t) e f)
    × ((ss : List Said) → AreNewTo ss ws → IsCountermodel (meaning_of u) ss
    ↔ IsCountermodel (meaning_of t) ss))
