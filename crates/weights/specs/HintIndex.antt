-- Hints by the symbols that their literals begin with.
use Rattle.std.specs.Prelude.{ℕ, ◌≡◌, ◌+◌, ◌*◌, ◌%◌, ◌<◌, ◌==◌, Bool, true, false, if◌then◌else◌, List, [], ◌∷◌, ◌++◌, Option, None, Some, length, map, slice_get}
use Rattle.std.specs.Global.{Vec}
use Rattle.std.specs.List.{list_any}
use Rattle.std.specs.Option.{option_map_or}
use Rattle.fol_core.specs.Literals.{Lit, ClauseTree}
use Rattle.fol_core.specs.Tree.{Tree, var, elem, app, Trees, none, more}
use Rattle.prover_steps.specs.Subsuming.{subsumes}
use Rattle.weights.specs.Hints.{HintRow}

-- what a term begins with: one more than its symbol, and 0 where there is none
abbrev pub head_mark : Tree → ℕ
head_mark (var x) = 0
head_mark (elem k) = 0
head_mark (app g ts) = g + 1

-- and what the first of some arguments begins with
abbrev pub first_mark : Trees → ℕ
first_mark none = 0
first_mark (more t ts) = head_mark t

-- a number for a sign
abbrev pub sign_mark : Bool → ℕ
sign_mark true = 1
sign_mark false = 0

-- the row, of so many, of a sign, a symbol, and what its first argument begins with
abbrev pub row_of : ℕ → Bool → ℕ → ℕ → ℕ
row_of n positive f mark = ((f * 31 + mark) * 2 + sign_mark positive) % n

-- the row in which an atom of a clause is looked up
abbrev pub row_for : ℕ → Bool → Tree → Option ℕ
row_for n positive (var x) = None
row_for n positive (elem k) = None
row_for n positive (app f ts) = Some (row_of n positive f (first_mark ts))

-- the rows in which a hint stands by an atom: that of its symbol alone too
abbrev pub rows_by : ℕ → Bool → Tree → List ℕ
rows_by n positive (var x) = []
rows_by n positive (elem k) = []
rows_by n positive (app f ts) =
    row_of n positive f 0 ∷ row_of n positive f (first_mark ts) ∷ []

-- and by all its literals
abbrev pub rows_of : ℕ → ClauseTree → List ℕ
rows_of n [] = []
rows_of n (l ∷ c) = rows_by n l.positive l.atom ++ rows_of n c

abbrev pub is_among : List ℕ → ℕ → Bool
is_among qs r = list_any (λ q. q == r) qs

-- whether the first row is one in which a literal of a clause is looked up
abbrev pub looks_up : ℕ → ℕ → Lit → Bool
looks_up n r l = option_map_or (λ q. q == r) (row_for n l.positive l.atom) false

-- the places, from 0, of the hints that stand in a row, among so many rows
abbrev pub places_in : ℕ → ℕ → List HintRow → List ℕ
places_in n r [] = []
places_in n r (h ∷ hs) =
    (if is_among (rows_of n h.clause) r then 0 ∷ [] else [])
    ++ map (λ i. i + 1) (places_in n r hs)

-- what stands in a row
abbrev pub row_items : List (Vec ℕ) → ℕ → List ℕ
row_items rows r = option_map_or (λ v. v.items) (slice_get rows r) []

-- each row has the places of the hints that stand in it
abbrev pub AreIndexed : List (Vec ℕ) → List HintRow → Type 0
AreIndexed rows hs =
    (r : ℕ) → r < length rows → row_items rows r ≡ places_in (length rows) r hs

-- the first of the hints at some places that a clause matches
abbrev pub first_among : List HintRow → ClauseTree → List ℕ → Option ℕ
first_among hs c [] = None
first_among hs c (p ∷ ps) =
    if option_map_or (λ h. subsumes c h.clause) (slice_get hs p) false then Some p
    else first_among hs c ps
