-- Which variables have elements.
use Rattle.std.specs.Prelude.{ℕ, ◌<◌, suc, ◌-◌, max, List, [], ◌∷◌, ◌++◌, length, replicate, Option, None, unwrap_or}
use Rattle.std.specs.List.{slice_index_or}
use Rattle.fol_core.specs.Fol.{Fol, verum, falsum, equal, atom, negation, conjunction, disjunction, implication, equivalence, forall, exists}
use Rattle.fol_core.specs.Truth.{Assignment}

-- what the slot of a variable holds, None also where there is no slot
abbrev pub slot : List (Option ℕ) → ℕ → Option ℕ
slot slots x = slice_index_or slots x None

-- the slots with room for the variables below n
abbrev pub with_room : List (Option ℕ) → ℕ → List (Option ℕ)
with_room slots n = slots ++ replicate (n - length slots) None

-- the assignment that the slots give: a variable whose slot is empty or isn't there has 0
abbrev pub assignment : List (Option ℕ) → Assignment
assignment slots x = unwrap_or (slot slots x) 0

-- how many slots the quantifiers of a formula need
abbrev pub room_of : Fol → ℕ
room_of verum = 0
room_of falsum = 0
room_of (equal s t) = 0
room_of (atom r ts) = 0
room_of (negation f) = room_of f
room_of (conjunction f g) = max (room_of f) (room_of g)
room_of (disjunction f g) = max (room_of f) (room_of g)
room_of (implication f g) = max (room_of f) (room_of g)
room_of (equivalence f g) = max (room_of f) (room_of g)
room_of (forall x f) = max (suc x) (room_of f)
room_of (exists x f) = max (suc x) (room_of f)

-- there is room for each of the variables
abbrev pub HasRoom : List ℕ → List (Option ℕ) → Type 0
HasRoom [] slots = Unit {0}
HasRoom (x ∷ xs) slots = (x < length slots) × HasRoom xs slots
