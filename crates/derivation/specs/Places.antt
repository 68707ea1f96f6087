-- The literals of a clause by their places, counted from 0.
use Rattle.std.specs.Prelude.{ℕ, zero, suc, Bool, true, false, ◌&&◌, ◌||◌, if◌then◌else◌, [], ◌∷◌}
use Rattle.fol_core.specs.Tree.{Tree, var}
use Rattle.fol_core.specs.Literals.{literal, ClauseTree}

-- whether two signs are one
abbrev pub same_sign : Bool → Bool → Bool
same_sign true sign = sign
same_sign false true = false
same_sign false false = true

-- whether there is a literal of the sign at the place
abbrev pub has_literal : Bool → ClauseTree → ℕ → Bool
has_literal sign [] a = false
has_literal sign (l ∷ c) zero = same_sign sign l.positive
has_literal sign (l ∷ c) (suc a) = has_literal sign c a

-- whether there is one of either sign
abbrev pub has_place : ClauseTree → ℕ → Bool
has_place c a = has_literal true c a || has_literal false c a

-- the atom at the place
abbrev pub atom_at : ClauseTree → ℕ → Tree
atom_at [] a = var 0
atom_at (l ∷ c) zero = l.atom
atom_at (l ∷ c) (suc a) = atom_at c a

-- the literals but for those at the places that pass a test
abbrev pub others : (ℕ → Bool) → ClauseTree → ClauseTree
others test [] = []
others test (l ∷ c) =
    if test 0 then others (λ k. test (suc k)) c else l ∷ others (λ k. test (suc k)) c

-- the clause with another atom at the place, under the sign there
abbrev pub with_atom : ClauseTree → ℕ → Tree → ClauseTree
with_atom [] a t = []
with_atom (l ∷ c) zero t = literal l.positive t ∷ c
with_atom (l ∷ c) (suc a) t = l ∷ with_atom c a t

-- whether the places have literals of one sign, or of opposite ones
abbrev pub are_alike : ClauseTree → ℕ → ClauseTree → ℕ → Bool
are_alike c a d b =
    (has_literal true c a && has_literal true d b)
    || (has_literal false c a && has_literal false d b)

abbrev pub are_opposite : ClauseTree → ℕ → ClauseTree → ℕ → Bool
are_opposite c a d b =
    (has_literal true c a && has_literal false d b)
    || (has_literal false c a && has_literal true d b)
