-- The marks of clauses: numbers for the symbols in them, by their places. What subsumes a clause has no other marks than that.
use Rattle.std.specs.Prelude.{ℕ, ◌+◌, ◌*◌, ◌%◌, ◌^◌, Bool, if◌then◌else◌, List, [], ◌∷◌, ◌++◌}
use Rattle.fol_core.specs.Literals.{ClauseTree}
use Rattle.fol_core.specs.Tree.{Tree, var, elem, app, Trees, none, more}

-- a number made of two others; it wraps
unfoldable pub mixed : ℕ → ℕ → ℕ
mixed m n = (m * 11400714819323198485 % 2 ^ 64 + n) % 2 ^ 64

-- the number of an atom's place, by its literal's sign
abbrev pub place_of : Bool → ℕ
place_of positive = if positive then 1 else 2

abbrev mutual
  -- of a term at a place: a mark for each symbol, made of the symbol and its place
  pub term_marks : ℕ → Tree → List ℕ
  term_marks place (var x) = []
  term_marks place (elem k) = []
  term_marks place (app f ts) = mixed place f ∷ terms_marks (mixed place f) 1 ts

  -- the place of an argument is made of the mark of its application and its number
  pub terms_marks : ℕ → ℕ → Trees → List ℕ
  terms_marks mark i none = []
  terms_marks mark i (more t ts) = term_marks (mixed mark i) t ++ terms_marks mark (i + 1) ts

-- of a clause
abbrev pub marks_of : ClauseTree → List ℕ
marks_of [] = []
marks_of (l ∷ c) = term_marks (place_of l.positive) l.atom ++ marks_of c
