-- The words behind the first one of a line.
use Rattle.std.specs.Prelude.{ℕ, ◌≡◌, ◌<◌, Bool, true, false, ◌==◌, ◌&&◌, List, [], ◌∷◌, Some, slice_get}
use Rattle.std.specs.List.{list_all}
use Rattle.fol_core.specs.Free.{variables_of}
use Rattle.fol_core.specs.Literals.{ClauseTree}
use Rattle.fol_core.specs.Substitutions.{Substitution, substitute}
use Rattle.fol_core.specs.Tree.{Tree}
use Rattle.substitutions.specs.Occurring.{has_variable}
use Rattle.substitutions.specs.Paths.{replaced}
use Rattle.derivation.specs.Equations.{equation, is_equation, left_of, right_of, below, is_there}
use Rattle.derivation.specs.Places.{has_literal, has_place, atom_at, others, with_atom, are_opposite}
use Rattle.derivation.specs.Words.{is_one_clause, only_of}

-- a word with its literal, and with the number of its clause and its path where it has one
pub data LaterWord : Type 0 where
  flipped : ℕ → LaterWord
  merged : ℕ → LaterWord
  reflexive : ℕ → LaterWord
  unit_deleted : ℕ → ℕ → LaterWord
  rewritten : ℕ → ℕ → List ℕ → LaterWord

-- the numbers of the clauses that it takes
abbrev pub later_parents : LaterWord → List ℕ
later_parents (flipped a) = []
later_parents (merged a) = []
later_parents (reflexive a) = []
later_parents (unit_deleted a n) = n ∷ []
later_parents (rewritten n a path) = n ∷ []

-- whether a clause is one literal
abbrev pub is_unit : ClauseTree → Bool
is_unit (l ∷ []) = true
is_unit c = false

-- whether it is an equation whose right side has no variable of its own
abbrev pub is_rule_equation : Tree → Bool
is_rule_equation t =
    is_equation t && list_all (λ x. has_variable x (left_of t)) (variables_of (right_of t))

-- whether the places are there, and of the kinds and signs that the word takes
abbrev pub later_fits : LaterWord → ClauseTree → List ClauseTree → Bool
later_fits (flipped a) c ps = has_place c a && is_equation (atom_at c a)
later_fits (merged a) c ps = has_place c a
later_fits (reflexive a) c ps = has_literal false c a && is_equation (atom_at c a)
later_fits (unit_deleted a n) c ps =
    is_one_clause ps && (is_unit (only_of ps) && are_opposite c a (only_of ps) 0)
later_fits (rewritten n a path) c ps =
    is_one_clause ps
    && (is_unit (only_of ps)
    && (has_literal true (only_of ps) 0
    && (is_rule_equation (atom_at (only_of ps) 0)
    && (has_place c a && is_there (below (atom_at c a) path)))))

-- an earlier literal is the same
abbrev pub IsRepeated : ClauseTree → ℕ → Type 0
IsRepeated c a = (b : ℕ) × (b < a) × (slice_get c b ≡ slice_get c a)

-- what a word makes of a clause, with the clauses that it takes
abbrev pub Leads : LaterWord → ClauseTree → List ClauseTree → ClauseTree → Type 0
-- s = t | C / t = s | C, under either sign
Leads (flipped a) c ps d =
    d ≡ with_atom c a (equation (right_of (atom_at c a)) (left_of (atom_at c a)))
-- L | C, where L is in C / C
Leads (merged a) c ps d = IsRepeated c a × (d ≡ others (λ k. k == a) c)
-- t != t | C / C
Leads (reflexive a) c ps d =
    (left_of (atom_at c a) ≡ right_of (atom_at c a)) × (d ≡ others (λ k. k == a) c)
-- A[s] | C, -A / C
Leads (unit_deleted a n) c ps d =
    ((s : Substitution) × (substitute s (atom_at (only_of ps) 0) ≡ atom_at c a))
    × (d ≡ others (λ k. k == a) c)
-- L[u[s]] | C, u = v / L[v[s]] | C
Leads (rewritten n a path) c ps d =
    (s : Substitution)
    × (below (atom_at c a) path ≡ Some (substitute s (left_of (atom_at (only_of ps) 0))))
    × (d ≡ with_atom c a
    (replaced (atom_at c a) path (substitute s (right_of (atom_at (only_of ps) 0)))))
