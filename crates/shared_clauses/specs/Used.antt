-- Literals that are used on a clause by a match, and stand behind its own.
use Rattle.std.specs.Prelude.{ℕ, ◌+◌, ◌≡◌, if◌then◌else◌, List, ◌++◌, Some}
use Rattle.derivation.specs.Places.{atom_at}
use Rattle.fol_core.specs.Literals.{ClauseTree}
use Rattle.fol_core.specs.Substitutions.{Substitution, substitute}
use Rattle.fol_core.specs.Tree.{Tree, var}
use Rattle.substitutions.specs.Instances.{substitute_clause}
use Rattle.substitutions.specs.Occurring.{has_variable}
use Rattle.substitutions.specs.Paths.{subterm_at}

-- the match for the variables of the term that is matched, and new variables for all others
abbrev pub used_by : Tree → Substitution → ℕ → Substitution
used_by general s fresh = λ x. if has_variable x general then s x else var (x + fresh)

-- where one term is an instance of the other, literals are what a match makes of others
abbrev pub AreUsed : Tree → Tree → ClauseTree → ℕ → ClauseTree → Type 0
AreUsed general special used fresh made =
    (t : Substitution) → substitute t general ≡ special
    → (s : Substitution) × (substitute s general ≡ special)
    × (made ≡ substitute_clause (used_by general s fresh) used)

-- so the literals behind a clause, by a match of a term onto the one at a path of a literal
abbrev pub IsUsedOn : ClauseTree → ℕ → List ℕ → Tree → ClauseTree → ℕ → ClauseTree → Type 0
IsUsedOn c place path general used fresh d =
    (made : ClauseTree) × (d ≡ c ++ made)
    × ((special : Tree) → subterm_at (atom_at c place) path ≡ Some special
    → AreUsed general special used fresh made)
