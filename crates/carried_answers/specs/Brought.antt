-- Literals behind a clause with its answers, for those of a unit or a rule that a word uses.
use Rattle.std.specs.Prelude.{ℕ, ◌≡◌, IsTrue, List, [], ◌++◌, Some}
use Rattle.answered_lines.specs.Steps.{only_answers, used_by}
use Rattle.answers.specs.AnswerTrees.{Answer, above_all, each_once, substitute_answers}
use Rattle.answers.specs.Packed.{packed}
use Rattle.derivation.specs.Equations.{left_of, term_below}
use Rattle.derivation.specs.Later.{LaterWord, flipped, merged, reflexive, unit_deleted, rewritten, later_fits, Leads}
use Rattle.derivation.specs.Places.{atom_at}
use Rattle.derivation.specs.Words.{only_of}
use Rattle.fol_core.specs.Literals.{ClauseTree}
use Rattle.fol_core.specs.Renumbered.{clause_variables}
use Rattle.fol_core.specs.Substitutions.{Substitution, substitute}
use Rattle.fol_core.specs.Tree.{Tree}
use Rattle.substitutions.specs.Paths.{subterm_at}

-- what a match makes of answers, with variables that are new behind a clause
abbrev pub AreUsedOn : Tree → Tree → ClauseTree → List Answer → ClauseTree → Type 0
AreUsedOn general special c us made =
    (s : Substitution) × (substitute s general ≡ special)
    × (made ≡ packed (substitute_answers (used_by general s (above_all (clause_variables c))) us))

-- they stand behind it where the term at a path is an instance of another one
abbrev pub IsUsedAt : ClauseTree → ℕ → List ℕ → Tree → List Answer → ClauseTree → Type 0
IsUsedAt c place path general us d =
    (made : ClauseTree) × (d ≡ c ++ made)
    × ((special : Tree) (t : Substitution) → subterm_at (atom_at c place) path ≡ Some special
    → substitute t general ≡ special → AreUsedOn general special c us made)

-- the answers that a word brings
abbrev pub AreBrought : LaterWord → ClauseTree → List ClauseTree → List (List Answer) → ClauseTree →
    Type 0
AreBrought (flipped a) c ps answers made = made ≡ []
AreBrought (merged a) c ps answers made = made ≡ []
AreBrought (reflexive a) c ps answers made = made ≡ []
AreBrought (unit_deleted a n) c ps answers made =
    AreUsedOn (atom_at (only_of ps) 0) (atom_at c a) c (only_answers answers) made
AreBrought (rewritten n a path) c ps answers made =
    AreUsedOn (left_of (atom_at (only_of ps) 0)) (term_below (atom_at c a) path) c
    (only_answers answers) made

-- they stand behind the clause where the word leads on
abbrev pub BringsBehind : LaterWord → ClauseTree → List ClauseTree → List (List Answer) →
    ClauseTree → Type 0
BringsBehind w c ps answers d =
    (made : ClauseTree) × (d ≡ c ++ made)
    × (IsTrue (later_fits w c ps) → (e : ClauseTree) → Leads w c ps e
    → AreBrought w c ps answers made)

-- with some that are brought, each stands once
abbrev pub settled : LaterWord → List Answer → List Answer
settled (flipped a) us = us
settled (merged a) us = us
settled (reflexive a) us = us
settled (unit_deleted a n) us = each_once us
settled (rewritten n a path) us = each_once us
