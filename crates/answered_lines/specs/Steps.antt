-- What steps make of the answers of the clauses that they take. Answers change nothing of what is derived.
use Rattle.std.specs.Prelude.{ℕ, suc, ◌+◌, ◌≡◌, if◌then◌else◌, List, [], ◌∷◌, ◌++◌, map}
use Rattle.answers.specs.AnswerTrees.{Answer, substitute_answers, each_once, numbered_clause, numbered_answers, fresh_for}
use Rattle.derivation.specs.Equations.{left_of, term_below}
use Rattle.derivation.specs.Later.{LaterWord, flipped, merged, reflexive, unit_deleted, rewritten}
use Rattle.derivation.specs.Places.{atom_at}
use Rattle.derivation.specs.Rule.{InferenceRule, UnifiesFamily}
use Rattle.derivation.specs.Words.{only_of}
use Rattle.fol_core.specs.Literals.{ClauseTree}
use Rattle.fol_core.specs.Substitutions.{Substitution, substitute}
use Rattle.fol_core.specs.Tree.{Tree, var}
use Rattle.substitutions.specs.Apart.{Own, instances}
use Rattle.substitutions.specs.Instances.{substitute_clause}
use Rattle.substitutions.specs.Occurring.{has_variable}

-- the answers of several clauses in one list, those of each clause under its own substitution
abbrev pub together : Own → List (List Answer) → List Answer
together own [] = []
together own (us ∷ lists) =
    substitute_answers (own 0) us ++ together (λ k. own (suc k)) lists

-- what unifies all pairs at once, where clauses and answers that another unifying family makes are
-- instances, by one substitution, of those that this one makes
pub record IsMostGeneralWith (r : InferenceRule) (cs : List ClauseTree)
    (answers : List (List Answer)) (own : Own) : Type 0 where
  pub unifies : UnifiesFamily r cs own
  pub general : (other : Own) → UnifiesFamily r cs other → (u : Substitution)
      × (instances other cs ≡ map (substitute_clause u) (instances own cs))
      × (together other answers ≡ substitute_answers u (together own answers))

-- what a rule concludes: a clause, and the answers of all its parents, each once
abbrev pub ConcludesWith : InferenceRule → List ClauseTree → List (List Answer) → ClauseTree →
    List Answer → Type 0
ConcludesWith r cs answers c us =
    (own : Own) × IsMostGeneralWith r cs answers own
    × (c ≡ numbered_clause (r.rest (instances own cs)) (together own answers))
    × (us ≡ each_once (numbered_answers (r.rest (instances own cs)) (together own answers)))

-- the substitution by which a unit or a rule is used: the match for the variables of the term that
-- is matched, and new variables for all others
abbrev pub used_by : Tree → Substitution → ℕ → Substitution
used_by general s fresh = λ x. if has_variable x general then s x else var (x + fresh)

-- the answers of a clause, and behind them those of what is used on it, each once
abbrev pub Joins : Tree → Tree → ClauseTree → List Answer → List Answer → List Answer → Type 0
Joins general special c us bs made =
    (s : Substitution) × (substitute s general ≡ special)
    × (made ≡ each_once (us ++ substitute_answers (used_by general s (fresh_for c us)) bs))

-- the answers of a single clause
abbrev pub only_answers : List (List Answer) → List Answer
only_answers (us ∷ []) = us
only_answers lists = []

-- the answers behind a word that stands behind the first, with the clauses that it takes and theirs
abbrev pub Brings : LaterWord → ClauseTree → List Answer → List ClauseTree → List (List Answer) →
    List Answer → Type 0
Brings (flipped a) c us ps answers made = made ≡ us
Brings (merged a) c us ps answers made = made ≡ us
Brings (reflexive a) c us ps answers made = made ≡ us
Brings (unit_deleted a n) c us ps answers made =
    Joins (atom_at (only_of ps) 0) (atom_at c a) c us (only_answers answers) made
Brings (rewritten n a path) c us ps answers made =
    Joins (left_of (atom_at (only_of ps) 0)) (term_below (atom_at c a) path) c us
    (only_answers answers) made
