-- The clauses of a negation normal form.
use Rattle.std.specs.Prelude.{ℕ, ◌+◌, if◌then◌else◌, Bool, true, false, List, [], ◌∷◌, ◌++◌, slice_index}
use Rattle.fol_core.specs.Tree.{app, none, more}
use Rattle.fol_core.specs.Fol.{Fol, verum, falsum, equal, atom, negation, conjunction, disjunction, forall, exists}
use Rattle.fol_core.specs.Literals.{literal, ClauseTree, equality}
use Rattle.fol_core.specs.Substitutions.{Substitution, with_term, substitute, substitute_all}
use Rattle.clausify.specs.Skolem.{skolem_term, somes}

-- the literals of a clause and of each of some others
abbrev pub with_each : ClauseTree → List ClauseTree → List ClauseTree
with_each c [] = []
with_each c (d ∷ ds) = (c ++ d) ∷ with_each c ds

-- for each of the clauses in order and each of the others in order, the literals of both
abbrev pub distributed : List ClauseTree → List ClauseTree → List ClauseTree
distributed [] ds = []
distributed (c ∷ cs) ds = with_each c ds ++ distributed cs ds

-- the one clause of an atom or its denial; "true" and "not false" have no clause, "false" and "not
-- true" the empty one
abbrev pub literal_clauses : Substitution → Bool → Fol → List ClauseTree
literal_clauses terms positive verum = if positive then [] else [] ∷ []
literal_clauses terms positive falsum = if positive then [] ∷ [] else []
literal_clauses terms positive (equal s t) =
    (literal positive (app equality (more (substitute terms s) (more (substitute terms t) none)))
    ∷ []) ∷ []
literal_clauses terms positive (atom r ts) =
    (literal positive (app r (substitute_all terms ts)) ∷ []) ∷ []
literal_clauses terms positive f = []

-- The clauses of a negation normal form, with Skolem terms put in: those of "A and B" are A's, then
-- B's; those of "A or B" the crossed ones, where a clause with "true" is dropped and "false" is
-- left out. Symbols, scope and terms as for witnesses.
abbrev pub clauses_in : List ℕ → ℕ → List ℕ → Substitution → Fol → List ClauseTree
clauses_in symbols k scope terms (conjunction f g) =
    clauses_in symbols k scope terms f ++ clauses_in symbols (k + somes f) scope terms g
clauses_in symbols k scope terms (disjunction f g) =
    distributed (clauses_in symbols k scope terms f)
    (clauses_in symbols (k + somes f) scope terms g)
clauses_in symbols k scope terms (forall x f) = clauses_in symbols k (scope ++ x ∷ []) terms f
clauses_in symbols k scope terms (exists y f) =
    clauses_in symbols (k + 1) scope (with_term terms y (skolem_term (slice_index symbols k) scope))
    f
clauses_in symbols k scope terms (negation f) = literal_clauses terms false f
clauses_in symbols k scope terms f = literal_clauses terms true f
