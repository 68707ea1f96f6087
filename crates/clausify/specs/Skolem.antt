-- Skolem terms in a negation normal form.
use Rattle.std.specs.Prelude.{ℕ, ◌+◌, List, [], ◌∷◌, ◌++◌, map, slice_index}
use Rattle.fol_core.specs.Tree.{Tree, var, app, trees_of}
use Rattle.fol_core.specs.Fol.{Fol, verum, falsum, equal, atom, negation, conjunction, disjunction, implication, equivalence, forall, exists}
use Rattle.fol_core.specs.Substitutions.{Substitution, with_term, substitute, substitute_all}
use Rattle.fol_core.specs.SkolemAxioms.{SkolemAxiom}

-- a formula with terms put in for its variables; its quantifiers stay
abbrev pub substitute_in : Substitution → Fol → Fol
substitute_in terms verum = verum
substitute_in terms falsum = falsum
substitute_in terms (equal s t) = equal (substitute terms s) (substitute terms t)
substitute_in terms (atom r ts) = atom r (substitute_all terms ts)
substitute_in terms (negation f) = negation (substitute_in terms f)
substitute_in terms (conjunction f g) = conjunction (substitute_in terms f) (substitute_in terms g)
substitute_in terms (disjunction f g) = disjunction (substitute_in terms f) (substitute_in terms g)
substitute_in terms (implication f g) = implication (substitute_in terms f) (substitute_in terms g)
substitute_in terms (equivalence f g) = equivalence (substitute_in terms f) (substitute_in terms g)
substitute_in terms (forall x f) = forall x (substitute_in terms f)
substitute_in terms (exists x f) = exists x (substitute_in terms f)

-- a symbol applied to variables
abbrev pub skolem_term : ℕ → List ℕ → Tree
skolem_term symbol variables = app symbol (trees_of (map var variables))

-- how many existential variables a negation normal form has
abbrev pub somes : Fol → ℕ
somes (conjunction f g) = somes f + somes g
somes (disjunction f g) = somes f + somes g
somes (forall x f) = somes f
somes (exists x f) = somes f + 1
somes f = 0

-- how many arguments the Skolem symbol of each has, in preorder: one for each universal variable in
-- scope
abbrev pub arities : ℕ → Fol → List ℕ
arities n (conjunction f g) = arities n f ++ arities n g
arities n (disjunction f g) = arities n f ++ arities n g
arities n (forall x f) = arities (n + 1) f
arities n (exists x f) = n ∷ arities n f
arities n f = []

-- What each is to pick: the symbols are numbers by the place of their existential variable, the
-- first being at place k; the scope has the universal variables around, outermost first; and terms
-- stand for the existential variables around.
abbrev pub skolem_axioms : List ℕ → ℕ → List ℕ → Substitution → Fol → List SkolemAxiom
skolem_axioms symbols k scope terms (conjunction f g) =
    skolem_axioms symbols k scope terms f ++ skolem_axioms symbols (k + somes f) scope terms g
skolem_axioms symbols k scope terms (disjunction f g) =
    skolem_axioms symbols k scope terms f ++ skolem_axioms symbols (k + somes f) scope terms g
skolem_axioms symbols k scope terms (forall x f) = skolem_axioms symbols k (scope ++ x ∷ []) terms f
skolem_axioms symbols k scope terms (exists y f) =
    record {
      symbol = slice_index symbols k;
      variables = scope;
      variable = y;
      body = substitute_in terms f;
    }
    ∷ skolem_axioms symbols (k + 1) scope
    (with_term terms y (skolem_term (slice_index symbols k) scope)) f
skolem_axioms symbols k scope terms f = []
