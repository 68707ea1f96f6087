-- Negation normal form: a formula is brought to atoms, their denials, "and", "or" and quantifiers.
use Rattle.std.specs.Prelude.{ℕ, ◌+◌, ◌*◌, Bool, true, false}
use Rattle.fol_core.specs.Fol.{Fol, verum, falsum, equal, atom, negation, conjunction, disjunction, implication, equivalence, forall, exists}

-- the negation normal form of a formula where the sign is true, and of its denial where it is false
abbrev pub nnf_of : Bool → Fol → Fol
nnf_of true verum = verum
nnf_of true falsum = falsum
nnf_of true (equal s t) = equal s t
nnf_of true (atom r ts) = atom r ts
nnf_of true (negation f) = nnf_of false f
nnf_of true (conjunction f g) = conjunction (nnf_of true f) (nnf_of true g)
nnf_of true (disjunction f g) = disjunction (nnf_of true f) (nnf_of true g)
nnf_of true (implication f g) = disjunction (nnf_of false f) (nnf_of true g)
nnf_of true (equivalence f g) =
    conjunction (disjunction (nnf_of false f) (nnf_of true g))
    (disjunction (nnf_of false g) (nnf_of true f))
nnf_of true (forall x f) = forall x (nnf_of true f)
nnf_of true (exists x f) = exists x (nnf_of true f)
nnf_of false verum = negation verum
nnf_of false falsum = negation falsum
nnf_of false (equal s t) = negation (equal s t)
nnf_of false (atom r ts) = negation (atom r ts)
nnf_of false (negation f) = nnf_of true f
nnf_of false (conjunction f g) = disjunction (nnf_of false f) (nnf_of false g)
nnf_of false (disjunction f g) = conjunction (nnf_of false f) (nnf_of false g)
nnf_of false (implication f g) = conjunction (nnf_of true f) (nnf_of false g)
nnf_of false (equivalence f g) =
    conjunction (disjunction (nnf_of true f) (nnf_of true g))
    (disjunction (nnf_of false f) (nnf_of false g))
nnf_of false (forall x f) = exists x (nnf_of false f)
nnf_of false (exists x f) = forall x (nnf_of false f)

-- how many clauses a negation normal form gives, before any is dropped: the sum for "and", the
-- product for "or"
abbrev pub clause_count : Fol → ℕ
clause_count (conjunction f g) = clause_count f + clause_count g
clause_count (disjunction f g) = clause_count f * clause_count g
clause_count (forall x f) = clause_count f
clause_count (exists x f) = clause_count f
clause_count f = 1
