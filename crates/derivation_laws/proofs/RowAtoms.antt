-- Input clauses are made of atoms.
use Rattle.std.proofs.Common.{ℕ, ◌+◌, Bool, true, false, if◌then◌else◌, List, [], ◌∷◌, ◌++◌, map, slice_index}
use Rattle.fol_core.specs.Fol.{Fol, verum, falsum, equal, atom, negation, conjunction, disjunction, implication, equivalence, forall, exists}
use Rattle.fol_core.specs.Literals.{ClauseTree}
use Rattle.fol_core.specs.Renumbered.{clause_variables, by_place, renumbered}
use Rattle.fol_problem.specs.Stated.{Said}
use Rattle.fol_core.specs.Substitutions.{Substitution, with_term}
use Rattle.fol_core.specs.Tree.{var}
use Rattle.substitutions.specs.Atoms.{AreAtoms}
use Rattle.clausify.specs.Clausal.{with_each, distributed, literal_clauses, clauses_in}
use Rattle.clausify.specs.Input.{ClauseRow, form, rows_from, all_rows}
use Rattle.clausify.specs.Skolem.{skolem_term, somes}
use Rattle.derivation.specs.Laws.{RowsAreAtoms}
use Rattle.derivation.proofs.PlaceLemmas.{append_atoms}
use Rattle.derivation.proofs.RuleSound.{AllAtoms}
use Rattle.derivation.proofs.Values.{atoms_put}

both_atoms : (cs ds : List ClauseTree) → AllAtoms cs → AllAtoms ds → AllAtoms (cs ++ ds)
both_atoms [] ds h k = k
both_atoms (c ∷ cs) ds h k = (h.0, both_atoms cs ds h.1 k)

each_atoms : (c : ClauseTree) (ds : List ClauseTree) → AreAtoms c → AllAtoms ds → AllAtoms (with_each c ds)
each_atoms c [] h k = tt
each_atoms c (d ∷ ds) h k = (append_atoms c d h k.0, each_atoms c ds h k.1)

distributed_atoms : (cs ds : List ClauseTree) → AllAtoms cs → AllAtoms ds → AllAtoms (distributed cs ds)
distributed_atoms [] ds h k = tt
distributed_atoms (c ∷ cs) ds h k = both_atoms (with_each c ds) (distributed cs ds) (each_atoms c ds h.0 k) (distributed_atoms cs ds h.1 k)

constant_atoms : (b : Bool) → AllAtoms (if b then [] else [] ∷ [])
constant_atoms true = tt
constant_atoms false = (tt, tt)

other_atoms : (b : Bool) → AllAtoms (if b then [] ∷ [] else [])
other_atoms true = (tt, tt)
other_atoms false = tt

literal_atoms : (terms : Substitution) (positive : Bool) (f : Fol) → AllAtoms (literal_clauses terms positive f)
literal_atoms terms positive verum = constant_atoms positive
literal_atoms terms positive falsum = other_atoms positive
literal_atoms terms positive (equal s t) = ((tt, tt), tt)
literal_atoms terms positive (atom r ts) = ((tt, tt), tt)
literal_atoms terms positive (negation f) = tt
literal_atoms terms positive (conjunction f g) = tt
literal_atoms terms positive (disjunction f g) = tt
literal_atoms terms positive (implication f g) = tt
literal_atoms terms positive (equivalence f g) = tt
literal_atoms terms positive (forall x f) = tt
literal_atoms terms positive (exists x f) = tt

pub clause_atoms : (symbols : List ℕ) (k : ℕ) (scope : List ℕ) (terms : Substitution) (f : Fol) → AllAtoms (clauses_in symbols k scope terms f)
clause_atoms symbols k scope terms (conjunction f g) =
    both_atoms (clauses_in symbols k scope terms f) (clauses_in symbols (k + somes f) scope terms g) (clause_atoms symbols k scope terms f) (clause_atoms symbols (k + somes f) scope terms g)
clause_atoms symbols k scope terms (disjunction f g) =
    distributed_atoms (clauses_in symbols k scope terms f) (clauses_in symbols (k + somes f) scope terms g) (clause_atoms symbols k scope terms f) (clause_atoms symbols (k + somes f) scope terms g)
clause_atoms symbols k scope terms (forall x f) = clause_atoms symbols k (scope ++ x ∷ []) terms f
clause_atoms symbols k scope terms (exists y f) = clause_atoms symbols (k + 1) scope (with_term terms y (skolem_term (slice_index symbols k) scope)) f
clause_atoms symbols k scope terms (negation f) = literal_atoms terms false f
clause_atoms symbols k scope terms verum = literal_atoms terms true verum
clause_atoms symbols k scope terms falsum = literal_atoms terms true falsum
clause_atoms symbols k scope terms (equal s t) = literal_atoms terms true (equal s t)
clause_atoms symbols k scope terms (atom r ts) = literal_atoms terms true (atom r ts)
clause_atoms symbols k scope terms (implication f g) = literal_atoms terms true (implication f g)
clause_atoms symbols k scope terms (equivalence f g) = literal_atoms terms true (equivalence f g)

numbered_atoms : (n : ℕ) (cs : List ClauseTree) (rows : List ClauseRow) → AllAtoms cs → RowsAreAtoms rows → RowsAreAtoms (map (λ c. (n, renumbered c)) cs ++ rows)
numbered_atoms n [] rows h k = k
numbered_atoms n (c ∷ cs) rows h k = (atoms_put (by_place (clause_variables c)) c h.0, numbered_atoms n cs rows h.1 k)

rows_atoms : (symbols : List ℕ) (n k : ℕ) (ss : List Said) → RowsAreAtoms (rows_from symbols n k ss)
rows_atoms symbols n k [] = tt
rows_atoms symbols n k (s ∷ ss) =
    numbered_atoms n (clauses_in symbols k [] var (form s)) (rows_from symbols (n + 1) (k + somes (form s)) ss) (clause_atoms symbols k [] var (form s)) (rows_atoms symbols (n + 1) (k + somes (form s)) ss)

-- all clauses of a problem
pub all_atoms : (symbols : List ℕ) (ss : List Said) → RowsAreAtoms (all_rows symbols ss)
all_atoms symbols ss = rows_atoms symbols 1 0 ss
