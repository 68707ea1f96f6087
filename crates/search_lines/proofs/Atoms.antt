-- What holds of each atom and variable of a formula holds, with Skolem terms put in, of each atom of its clauses.
use Rattle.std.proofs.Common.{ℕ, ◌+◌, ◌==◌, Bool, true, false, if◌then◌else◌, List, [], ◌∷◌, ◌++◌, map, slice_index}
use Rattle.std.specs.List.{AllByRecursion}
use Rattle.clausify.specs.Clausal.{with_each, distributed, literal_clauses, clauses_in}
use Rattle.clausify.specs.Forms.{nnf_of}
use Rattle.clausify.specs.Input.{ClauseRow, is_taken, form, rows_from, axioms_from}
use Rattle.clausify.specs.Skolem.{skolem_term, somes, skolem_axioms}
use Rattle.fol_core.specs.Fol.{Fol, verum, falsum, equal, atom, negation, conjunction, disjunction, implication, equivalence, forall, exists}
use Rattle.fol_core.specs.Free.{is_in, noted, joined, without, variables_of, free_vars_of, closed_over, closure_of}
use Rattle.fol_core.specs.Literals.{Lit, ClauseTree, equality}
use Rattle.fol_core.specs.Renumbered.{renumbered}
use Rattle.fol_core.specs.SkolemAxioms.{SkolemAxiom}
use Rattle.fol_problem.specs.Stated.{Said}
use Rattle.fol_core.specs.Substitutions.{Substitution, with_term, substitute}
use Rattle.fol_core.specs.Tree.{Tree, var, app, none, more}
use Rattle.fol_core.proofs.Places.{all_push}
use Rattle.prover_steps.proofs.Lists.{all_append}
use Rattle.search_lines.proofs.Lists.{all_front, all_back}

-- it holds of each atom of a formula, and V of the variable of each quantifier
abbrev pub Atoms : (ℕ → Type 0) → (Tree → Type 0) → Fol → Type 0
Atoms V A verum = Unit {0}
Atoms V A falsum = Unit {0}
Atoms V A (equal s t) = A (app equality (more s (more t none)))
Atoms V A (atom r ts) = A (app r ts)
Atoms V A (negation f) = Atoms V A f
Atoms V A (conjunction f g) = Atoms V A f × Atoms V A g
Atoms V A (disjunction f g) = Atoms V A f × Atoms V A g
Atoms V A (implication f g) = Atoms V A f × Atoms V A g
Atoms V A (equivalence f g) = Atoms V A f × Atoms V A g
Atoms V A (forall x f) = V x × Atoms V A f
Atoms V A (exists x f) = V x × Atoms V A f

-- of each atom of a clause, and of some
abbrev pub AllAtoms : (Tree → Type 0) → ClauseTree → Type 0
AllAtoms A c = AllByRecursion (λ (l : Lit). A l.atom) c

abbrev InClauses : (Tree → Type 0) → List ClauseTree → Type 0
InClauses A cs = AllByRecursion (AllAtoms A) cs

-- two things that hold of each atom
pub atoms_both : (V W : ℕ → Type 0) (A B : Tree → Type 0) (f : Fol) → Atoms V A f → Atoms W B f → Atoms V (λ t. A t × B t) f
atoms_both V W A B verum h k = tt
atoms_both V W A B falsum h k = tt
atoms_both V W A B (equal s t) h k = (h, k)
atoms_both V W A B (atom r ts) h k = (h, k)
atoms_both V W A B (negation f) h k = atoms_both V W A B f h k
atoms_both V W A B (conjunction f g) h k = (atoms_both V W A B f h.0 k.0, atoms_both V W A B g h.1 k.1)
atoms_both V W A B (disjunction f g) h k = (atoms_both V W A B f h.0 k.0, atoms_both V W A B g h.1 k.1)
atoms_both V W A B (implication f g) h k = (atoms_both V W A B f h.0 k.0, atoms_both V W A B g h.1 k.1)
atoms_both V W A B (equivalence f g) h k = (atoms_both V W A B f h.0 k.0, atoms_both V W A B g h.1 k.1)
atoms_both V W A B (forall x f) h k = (h.0, atoms_both V W A B f h.1 k.1)
atoms_both V W A B (exists x f) h k = (h.0, atoms_both V W A B f h.1 k.1)

-- what holds of each of some numbers
module _ (V : ℕ → Type 0) where
  abbrev InAll : List ℕ → Type 0
  InAll xs = AllByRecursion V xs

  noted_all : (xs : List ℕ) (y : ℕ) → InAll xs → V y → InAll (noted xs y)
  noted_all xs y h k = by (is_in y xs)
    where
      by : (b : Bool) → InAll (if b then xs else xs ++ y ∷ [])
      by true = h
      by false = all_push V xs y h k

  pub joined_all : (xs ys : List ℕ) → InAll xs → InAll ys → InAll (joined xs ys)
  joined_all xs [] h k = h
  joined_all xs (y ∷ ys) h k = joined_all (noted xs y) ys (noted_all xs y h k.0) k.1

  without_all : (x : ℕ) (ys : List ℕ) → InAll ys → InAll (without x ys)
  without_all x [] h = tt
  without_all x (y ∷ ys) h = by (y == x) (without_all x ys h.1)
    where
      by : (b : Bool) → InAll (without x ys) → InAll (if b then without x ys else y ∷ without x ys)
      by true k = k
      by false k = (h.0, k)

module _ (V : ℕ → Type 0) (A : Tree → Type 0) where
  nnf_atoms : (b : Bool) (f : Fol) → Atoms V A f → Atoms V A (nnf_of b f)
  nnf_atoms true verum h = h
  nnf_atoms true falsum h = h
  nnf_atoms true (equal s t) h = h
  nnf_atoms true (atom r ts) h = h
  nnf_atoms true (negation f) h = nnf_atoms false f h
  nnf_atoms true (conjunction f g) h = (nnf_atoms true f h.0, nnf_atoms true g h.1)
  nnf_atoms true (disjunction f g) h = (nnf_atoms true f h.0, nnf_atoms true g h.1)
  nnf_atoms true (implication f g) h = (nnf_atoms false f h.0, nnf_atoms true g h.1)
  nnf_atoms true (equivalence f g) h = ((nnf_atoms false f h.0, nnf_atoms true g h.1), (nnf_atoms false g h.1, nnf_atoms true f h.0))
  nnf_atoms true (forall x f) h = (h.0, nnf_atoms true f h.1)
  nnf_atoms true (exists x f) h = (h.0, nnf_atoms true f h.1)
  nnf_atoms false verum h = h
  nnf_atoms false falsum h = h
  nnf_atoms false (equal s t) h = h
  nnf_atoms false (atom r ts) h = h
  nnf_atoms false (negation f) h = nnf_atoms true f h
  nnf_atoms false (conjunction f g) h = (nnf_atoms false f h.0, nnf_atoms false g h.1)
  nnf_atoms false (disjunction f g) h = (nnf_atoms false f h.0, nnf_atoms false g h.1)
  nnf_atoms false (implication f g) h = (nnf_atoms true f h.0, nnf_atoms false g h.1)
  nnf_atoms false (equivalence f g) h = ((nnf_atoms true f h.0, nnf_atoms true g h.1), (nnf_atoms false f h.0, nnf_atoms false g h.1))
  nnf_atoms false (forall x f) h = (h.0, nnf_atoms false f h.1)
  nnf_atoms false (exists x f) h = (h.0, nnf_atoms false f h.1)

  closed_atoms : (xs : List ℕ) (f : Fol) → AllByRecursion V xs → Atoms V A f → Atoms V A (closed_over xs f)
  closed_atoms [] f v h = h
  closed_atoms (x ∷ xs) f v h = (v.0, closed_atoms xs f v.1 h)

  module _ (own : (t : Tree) → A t → AllByRecursion V (variables_of t)) where
    free_atoms : (f : Fol) → Atoms V A f → AllByRecursion V (free_vars_of f)
    free_atoms verum h = tt
    free_atoms falsum h = tt
    free_atoms (equal s t) h = own (app equality (more s (more t none))) h
    free_atoms (atom r ts) h = own (app r ts) h
    free_atoms (negation f) h = free_atoms f h
    free_atoms (conjunction f g) h = joined_all V (free_vars_of f) (free_vars_of g) (free_atoms f h.0) (free_atoms g h.1)
    free_atoms (disjunction f g) h = joined_all V (free_vars_of f) (free_vars_of g) (free_atoms f h.0) (free_atoms g h.1)
    free_atoms (implication f g) h = joined_all V (free_vars_of f) (free_vars_of g) (free_atoms f h.0) (free_atoms g h.1)
    free_atoms (equivalence f g) h = joined_all V (free_vars_of f) (free_vars_of g) (free_atoms f h.0) (free_atoms g h.1)
    free_atoms (forall x f) h = without_all V x (free_vars_of f) (free_atoms f h.1)
    free_atoms (exists x f) h = without_all V x (free_vars_of f) (free_atoms f h.1)

    form_atoms : (s : Said) → Atoms V A s.formula → Atoms V A (form s)
    form_atoms s h = nnf_atoms (is_taken s.role) (closure_of s.formula) (closed_atoms (free_vars_of s.formula) s.formula (free_atoms s.formula h) h)

module _ (A : Tree → Type 0) where
  each_atoms : (c : ClauseTree) (ds : List ClauseTree) → AllAtoms A c → InClauses A ds → InClauses A (with_each c ds)
  each_atoms c [] h k = tt
  each_atoms c (d ∷ ds) h k = (all_append (λ (l : Lit). A l.atom) c d h k.0, each_atoms c ds h k.1)

  distributed_atoms : (cs ds : List ClauseTree) → InClauses A cs → InClauses A ds → InClauses A (distributed cs ds)
  distributed_atoms [] ds h k = tt
  distributed_atoms (c ∷ cs) ds h k = all_append (AllAtoms A) (with_each c ds) (distributed cs ds) (each_atoms c ds h.0 k) (distributed_atoms cs ds h.1 k)

  constants_atoms : (b : Bool) → InClauses A (if b then [] else [] ∷ [])
  constants_atoms true = tt
  constants_atoms false = (tt, tt)

  empties_atoms : (b : Bool) → InClauses A (if b then [] ∷ [] else [])
  empties_atoms true = (tt, tt)
  empties_atoms false = tt

-- A holds of each atom of the formulas and V of each variable; B of an atom with good terms put in; terms stay good with a Skolem term whose
-- symbol W holds of.
module _ (V : ℕ → Type 0) (A B : Tree → Type 0) (W : SkolemAxiom → Type 0) (Good : Substitution → Type 0) (put : (terms : Substitution) → Good terms → (t : Tree) → A t → B (substitute terms t))
    (next : (terms : Substitution) (w : SkolemAxiom) → W w → AllByRecursion V w.variables → Good terms → Good (with_term terms w.variable (skolem_term w.symbol w.variables))) where
  literal_atoms : (terms : Substitution) (positive : Bool) (f : Fol) → Good terms → Atoms V A f → InClauses B (literal_clauses terms positive f)
  literal_atoms terms positive verum g h = constants_atoms B positive
  literal_atoms terms positive falsum g h = empties_atoms B positive
  literal_atoms terms positive (equal s t) g h = ((put terms g (app equality (more s (more t none))) h, tt), tt)
  literal_atoms terms positive (atom r ts) g h = ((put terms g (app r ts) h, tt), tt)
  literal_atoms terms positive (negation f) g h = tt
  literal_atoms terms positive (conjunction a b) g h = tt
  literal_atoms terms positive (disjunction a b) g h = tt
  literal_atoms terms positive (implication a b) g h = tt
  literal_atoms terms positive (equivalence a b) g h = tt
  literal_atoms terms positive (forall x f) g h = tt
  literal_atoms terms positive (exists x f) g h = tt

  clauses_atoms : (symbols : List ℕ) (k : ℕ) (scope : List ℕ) (terms : Substitution) (f : Fol) → AllByRecursion V scope → Good terms → AllByRecursion W (skolem_axioms symbols k scope terms f) → Atoms V A f → InClauses B (clauses_in symbols k scope terms f)
  clauses_atoms symbols k scope terms (conjunction a b) v g w h =
      let front = skolem_axioms symbols k scope terms a in
      let back = skolem_axioms symbols (k + somes a) scope terms b in
      all_append (AllAtoms B) (clauses_in symbols k scope terms a) (clauses_in symbols (k + somes a) scope terms b)
      (clauses_atoms symbols k scope terms a v g (all_front W front back w) h.0) (clauses_atoms symbols (k + somes a) scope terms b v g (all_back W front back w) h.1)
  clauses_atoms symbols k scope terms (disjunction a b) v g w h =
      let front = skolem_axioms symbols k scope terms a in
      let back = skolem_axioms symbols (k + somes a) scope terms b in
      distributed_atoms B (clauses_in symbols k scope terms a) (clauses_in symbols (k + somes a) scope terms b)
      (clauses_atoms symbols k scope terms a v g (all_front W front back w) h.0) (clauses_atoms symbols (k + somes a) scope terms b v g (all_back W front back w) h.1)
  clauses_atoms symbols k scope terms (forall x f) v g w h = clauses_atoms symbols k (scope ++ x ∷ []) terms f (all_push V scope x v h.0) g w h.1
  clauses_atoms symbols k scope terms (exists y f) v g w h =
      clauses_atoms symbols (k + 1) scope (with_term terms y (skolem_term (slice_index symbols k) scope)) f v (next terms _ w.0 v g) w.1 h.1
  clauses_atoms symbols k scope terms (negation f) v g w h = literal_atoms terms false f g h
  clauses_atoms symbols k scope terms verum v g w h = literal_atoms terms true verum g h
  clauses_atoms symbols k scope terms falsum v g w h = literal_atoms terms true falsum g h
  clauses_atoms symbols k scope terms (equal s t) v g w h = literal_atoms terms true (equal s t) g h
  clauses_atoms symbols k scope terms (atom r ts) v g w h = literal_atoms terms true (atom r ts) g h
  clauses_atoms symbols k scope terms (implication a b) v g w h = tt
  clauses_atoms symbols k scope terms (equivalence a b) v g w h = tt

  -- C holds of each clause of them that is numbered
  module _ (own : (t : Tree) → A t → AllByRecursion V (variables_of t)) (C : ClauseTree → Type 0) (number : (c : ClauseTree) → AllAtoms B c → C (renumbered c)) (start : Good var) where
    rows_of_one : (n : ℕ) (cs : List ClauseTree) → InClauses B cs → AllByRecursion (λ (r : ClauseRow). C r.1) (map (λ c. (n, renumbered c)) cs)
    rows_of_one n [] h = tt
    rows_of_one n (c ∷ cs) h = (number c h.0, rows_of_one n cs h.1)

    pub rows_atoms : (symbols : List ℕ) (n k : ℕ) (ss : List Said) → AllByRecursion W (axioms_from symbols k ss) → AllByRecursion (λ (s : Said). Atoms V A s.formula) ss
        → AllByRecursion (λ (r : ClauseRow). C r.1) (rows_from symbols n k ss)
    rows_atoms symbols n k [] w h = tt
    rows_atoms symbols n k (s ∷ ss) w h =
        let front = skolem_axioms symbols k [] var (form s) in
        let back = axioms_from symbols (k + somes (form s)) ss in
        all_append (λ (r : ClauseRow). C r.1) (map (λ c. (n, renumbered c)) (clauses_in symbols k [] var (form s))) (rows_from symbols (n + 1) (k + somes (form s)) ss)
        (rows_of_one n (clauses_in symbols k [] var (form s)) (clauses_atoms symbols k [] var (form s) tt start (all_front W front back w) (form_atoms V A own s h.0)))
        (rows_atoms symbols (n + 1) (k + somes (form s)) ss (all_back W front back w) h.1)
