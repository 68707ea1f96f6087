-- The clauses of formulas with other numbers of their symbols.
use Rattle.std.proofs.Common.{◌≡◌, ℕ, zero, suc, ◌+◌, ◌<◌, ◌≤◌, Bool, true, false, ◌==◌, if◌then◌else◌, List, [], ◌∷◌, ◌++◌, length, map, get_or, refl, sym, ap, ap₂, ◌∙◌, arith}
use Rattle.std.proofs.lemmas.List.{map-append, length-append}
use Rattle.fol_core.specs.Fol.{Fol, verum, falsum, equal, atom, negation, conjunction, disjunction, implication, equivalence, forall, exists}
use Rattle.fol_core.specs.Free.{joined, without, free_vars_of, closed_over, closure_of}
use Rattle.fol_core.specs.Literals.{ClauseTree, literal, equality}
use Rattle.fol_core.specs.Renumbered.{renumbered}
use Rattle.fol_problem.specs.Stated.{Said, said}
use Rattle.fol_core.specs.Substitutions.{Substitution, with_term}
use Rattle.fol_core.specs.Tree.{Tree, var, app, none, more, trees_of}
use Rattle.clausify.specs.Clausal.{with_each, distributed, literal_clauses, clauses_in}
use Rattle.clausify.specs.Forms.{nnf_of}
use Rattle.clausify.specs.Input.{is_taken, form, all_arities, ClauseRow, rows_from, all_rows}
use Rattle.clausify.specs.Skolem.{skolem_term, somes, arities}
use Rattle.derivation_laws.specs.Moved.{Moving, moved_term, moved_terms, moved_clause, moved_formula, moved_said, moved_rows}
use Rattle.derivation_laws.proofs.MovedTerms.{moved_terms_for, moved_put, moved_put_all, variables_stay, all_variables_stay, renumbered_moved, append_moved}

-- a value of a list is found in the list with its values changed
index_moved : (to : Moving) (xs : List ℕ) (k : ℕ) → k < length xs → get_or (map to xs) k 0 ≡ to (get_or xs k 0)
index_moved to [] k h = absurd (omega arith)
index_moved to (x ∷ xs) zero h = refl
index_moved to (x ∷ xs) (suc k) h = index_moved to xs k (omega arith)

abbrev pub all_somes : List Said → ℕ
all_somes [] = 0
all_somes (s ∷ ss) = somes (form s) + all_somes ss

module _ (to : Moving) where
  -- negation normal forms
  free_stay : (f : Fol) → free_vars_of (moved_formula to f) ≡ free_vars_of f
  free_stay verum = refl
  free_stay falsum = refl
  free_stay (equal s t) = ap₂ joined (variables_stay to s) (variables_stay to t)
  free_stay (atom r ts) = all_variables_stay to ts
  free_stay (negation f) = free_stay f
  free_stay (conjunction f g) = ap₂ joined (free_stay f) (free_stay g)
  free_stay (disjunction f g) = ap₂ joined (free_stay f) (free_stay g)
  free_stay (implication f g) = ap₂ joined (free_stay f) (free_stay g)
  free_stay (equivalence f g) = ap₂ joined (free_stay f) (free_stay g)
  free_stay (forall x f) = ap (without x) (free_stay f)
  free_stay (exists x f) = ap (without x) (free_stay f)

  closed_moved : (xs : List ℕ) (f : Fol) → closed_over xs (moved_formula to f) ≡ moved_formula to (closed_over xs f)
  closed_moved [] f = refl
  closed_moved (x ∷ xs) f = ap (forall x) (closed_moved xs f)

  closure_moved : (f : Fol) → closure_of (moved_formula to f) ≡ moved_formula to (closure_of f)
  closure_moved f = ap (λ xs. closed_over xs (moved_formula to f)) (free_stay f) ∙ closed_moved (free_vars_of f) f

  nnf_moved : (b : Bool) (f : Fol) → nnf_of b (moved_formula to f) ≡ moved_formula to (nnf_of b f)
  nnf_moved true verum = refl
  nnf_moved true falsum = refl
  nnf_moved true (equal s t) = refl
  nnf_moved true (atom r ts) = refl
  nnf_moved true (negation f) = nnf_moved false f
  nnf_moved true (conjunction f g) = ap₂ conjunction (nnf_moved true f) (nnf_moved true g)
  nnf_moved true (disjunction f g) = ap₂ disjunction (nnf_moved true f) (nnf_moved true g)
  nnf_moved true (implication f g) = ap₂ disjunction (nnf_moved false f) (nnf_moved true g)
  nnf_moved true (equivalence f g) =
      ap₂ conjunction (ap₂ disjunction (nnf_moved false f) (nnf_moved true g)) (ap₂ disjunction (nnf_moved false g) (nnf_moved true f))
  nnf_moved true (forall x f) = ap (forall x) (nnf_moved true f)
  nnf_moved true (exists x f) = ap (exists x) (nnf_moved true f)
  nnf_moved false verum = refl
  nnf_moved false falsum = refl
  nnf_moved false (equal s t) = refl
  nnf_moved false (atom r ts) = refl
  nnf_moved false (negation f) = nnf_moved true f
  nnf_moved false (conjunction f g) = ap₂ disjunction (nnf_moved false f) (nnf_moved false g)
  nnf_moved false (disjunction f g) = ap₂ conjunction (nnf_moved false f) (nnf_moved false g)
  nnf_moved false (implication f g) = ap₂ conjunction (nnf_moved true f) (nnf_moved false g)
  nnf_moved false (equivalence f g) =
      ap₂ conjunction (ap₂ disjunction (nnf_moved true f) (nnf_moved true g)) (ap₂ disjunction (nnf_moved false f) (nnf_moved false g))
  nnf_moved false (forall x f) = ap (exists x) (nnf_moved false f)
  nnf_moved false (exists x f) = ap (forall x) (nnf_moved false f)

  abbrev said_moved : Said → Said
  said_moved s = said s.role (moved_formula to s.formula)

  pub form_moved : (s : Said) → form (said_moved s) ≡ moved_formula to (form s)
  form_moved s = ap (nnf_of (is_taken s.role)) (closure_moved s.formula) ∙ nnf_moved (is_taken s.role) (closure_of s.formula)

  pub somes_stay : (f : Fol) → somes (moved_formula to f) ≡ somes f
  somes_stay verum = refl
  somes_stay falsum = refl
  somes_stay (equal s t) = refl
  somes_stay (atom r ts) = refl
  somes_stay (negation f) = refl
  somes_stay (conjunction f g) = ap₂ (λ m n. m + n) (somes_stay f) (somes_stay g)
  somes_stay (disjunction f g) = ap₂ (λ m n. m + n) (somes_stay f) (somes_stay g)
  somes_stay (implication f g) = refl
  somes_stay (equivalence f g) = refl
  somes_stay (forall x f) = somes_stay f
  somes_stay (exists x f) = ap (λ n. n + 1) (somes_stay f)

  -- clauses
  abbrev pub all_moved : List ClauseTree → List ClauseTree
  all_moved cs = map (moved_clause to) cs

  each_moved : (c : ClauseTree) (ds : List ClauseTree) → with_each (moved_clause to c) (all_moved ds) ≡ all_moved (with_each c ds)
  each_moved c [] = refl
  each_moved c (d ∷ ds) = ap₂ (λ e es. e ∷ es) (sym (append_moved to c d)) (each_moved c ds)

  distributed_moved : (cs ds : List ClauseTree) → distributed (all_moved cs) (all_moved ds) ≡ all_moved (distributed cs ds)
  distributed_moved [] ds = refl
  distributed_moved (c ∷ cs) ds = ap₂ (λ es fs. es ++ fs) (each_moved c ds) (distributed_moved cs ds) ∙ sym (map-append (moved_clause to) (with_each c ds) (distributed cs ds))

  pub variables_moved : (xs : List ℕ) → moved_terms to (trees_of (map var xs)) ≡ trees_of (map var xs)
  variables_moved [] = refl
  variables_moved (x ∷ xs) = ap (more (var x)) (variables_moved xs)

  with_moved : (terms : Substitution) (y : ℕ) (t : Tree) → with_term (moved_terms_for to terms) y (moved_term to t) ≡ moved_terms_for to (with_term terms y t)
  with_moved terms y t = λ i x. by x (x == y) i
    where
      by : (x : ℕ) (b : Bool) → (if b then moved_term to t else moved_term to (terms x)) ≡ moved_term to (if b then t else terms x)
      by x true = refl
      by x false = refl

  module _ (x : to equality ≡ equality) where
    literals_moved : (terms : Substitution) (positive : Bool) (f : Fol) → literal_clauses (moved_terms_for to terms) positive (moved_formula to f) ≡ all_moved (literal_clauses terms positive f)
    literals_moved terms true verum = refl
    literals_moved terms false verum = refl
    literals_moved terms true falsum = refl
    literals_moved terms false falsum = refl
    literals_moved terms positive (equal s t) =
        (λ i. (literal positive (app (sym x i) (more (sym (moved_put to terms s) i) (more (sym (moved_put to terms t) i) none))) ∷ []) ∷ [])
    literals_moved terms positive (atom r ts) = ap (λ us. (literal positive (app (to r) us) ∷ []) ∷ []) (sym (moved_put_all to terms ts))
    literals_moved terms positive (negation f) = refl
    literals_moved terms positive (conjunction f g) = refl
    literals_moved terms positive (disjunction f g) = refl
    literals_moved terms positive (implication f g) = refl
    literals_moved terms positive (equivalence f g) = refl
    literals_moved terms positive (forall y f) = refl
    literals_moved terms positive (exists y f) = refl

    module _ (symbols : List ℕ) where
      pub clauses_in_moved : (k : ℕ) (scope : List ℕ) (terms : Substitution) (f : Fol) → k + somes f ≤ length symbols
          → clauses_in (map to symbols) k scope (moved_terms_for to terms) (moved_formula to f) ≡ all_moved (clauses_in symbols k scope terms f)
      clauses_in_moved k scope terms (conjunction f g) h =
          let second = ap (λ n. clauses_in (map to symbols) (k + n) scope (moved_terms_for to terms) (moved_formula to g)) (somes_stay f) ∙ clauses_in_moved (k + somes f) scope terms g (omega arith) in
          ap₂ (λ cs ds. cs ++ ds) (clauses_in_moved k scope terms f (omega arith)) second
          ∙ sym (map-append (moved_clause to) (clauses_in symbols k scope terms f) (clauses_in symbols (k + somes f) scope terms g))
      clauses_in_moved k scope terms (disjunction f g) h =
          let second = ap (λ n. clauses_in (map to symbols) (k + n) scope (moved_terms_for to terms) (moved_formula to g)) (somes_stay f) ∙ clauses_in_moved (k + somes f) scope terms g (omega arith) in
          ap₂ distributed (clauses_in_moved k scope terms f (omega arith)) second
          ∙ distributed_moved (clauses_in symbols k scope terms f) (clauses_in symbols (k + somes f) scope terms g)
      clauses_in_moved k scope terms (forall y f) h = clauses_in_moved k (scope ++ y ∷ []) terms f h
      clauses_in_moved k scope terms (exists y f) h =
          let put = skolem_term (get_or symbols k 0) scope in
          let term : skolem_term (get_or (map to symbols) k 0) scope ≡ moved_term to put =
          (λ i. app (index_moved to symbols k (omega arith) i) (sym (variables_moved scope) i)) in
          ap (λ (s : Substitution). clauses_in (map to symbols) (k + 1) scope s (moved_formula to f)) (ap (with_term (moved_terms_for to terms) y) term ∙ with_moved terms y put)
          ∙ clauses_in_moved (k + 1) scope (with_term terms y put) f (omega arith)
      clauses_in_moved k scope terms (negation f) h = literals_moved terms false f
      clauses_in_moved k scope terms verum h = literals_moved terms true verum
      clauses_in_moved k scope terms falsum h = literals_moved terms true falsum
      clauses_in_moved k scope terms (equal s t) h = literals_moved terms true (equal s t)
      clauses_in_moved k scope terms (atom r ts) h = literals_moved terms true (atom r ts)
      clauses_in_moved k scope terms (implication f g) h = literals_moved terms true (implication f g)
      clauses_in_moved k scope terms (equivalence f g) h = literals_moved terms true (equivalence f g)

      numbered_moved : (n : ℕ) (cs : List ClauseTree) → map (λ c. (n, renumbered c)) (all_moved cs) ≡ moved_rows to (map (λ c. (n, renumbered c)) cs)
      numbered_moved n [] = refl
      numbered_moved n (c ∷ cs) = ap₂ (λ d rows. (n, d) ∷ rows) (renumbered_moved to c) (numbered_moved n cs)

      rows_moved : (n k : ℕ) (ss : List Said) → k + all_somes ss ≤ length symbols → rows_from (map to symbols) n k (moved_said to ss) ≡ moved_rows to (rows_from symbols n k ss)
      rows_moved n k [] h = refl
      rows_moved n k (s ∷ ss) h =
          let first = ap (clauses_in (map to symbols) k [] var) (form_moved s) ∙ clauses_in_moved k [] var (form s) (omega arith) in
          let next = ap (λ f. rows_from (map to symbols) (n + 1) (k + somes f) (moved_said to ss)) (form_moved s)
          ∙ ap (λ m. rows_from (map to symbols) (n + 1) (k + m) (moved_said to ss)) (somes_stay (form s))
          ∙ rows_moved (n + 1) (k + somes (form s)) ss (omega arith) in
          ap₂ (λ rs qs. rs ++ qs) (ap (map (λ c. (n, renumbered c))) first ∙ numbered_moved n (clauses_in symbols k [] var (form s))) next
          ∙ sym (map-append (λ (r : ClauseRow). (r.0, moved_clause to r.1)) (map (λ c. (n, renumbered c)) (clauses_in symbols k [] var (form s))) (rows_from symbols (n + 1) (k + somes (form s)) ss))

-- there is an arity for each existential variable
arities_count : (n : ℕ) (f : Fol) → length (arities n f) ≡ somes f
arities_count n verum = refl
arities_count n falsum = refl
arities_count n (equal s t) = refl
arities_count n (atom r ts) = refl
arities_count n (negation f) = refl
arities_count n (conjunction f g) = length-append (arities n f) (arities n g) ∙ ap₂ (λ a b. a + b) (arities_count n f) (arities_count n g)
arities_count n (disjunction f g) = length-append (arities n f) (arities n g) ∙ ap₂ (λ a b. a + b) (arities_count n f) (arities_count n g)
arities_count n (implication f g) = refl
arities_count n (equivalence f g) = refl
arities_count n (forall x f) = arities_count (n + 1) f
arities_count n (exists x f) = omega (arith, arities_count n f)

pub all_count : (ss : List Said) → length (all_arities ss) ≡ all_somes ss
all_count [] = refl
all_count (s ∷ ss) = length-append (arities 0 (form s)) (all_arities ss) ∙ ap₂ (λ a b. a + b) (arities_count 0 (form s)) (all_count ss)

-- the clauses of what is said, with a number for each existential variable
pub all_rows_moved : (to : Moving) → to equality ≡ equality → (symbols : List ℕ) (ss : List Said) → length symbols ≡ length (all_arities ss)
    → all_rows (map to symbols) (moved_said to ss) ≡ moved_rows to (all_rows symbols ss)
all_rows_moved to x symbols ss h = rows_moved to x symbols 1 0 ss (omega (arith, h, all_count ss))
