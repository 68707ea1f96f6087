-- Clauses of formulas that name no element name none.
use Rattle.std.proofs.Common.{◌≡◌, ℕ, ◌+◌, Bool, true, false, ◌==◌, ◌||◌, if◌then◌else◌, List, [], ◌∷◌, ◌++◌, map, slice_index, refl}
use Rattle.std.specs.List.{AllByRecursion}
use Rattle.clausify.specs.Clausal.{with_each, distributed, literal_clauses, clauses_in}
use Rattle.clausify.specs.Forms.{nnf_of}
use Rattle.clausify.specs.Input.{is_taken, form, rows_from, all_rows}
use Rattle.clausify.specs.Skolem.{skolem_term, somes}
use Rattle.derivation.specs.Lines.{InputRow}
use Rattle.fol_core.specs.Fol.{Fol, verum, falsum, equal, atom, negation, conjunction, disjunction, implication, equivalence, forall, exists}
use Rattle.fol_core.specs.Free.{closed_over, closure_of, free_vars_of}
use Rattle.fol_core.specs.Literals.{Lit, literal, ClauseTree}
use Rattle.fol_core.specs.Occurs.{names_in, names_in_any, names}
use Rattle.fol_core.specs.Renumbered.{clause_variables, by_place, renumbered}
use Rattle.fol_problem.specs.Stated.{Said}
use Rattle.fol_core.specs.Substitutions.{Substitution, with_term, substitute, substitute_all}
use Rattle.fol_core.specs.Tree.{Tree, var, elem, app, Trees, none, more, trees_of}
use Rattle.prover_steps.proofs.Lists.{all_append}

none_left : (a b : Bool) → (a || b) ≡ false → a ≡ false
none_left true b h = h
none_left false b h = refl

none_right : (a b : Bool) → (a || b) ≡ false → b ≡ false
none_right true b h = absurd cc
none_right false b h = h

none_both : (a b : Bool) → a ≡ false → b ≡ false → (a || b) ≡ false
none_both true b h k = h
none_both false b h k = k

module _ (k : ℕ) where
  -- terms put in that don't name it
  abbrev AreNone : Substitution → Type 0
  AreNone terms = (x : ℕ) → names_in k (terms x) ≡ false

  mutual
    put_none : (terms : Substitution) → AreNone terms → (t : Tree) → names_in k t ≡ false → names_in k (substitute terms t) ≡ false
    put_none terms h (var x) e = h x
    put_none terms h (elem n) e = e
    put_none terms h (app f ts) e = all_put_none terms h ts e

    all_put_none : (terms : Substitution) → AreNone terms → (ts : Trees) → names_in_any k ts ≡ false → names_in_any k (substitute_all terms ts) ≡ false
    all_put_none terms h none e = e
    all_put_none terms h (more t ts) e =
        none_both (names_in k (substitute terms t)) (names_in_any k (substitute_all terms ts))
        (put_none terms h t (none_left (names_in k t) (names_in_any k ts) e)) (all_put_none terms h ts (none_right (names_in k t) (names_in_any k ts) e))

  variables_none : (xs : List ℕ) → names_in_any k (trees_of (map var xs)) ≡ false
  variables_none [] = refl
  variables_none (x ∷ xs) = variables_none xs

  with_none : (terms : Substitution) (y symbol : ℕ) (scope : List ℕ) → AreNone terms → AreNone (with_term terms y (skolem_term symbol scope))
  with_none terms y symbol scope h x = by (x == y)
    where
      by : (b : Bool) → names_in k (if b then skolem_term symbol scope else terms x) ≡ false
      by true = variables_none scope
      by false = h x

  abbrev pub NamesNot : ClauseTree → Type 0
  NamesNot c = AllByRecursion (λ l. names_in k l.atom ≡ false) c

  abbrev AllNamesNot : List ClauseTree → Type 0
  AllNamesNot cs = AllByRecursion NamesNot cs

  each_none : (c : ClauseTree) (ds : List ClauseTree) → NamesNot c → AllNamesNot ds → AllNamesNot (with_each c ds)
  each_none c [] h e = tt
  each_none c (d ∷ ds) h e = (all_append (λ (l : Lit). names_in k l.atom ≡ false) c d h e.0, each_none c ds h e.1)

  distributed_none : (cs ds : List ClauseTree) → AllNamesNot cs → AllNamesNot ds → AllNamesNot (distributed cs ds)
  distributed_none [] ds h e = tt
  distributed_none (c ∷ cs) ds h e = all_append NamesNot (with_each c ds) (distributed cs ds) (each_none c ds h.0 e) (distributed_none cs ds h.1 e)

  constants_none : (b : Bool) → AllNamesNot (if b then [] else [] ∷ [])
  constants_none true = tt
  constants_none false = (tt, tt)

  empties_none : (b : Bool) → AllNamesNot (if b then [] ∷ [] else [])
  empties_none true = (tt, tt)
  empties_none false = tt

  literal_none : (terms : Substitution) (positive : Bool) (f : Fol) → AreNone terms → names k f ≡ false → AllNamesNot (literal_clauses terms positive f)
  literal_none terms positive verum h e = constants_none positive
  literal_none terms positive falsum h e = empties_none positive
  literal_none terms positive (equal s t) h e =
      let right = none_both (names_in k (substitute terms t)) false (put_none terms h t (none_right (names_in k s) (names_in k t) e)) refl in
      ((none_both (names_in k (substitute terms s)) (names_in k (substitute terms t) || false) (put_none terms h s (none_left (names_in k s) (names_in k t) e)) right, tt), tt)
  literal_none terms positive (atom r ts) h e = ((all_put_none terms h ts e, tt), tt)
  literal_none terms positive (negation f) h e = tt
  literal_none terms positive (conjunction f g) h e = tt
  literal_none terms positive (disjunction f g) h e = tt
  literal_none terms positive (implication f g) h e = tt
  literal_none terms positive (equivalence f g) h e = tt
  literal_none terms positive (forall x f) h e = tt
  literal_none terms positive (exists x f) h e = tt

  clauses_none : (symbols : List ℕ) (n : ℕ) (scope : List ℕ) (terms : Substitution) (f : Fol) → AreNone terms → names k f ≡ false → AllNamesNot (clauses_in symbols n scope terms f)
  clauses_none symbols n scope terms (conjunction f g) h e =
      all_append NamesNot (clauses_in symbols n scope terms f) (clauses_in symbols (n + somes f) scope terms g)
      (clauses_none symbols n scope terms f h (none_left (names k f) (names k g) e)) (clauses_none symbols (n + somes f) scope terms g h (none_right (names k f) (names k g) e))
  clauses_none symbols n scope terms (disjunction f g) h e =
      distributed_none (clauses_in symbols n scope terms f) (clauses_in symbols (n + somes f) scope terms g)
      (clauses_none symbols n scope terms f h (none_left (names k f) (names k g) e)) (clauses_none symbols (n + somes f) scope terms g h (none_right (names k f) (names k g) e))
  clauses_none symbols n scope terms (forall x f) h e = clauses_none symbols n (scope ++ x ∷ []) terms f h e
  clauses_none symbols n scope terms (exists y f) h e =
      clauses_none symbols (n + 1) scope (with_term terms y (skolem_term (slice_index symbols n) scope)) f (with_none terms y (slice_index symbols n) scope h) e
  clauses_none symbols n scope terms (negation f) h e = literal_none terms false f h e
  clauses_none symbols n scope terms verum h e = literal_none terms true verum h e
  clauses_none symbols n scope terms falsum h e = literal_none terms true falsum h e
  clauses_none symbols n scope terms (equal s t) h e = literal_none terms true (equal s t) h e
  clauses_none symbols n scope terms (atom r ts) h e = literal_none terms true (atom r ts) h e
  clauses_none symbols n scope terms (implication f g) h e = tt
  clauses_none symbols n scope terms (equivalence f g) h e = tt

  nnf_none : (b : Bool) (f : Fol) → names k f ≡ false → names k (nnf_of b f) ≡ false
  nnf_none true verum e = e
  nnf_none true falsum e = e
  nnf_none true (equal s t) e = e
  nnf_none true (atom r ts) e = e
  nnf_none true (negation f) e = nnf_none false f e
  nnf_none true (conjunction f g) e = none_both (names k (nnf_of true f)) (names k (nnf_of true g)) (nnf_none true f (none_left (names k f) (names k g) e)) (nnf_none true g (none_right (names k f) (names k g) e))
  nnf_none true (disjunction f g) e = none_both (names k (nnf_of true f)) (names k (nnf_of true g)) (nnf_none true f (none_left (names k f) (names k g) e)) (nnf_none true g (none_right (names k f) (names k g) e))
  nnf_none true (implication f g) e = none_both (names k (nnf_of false f)) (names k (nnf_of true g)) (nnf_none false f (none_left (names k f) (names k g) e)) (nnf_none true g (none_right (names k f) (names k g) e))
  nnf_none true (equivalence f g) e =
      let a = none_left (names k f) (names k g) e in
      let b = none_right (names k f) (names k g) e in
      none_both (names k (nnf_of false f) || names k (nnf_of true g)) (names k (nnf_of false g) || names k (nnf_of true f))
      (none_both (names k (nnf_of false f)) (names k (nnf_of true g)) (nnf_none false f a) (nnf_none true g b))
      (none_both (names k (nnf_of false g)) (names k (nnf_of true f)) (nnf_none false g b) (nnf_none true f a))
  nnf_none true (forall x f) e = nnf_none true f e
  nnf_none true (exists x f) e = nnf_none true f e
  nnf_none false verum e = e
  nnf_none false falsum e = e
  nnf_none false (equal s t) e = e
  nnf_none false (atom r ts) e = e
  nnf_none false (negation f) e = nnf_none true f e
  nnf_none false (conjunction f g) e = none_both (names k (nnf_of false f)) (names k (nnf_of false g)) (nnf_none false f (none_left (names k f) (names k g) e)) (nnf_none false g (none_right (names k f) (names k g) e))
  nnf_none false (disjunction f g) e = none_both (names k (nnf_of false f)) (names k (nnf_of false g)) (nnf_none false f (none_left (names k f) (names k g) e)) (nnf_none false g (none_right (names k f) (names k g) e))
  nnf_none false (implication f g) e = none_both (names k (nnf_of true f)) (names k (nnf_of false g)) (nnf_none true f (none_left (names k f) (names k g) e)) (nnf_none false g (none_right (names k f) (names k g) e))
  nnf_none false (equivalence f g) e =
      let a = none_left (names k f) (names k g) e in
      let b = none_right (names k f) (names k g) e in
      none_both (names k (nnf_of true f) || names k (nnf_of true g)) (names k (nnf_of false f) || names k (nnf_of false g))
      (none_both (names k (nnf_of true f)) (names k (nnf_of true g)) (nnf_none true f a) (nnf_none true g b))
      (none_both (names k (nnf_of false f)) (names k (nnf_of false g)) (nnf_none false f a) (nnf_none false g b))
  nnf_none false (forall x f) e = nnf_none false f e
  nnf_none false (exists x f) e = nnf_none false f e

  closed_none : (xs : List ℕ) (f : Fol) → names k f ≡ false → names k (closed_over xs f) ≡ false
  closed_none [] f e = e
  closed_none (x ∷ xs) f e = closed_none xs f e

  renumbered_none : (terms : Substitution) (c : ClauseTree) → AreNone terms → NamesNot c → NamesNot (map (λ l. literal l.positive (substitute terms l.atom)) c)
  renumbered_none terms [] h e = tt
  renumbered_none terms (l ∷ c) h e = (put_none terms h l.atom e.0, renumbered_none terms c h e.1)

  rows_one_none : (n : ℕ) (cs : List ClauseTree) → AllNamesNot cs → AllByRecursion (λ (r : InputRow). NamesNot r.1) (map (λ c. (n, renumbered c)) cs)
  rows_one_none n [] h = tt
  rows_one_none n (c ∷ cs) h = (renumbered_none (by_place (clause_variables c)) c (λ x. refl) h.0, rows_one_none n cs h.1)

  rows_none : (symbols : List ℕ) (n i : ℕ) (ss : List Said) → AllByRecursion (λ s. names k s.formula ≡ false) ss → AllByRecursion (λ (r : InputRow). NamesNot r.1) (rows_from symbols n i ss)
  rows_none symbols n i [] h = tt
  rows_none symbols n i (s ∷ ss) h =
      all_append (λ (r : InputRow). NamesNot r.1) (map (λ c. (n, renumbered c)) (clauses_in symbols i [] var (form s))) (rows_from symbols (n + 1) (i + somes (form s)) ss)
      (rows_one_none n (clauses_in symbols i [] var (form s)) (clauses_none symbols i [] var (form s) (λ x. refl) (nnf_none (is_taken s.role) (closure_of s.formula) (closed_none (free_vars_of s.formula) s.formula h.0))))
      (rows_none symbols (n + 1) (i + somes (form s)) ss h.1)

  pub all_rows_none : (symbols : List ℕ) (ss : List Said) → AllByRecursion (λ s. names k s.formula ≡ false) ss → AllByRecursion (λ (r : InputRow). NamesNot r.1) (all_rows symbols ss)
  all_rows_none symbols ss h = rows_none symbols 1 0 ss h
