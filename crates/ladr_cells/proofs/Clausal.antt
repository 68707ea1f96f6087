-- Clauses use symbols as the formulas do, and Skolem symbols for their witnesses.
use Rattle.std.proofs.Common.{◌≡◌, ℕ, suc, ◌+◌, Bool, true, false, ◌==◌, if◌then◌else◌, List, [], ◌∷◌, ◌++◌, map, length, slice_index, refl, sym, ap, subst}
use Rattle.std.specs.Prelude.{MatchBool}
use Rattle.std.specs.List.{AllByRecursion}
use Rattle.std.proofs.lemmas.List.{map-append}
use Rattle.cell_search.specs.Searchable.{count_of}
use Rattle.clausify.specs.Clausal.{with_each, distributed, literal_clauses, clauses_in}
use Rattle.clausify.specs.Forms.{nnf_of}
use Rattle.clausify.specs.Input.{is_taken, form, rows_from, axioms_from}
use Rattle.clausify.specs.Skolem.{skolem_term, somes, skolem_axioms}
use Rattle.fol_core.specs.Fol.{Fol, verum, falsum, equal, atom, negation, conjunction, disjunction, implication, equivalence, forall, exists}
use Rattle.fol_core.specs.Free.{closed_over, closure_of, free_vars_of}
use Rattle.fol_core.specs.Literals.{ClauseTree, literal, equality}
use Rattle.fol_core.specs.Renumbered.{renumbered, by_place, clause_variables}
use Rattle.fol_core.specs.SkolemAxioms.{SkolemAxiom}
use Rattle.fol_problem.specs.Stated.{Said}
use Rattle.fol_core.specs.Substitutions.{Substitution, with_term, substitute, substitute_all}
use Rattle.fol_core.specs.Tree.{Tree, var, elem, app, Trees, none, more, trees_of}
use Rattle.fol_core.specs.declared.symbols.Kind.TheVariants.{Function, Relation}
use Rattle.ladr_cells.specs.Uses.{Use, applies, IsTermOf, AreTermsOf, IsFormulaOf}
use Rattle.ladr_cells.proofs.Uses.{all_append}

-- each use in a clause is P
abbrev pub IsEquationOf : (Use → Type 0) → Trees → Type 0
IsEquationOf P none = ⊥
IsEquationOf P (more s none) = ⊥
IsEquationOf P (more s (more t none)) = IsTermOf P s × IsTermOf P t
IsEquationOf P (more s (more t (more u ts))) = ⊥

abbrev pub IsAtomOf : (Use → Type 0) → Tree → Type 0
IsAtomOf P (var x) = ⊥
IsAtomOf P (elem k) = ⊥
IsAtomOf P (app r ts) = MatchBool (r == equality) (IsEquationOf P ts) (P (applies Relation r (count_of ts)) × AreTermsOf P ts)

abbrev pub IsClauseOf : (Use → Type 0) → ClauseTree → Type 0
IsClauseOf P [] = Unit {0}
IsClauseOf P (l ∷ c) = IsAtomOf P l.atom × IsClauseOf P c

-- a Skolem symbol is used as its witness asks
abbrev pub IsSkolemUse : (Use → Type 0) → SkolemAxiom → Type 0
IsSkolemUse P w = P (applies Function w.symbol (length w.variables))

many_substituted : (terms : Substitution) (ts : Trees) → count_of (substitute_all terms ts) ≡ count_of ts
many_substituted terms none = refl
many_substituted terms (more t ts) = ap suc (many_substituted terms ts)

many_variables : (xs : List ℕ) → count_of (trees_of (map var xs)) ≡ length xs
many_variables [] = refl
many_variables (x ∷ xs) = ap suc (many_variables xs)

all_split : {X : Type 0} (Q : X → Type 0) (xs ys : List X) → AllByRecursion Q (xs ++ ys) → AllByRecursion Q xs × AllByRecursion Q ys
all_split Q [] ys h = (tt, h)
all_split Q (x ∷ xs) ys h = let rest = all_split Q xs ys h.1 in ((h.0, rest.0), rest.1)

module _ (P : Use → Type 0) where
  abbrev AreAll : Substitution → Type 0
  AreAll terms = (x : ℕ) → IsTermOf P (terms x)

  module _ (terms : Substitution) (all : AreAll terms) where
    mutual
      put_in : (t : Tree) → IsTermOf P t → IsTermOf P (substitute terms t)
      put_in (var x) h = all x
      put_in (elem k) h = h
      put_in (app s ts) h = (subst (λ (n : ℕ). P (applies Function s n)) (sym (many_substituted terms ts)) h.0, put_in_all ts h.1)

      put_in_all : (ts : Trees) → AreTermsOf P ts → AreTermsOf P (substitute_all terms ts)
      put_in_all none h = tt
      put_in_all (more t ts) h = (put_in t h.0, put_in_all ts h.1)

    put_in_sides : (ts : Trees) → IsEquationOf P ts → IsEquationOf P (substitute_all terms ts)
    put_in_sides none h = absurd h
    put_in_sides (more s none) h = absurd h
    put_in_sides (more s (more t none)) h = (put_in s h.0, put_in t h.1)
    put_in_sides (more s (more t (more u ts))) h = absurd h

    put_in_atom : (t : Tree) → IsAtomOf P t → IsAtomOf P (substitute terms t)
    put_in_atom (var x) h = absurd h
    put_in_atom (elem k) h = absurd h
    put_in_atom (app r ts) h = by (r == equality) h
      where
        by : (b : Bool) → MatchBool b (IsEquationOf P ts) (P (applies Relation r (count_of ts)) × AreTermsOf P ts)
            → MatchBool b (IsEquationOf P (substitute_all terms ts)) (P (applies Relation r (count_of (substitute_all terms ts))) × AreTermsOf P (substitute_all terms ts))
        by true h = put_in_sides ts h
        by false h = (subst (λ (n : ℕ). P (applies Relation r n)) (sym (many_substituted terms ts)) h.0, put_in_all ts h.1)

    put_in_clause : (c : ClauseTree) → IsClauseOf P c → IsClauseOf P (map (λ l. literal l.positive (substitute terms l.atom)) c)
    put_in_clause [] h = tt
    put_in_clause (l ∷ c) h = (put_in_atom l.atom h.0, put_in_clause c h.1)

  renumbered_of : (c : ClauseTree) → IsClauseOf P c → IsClauseOf P (renumbered c)
  renumbered_of c h = put_in_clause (by_place (clause_variables c)) (λ x. tt) c h

  crossed : (c d : ClauseTree) → IsClauseOf P c → IsClauseOf P d → IsClauseOf P (c ++ d)
  crossed [] d h k = k
  crossed (l ∷ c) d h k = (h.0, crossed c d h.1 k)

  each_crossed : (c : ClauseTree) (ds : List ClauseTree) → IsClauseOf P c → AllByRecursion (IsClauseOf P) ds → AllByRecursion (IsClauseOf P) (with_each c ds)
  each_crossed c [] h k = tt
  each_crossed c (d ∷ ds) h k = (crossed c d h k.0, each_crossed c ds h k.1)

  all_crossed : (cs ds : List ClauseTree) → AllByRecursion (IsClauseOf P) cs → AllByRecursion (IsClauseOf P) ds → AllByRecursion (IsClauseOf P) (distributed cs ds)
  all_crossed [] ds h k = tt
  all_crossed (c ∷ cs) ds h k = all_append (IsClauseOf P) (with_each c ds) (distributed cs ds) (each_crossed c ds h.0 k) (all_crossed cs ds h.1 k)

  skolem_of : (s : ℕ) (xs : List ℕ) → P (applies Function s (length xs)) → IsTermOf P (skolem_term s xs)
  skolem_of s xs h = (subst (λ (n : ℕ). P (applies Function s n)) (sym (many_variables xs)) h, variables_of xs)
    where
      variables_of : (xs : List ℕ) → AreTermsOf P (trees_of (map var xs))
      variables_of [] = tt
      variables_of (x ∷ xs) = (tt, variables_of xs)

  one_more : (terms : Substitution) (y : ℕ) (t : Tree) → AreAll terms → IsTermOf P t → AreAll (with_term terms y t)
  one_more terms y t all h x = by (x == y)
    where
      by : (b : Bool) → IsTermOf P (if b then t else terms x)
      by true = h
      by false = all x

  -- what holds of the closure, and of the form
  nnf_fits : (b : Bool) (f : Fol) → IsFormulaOf P f → IsFormulaOf P (nnf_of b f)
  nnf_fits true verum h = tt
  nnf_fits true falsum h = tt
  nnf_fits true (equal s t) h = h
  nnf_fits true (atom r ts) h = h
  nnf_fits true (negation f) h = nnf_fits false f h
  nnf_fits true (conjunction f g) h = (nnf_fits true f h.0, nnf_fits true g h.1)
  nnf_fits true (disjunction f g) h = (nnf_fits true f h.0, nnf_fits true g h.1)
  nnf_fits true (implication f g) h = (nnf_fits false f h.0, nnf_fits true g h.1)
  nnf_fits true (equivalence f g) h = ((nnf_fits false f h.0, nnf_fits true g h.1), (nnf_fits false g h.1, nnf_fits true f h.0))
  nnf_fits true (forall x f) h = nnf_fits true f h
  nnf_fits true (exists x f) h = nnf_fits true f h
  nnf_fits false verum h = tt
  nnf_fits false falsum h = tt
  nnf_fits false (equal s t) h = h
  nnf_fits false (atom r ts) h = h
  nnf_fits false (negation f) h = nnf_fits true f h
  nnf_fits false (conjunction f g) h = (nnf_fits false f h.0, nnf_fits false g h.1)
  nnf_fits false (disjunction f g) h = (nnf_fits false f h.0, nnf_fits false g h.1)
  nnf_fits false (implication f g) h = (nnf_fits true f h.0, nnf_fits false g h.1)
  nnf_fits false (equivalence f g) h = ((nnf_fits true f h.0, nnf_fits true g h.1), (nnf_fits false f h.0, nnf_fits false g h.1))
  nnf_fits false (forall x f) h = nnf_fits false f h
  nnf_fits false (exists x f) h = nnf_fits false f h

  closed_fits : (xs : List ℕ) (f : Fol) → IsFormulaOf P f → IsFormulaOf P (closed_over xs f)
  closed_fits [] f h = h
  closed_fits (x ∷ xs) f h = closed_fits xs f h

  form_fits : (s : Said) → IsFormulaOf P s.formula → IsFormulaOf P (form s)
  form_fits s h = nnf_fits (is_taken s.role) (closure_of s.formula) (closed_fits (free_vars_of s.formula) s.formula h)

  module _ (apart : (r n : ℕ) → P (applies Relation r n) → (r == equality) ≡ false) where
    literal_fits : (terms : Substitution) (positive : Bool) (f : Fol) → AreAll terms → IsFormulaOf P f → AllByRecursion (IsClauseOf P) (literal_clauses terms positive f)
    literal_fits terms true verum all h = tt
    literal_fits terms false verum all h = (tt, tt)
    literal_fits terms true falsum all h = (tt, tt)
    literal_fits terms false falsum all h = tt
    literal_fits terms positive (equal s t) all h = (((put_in terms all s h.0, put_in terms all t h.1), tt), tt)
    literal_fits terms positive (atom r ts) all h =
        let not_equal = apart r (count_of ts) h.0 in
        let parts : P (applies Relation r (count_of (substitute_all terms ts))) × AreTermsOf P (substitute_all terms ts) =
        (subst (λ (n : ℕ). P (applies Relation r n)) (sym (many_substituted terms ts)) h.0, put_in_all terms all ts h.1) in
        ((subst (λ (b : Bool). MatchBool b (IsEquationOf P (substitute_all terms ts)) (P (applies Relation r (count_of (substitute_all terms ts))) × AreTermsOf P (substitute_all terms ts))) (sym not_equal) parts, tt), tt)
    literal_fits terms positive (negation f) all h = tt
    literal_fits terms positive (conjunction f g) all h = tt
    literal_fits terms positive (disjunction f g) all h = tt
    literal_fits terms positive (implication f g) all h = tt
    literal_fits terms positive (equivalence f g) all h = tt
    literal_fits terms positive (forall x f) all h = tt
    literal_fits terms positive (exists x f) all h = tt

    clauses_fit : (symbols : List ℕ) (k : ℕ) (scope : List ℕ) (terms : Substitution) (f : Fol) → AreAll terms → IsFormulaOf P f
        → AllByRecursion (IsSkolemUse P) (skolem_axioms symbols k scope terms f) → AllByRecursion (IsClauseOf P) (clauses_in symbols k scope terms f)
    clauses_fit symbols k scope terms (conjunction f g) all h w =
        let ws = all_split (IsSkolemUse P) (skolem_axioms symbols k scope terms f) (skolem_axioms symbols (k + somes f) scope terms g) w in
        all_append (IsClauseOf P) (clauses_in symbols k scope terms f) (clauses_in symbols (k + somes f) scope terms g)
        (clauses_fit symbols k scope terms f all h.0 ws.0) (clauses_fit symbols (k + somes f) scope terms g all h.1 ws.1)
    clauses_fit symbols k scope terms (disjunction f g) all h w =
        let ws = all_split (IsSkolemUse P) (skolem_axioms symbols k scope terms f) (skolem_axioms symbols (k + somes f) scope terms g) w in
        all_crossed (clauses_in symbols k scope terms f) (clauses_in symbols (k + somes f) scope terms g)
        (clauses_fit symbols k scope terms f all h.0 ws.0) (clauses_fit symbols (k + somes f) scope terms g all h.1 ws.1)
    clauses_fit symbols k scope terms (forall x f) all h w = clauses_fit symbols k (scope ++ x ∷ []) terms f all h w
    clauses_fit symbols k scope terms (exists y f) all h w =
        let t = skolem_term (slice_index symbols k) scope in
        clauses_fit symbols (k + 1) scope (with_term terms y t) f (one_more terms y t all (skolem_of (slice_index symbols k) scope w.0)) h w.1
    clauses_fit symbols k scope terms (negation f) all h w = literal_fits terms false f all h
    clauses_fit symbols k scope terms verum all h w = literal_fits terms true verum all h
    clauses_fit symbols k scope terms falsum all h w = literal_fits terms true falsum all h
    clauses_fit symbols k scope terms (equal s t) all h w = literal_fits terms true (equal s t) all h
    clauses_fit symbols k scope terms (atom r ts) all h w = literal_fits terms true (atom r ts) all h
    clauses_fit symbols k scope terms (implication f g) all h w = tt
    clauses_fit symbols k scope terms (equivalence f g) all h w = tt

    numbered_fit : (n : ℕ) (cs : List ClauseTree) → AllByRecursion (IsClauseOf P) cs → AllByRecursion (IsClauseOf P) (map (λ (row : ℕ × ClauseTree). row.1) (map (λ c. (n, renumbered c)) cs))
    numbered_fit n [] h = tt
    numbered_fit n (c ∷ cs) h = (renumbered_of c h.0, numbered_fit n cs h.1)

    -- the clauses of all formulas
    pub rows_fit : (symbols : List ℕ) (n k : ℕ) (ss : List Said) → AllByRecursion (λ s. IsFormulaOf P s.formula) ss → AllByRecursion (IsSkolemUse P) (axioms_from symbols k ss)
        → AllByRecursion (IsClauseOf P) (map (λ (row : ℕ × ClauseTree). row.1) (rows_from symbols n k ss))
    rows_fit symbols n k [] h w = tt
    rows_fit symbols n k (s ∷ ss) h w =
        let f = form s in
        let cs = clauses_in symbols k [] var f in
        let ws = all_split (IsSkolemUse P) (skolem_axioms symbols k [] var f) (axioms_from symbols (k + somes f) ss) w in
        let own = numbered_fit n cs (clauses_fit symbols k [] var f (λ x. tt) (form_fits s h.0) ws.0) in
        let rest = rows_fit symbols (n + 1) (k + somes f) ss h.1 ws.1 in
        subst (AllByRecursion (IsClauseOf P)) (sym (map-append (λ (row : ℕ × ClauseTree). row.1) (map (λ c. (n, renumbered c)) cs) (rows_from symbols (n + 1) (k + somes f) ss)))
        (all_append (IsClauseOf P) _ _ own rest)
