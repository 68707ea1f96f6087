-- Parts of clauses of a signature, and clauses that are made of them.
use Rattle.std.proofs.Common.{◌≡◌, inl, inr, ℕ, zero, suc, ◌-◌, Bool, true, false, ◌==◌, if◌then◌else◌, IsTrue, List, [], ◌∷◌, ◌++◌, map, Option, Some, None, unwrap_or, refl, sym, ap, ◌∙◌, subst}
use Rattle.std.proofs.lemmas.Bool.{or_cases, eqb-true, false≢true}
use Rattle.std.specs.List.{AllByRecursion}
use Rattle.std.specs.Option.{option_and_then}
use Rattle.fol_core.specs.Literals.{Lit, ClauseTree, literal, equality}
use Rattle.fol_core.specs.Renumbered.{clause_variables, by_place, renumbered}
use Rattle.fol_core.specs.Substitutions.{Substitution, substitute}
use Rattle.fol_core.specs.Tree.{Tree, var, elem, app, Trees, none, more}
use Rattle.substitutions.specs.Apart.{Own, instances}
use Rattle.substitutions.specs.Instances.{substitute_clause}
use Rattle.substitutions.specs.Paths.{argument, subterm_at, with_argument, replaced}
use Rattle.substitutions.proofs.Composing.{first_atom, other_literals}
use Rattle.derivation.specs.Equations.{equation, is_equation, left_of, right_of, below, term_below}
use Rattle.derivation.specs.Places.{has_literal, has_place, atom_at, others, with_atom}
use Rattle.derivation_laws.specs.Signatures.{Signature, argument_count, IsTermIn, AreTermsIn, IsAtomIn, IsClauseIn}
use Rattle.derivation_laws.proofs.Erased.{erased_for, atom_put_in, atom_instance}

count_changed : (change : Tree → Tree) (ts : Trees) (n : ℕ) → argument_count (with_argument change ts n) ≡ argument_count ts
count_changed change none n = refl
count_changed change (more t ts) n = by (n == 1) (count_changed change ts (n - 1))
  where
    by : (b : Bool) → argument_count (with_argument change ts (n - 1)) ≡ argument_count ts → argument_count (if b then more (change t) ts else more t (with_argument change ts (n - 1))) ≡ suc (argument_count ts)
    by true rest = refl
    by false rest = ap suc rest

first_clause : (c d : ClauseTree) (cs ds : List ClauseTree) → c ∷ cs ≡ d ∷ ds → c ≡ d
first_clause c d cs ds h = cc

other_clauses : (c d : ClauseTree) (cs ds : List ClauseTree) → c ∷ cs ≡ d ∷ ds → cs ≡ ds
other_clauses c d cs ds h = cc

module _ (g : Signature) where
  -- the sides of equations
  pub left_in : (t : Tree) → IsAtomIn g t → IsTermIn g (left_of t)
  left_in (var x) i = tt
  left_in (elem k) i = tt
  left_in (app r none) i = tt
  left_in (app r (more s ts)) i = i.1.0

  pub right_in : (t : Tree) → IsAtomIn g t → IsTermIn g (right_of t)
  right_in (var x) i = tt
  right_in (elem k) i = tt
  right_in (app r none) i = tt
  right_in (app r (more s none)) i = tt
  right_in (app r (more s (more t ts))) i = i.1.1.0

  -- where there is an equation, there may be any other one of the signature's terms
  pub equation_in : (t u v : Tree) → IsTrue (is_equation t) → IsAtomIn g t → IsTermIn g u → IsTermIn g v → IsAtomIn g (equation u v)
  equation_in (var x) u v is i p q = absurd (false≢true is)
  equation_in (elem k) u v is i p q = absurd (false≢true is)
  equation_in (app r none) u v is i p q = absurd (false≢true is)
  equation_in (app r (more s none)) u v is i p q = absurd (false≢true is)
  equation_in (app r (more s (more t none))) u v is i p q = (ap (λ n. g.relations n 2) (sym (eqb-true r equality is)) ∙ i.0, (p, (q, tt)))
  equation_in (app r (more s (more t (more w ts)))) u v is i p q = absurd (false≢true is)

  -- subterms by their paths
  argument_in : (ts : Trees) (n : ℕ) (v : Tree) → argument ts n ≡ Some v → AreTermsIn g ts → IsTermIn g v
  argument_in none n v h i = absurd (cc)
  argument_in (more t ts) n v h i = by (n == 1) h (λ e. argument_in ts (n - 1) v e i.1)
    where
      by : (b : Bool) → (if b then Some t else argument ts (n - 1)) ≡ Some v → (argument ts (n - 1) ≡ Some v → IsTermIn g v) → IsTermIn g v
      by true e rest = let same : t ≡ v = cc in subst (IsTermIn g) same i.0
      by false e rest = rest e

  subterm_in : (t : Tree) (path : List ℕ) (v : Tree) → subterm_at t path ≡ Some v → IsTermIn g t → IsTermIn g v
  subterm_in t [] v h i = let same : t ≡ v = cc in subst (IsTermIn g) same i
  subterm_in (var x) (n ∷ path) v h i = absurd (cc)
  subterm_in (elem k) (n ∷ path) v h i = absurd (cc)
  subterm_in (app f ts) (n ∷ path) v h i = by (argument ts n) refl h (λ w e. subterm_in w path v e)
    where
      by : (o : Option Tree) → argument ts n ≡ o → option_and_then (λ u. subterm_at u path) o ≡ Some v → ((w : Tree) → subterm_at w path ≡ Some v → IsTermIn g w → IsTermIn g v) → IsTermIn g v
      by None is e rest = absurd (cc)
      by (Some w) is e rest = rest w e (argument_in ts n w is i.1)

  pub below_in : (t : Tree) (path : List ℕ) (v : Tree) → below t path ≡ Some v → IsAtomIn g t → IsTermIn g v
  below_in t [] v h i = absurd (cc)
  below_in (var x) (n ∷ path) v h i = absurd (cc)
  below_in (elem k) (n ∷ path) v h i = absurd (cc)
  below_in (app r ts) (n ∷ path) v h i = by (argument ts n) refl h
    where
      by : (o : Option Tree) → argument ts n ≡ o → option_and_then (λ u. subterm_at u path) o ≡ Some v → IsTermIn g v
      by None is e = absurd (cc)
      by (Some w) is e = subterm_in w path v e (argument_in ts n w is i.1)

  pub term_below_in : (t : Tree) (path : List ℕ) → IsAtomIn g t → IsTermIn g (term_below t path)
  term_below_in t path i = by (below t path) refl
    where
      by : (o : Option Tree) → below t path ≡ o → IsTermIn g (unwrap_or o (var 0))
      by None e = tt
      by (Some v) e = below_in t path v e i

  arguments_in : (change : Tree → Tree) → ((v : Tree) → IsTermIn g v → IsTermIn g (change v)) → (ts : Trees) (n : ℕ) → AreTermsIn g ts → AreTermsIn g (with_argument change ts n)
  arguments_in change h none n i = tt
  arguments_in change h (more t ts) n i = by (n == 1) (arguments_in change h ts (n - 1) i.1)
    where
      by : (b : Bool) → AreTermsIn g (with_argument change ts (n - 1)) → AreTermsIn g (if b then more (change t) ts else more t (with_argument change ts (n - 1)))
      by true rest = (h t i.0, i.1)
      by false rest = (i.0, rest)

  replaced_term_in : (t : Tree) (path : List ℕ) (new : Tree) → IsTermIn g new → IsTermIn g t → IsTermIn g (replaced t path new)
  replaced_term_in t [] new j i = j
  replaced_term_in (var x) (n ∷ path) new j i = tt
  replaced_term_in (elem k) (n ∷ path) new j i = i
  replaced_term_in (app f ts) (n ∷ path) new j i = (
    ap (g.functions f) (count_changed (λ v. replaced v path new) ts n) ∙ i.0,
    arguments_in (λ v. replaced v path new) (λ v. replaced_term_in v path new j) ts n i.1,
  )

  -- a path below an atom leads past its relation
  pub replaced_in : (t : Tree) (path : List ℕ) (v new : Tree) → below t path ≡ Some v → IsTermIn g new → IsAtomIn g t → IsAtomIn g (replaced t path new)
  replaced_in t [] v new h j i = absurd (cc)
  replaced_in (var x) (n ∷ path) v new h j i = i
  replaced_in (elem k) (n ∷ path) v new h j i = i
  replaced_in (app r ts) (n ∷ path) v new h j i = (
    ap (g.relations r) (count_changed (λ v. replaced v path new) ts n) ∙ i.0,
    arguments_in (λ v. replaced v path new) (λ v. replaced_term_in v path new j) ts n i.1,
  )

  -- literals by their places
  pub literal_in : (sign : Bool) (c : ClauseTree) (a : ℕ) → IsTrue (has_literal sign c a) → IsClauseIn g c → IsAtomIn g (atom_at c a)
  literal_in sign [] a h i = absurd (false≢true h)
  literal_in sign (l ∷ c) zero h i = i.0
  literal_in sign (l ∷ c) (suc a) h i = literal_in sign c a h i.1

  pub atom_in : (c : ClauseTree) (a : ℕ) → IsTrue (has_place c a) → IsClauseIn g c → IsAtomIn g (atom_at c a)
  atom_in c a h i = elim (or_cases (has_literal true c a) (has_literal false c a) h) [
    | inl e ↦ literal_in true c a e i
    | inr e ↦ literal_in false c a e i
  ]

  pub others_in : (test : ℕ → Bool) (c : ClauseTree) → IsClauseIn g c → IsClauseIn g (others test c)
  others_in test [] i = tt
  others_in test (l ∷ c) i = by (test 0) (others_in (λ n. test (suc n)) c i.1)
    where
      by : (b : Bool) → IsClauseIn g (others (λ n. test (suc n)) c) → IsClauseIn g (if b then others (λ n. test (suc n)) c else l ∷ others (λ n. test (suc n)) c)
      by true rest = rest
      by false rest = (i.0, rest)

  pub with_atom_in : (c : ClauseTree) (a : ℕ) (t : Tree) → IsAtomIn g t → IsClauseIn g c → IsClauseIn g (with_atom c a t)
  with_atom_in [] a t j i = tt
  with_atom_in (l ∷ c) zero t j i = (j, i.1)
  with_atom_in (l ∷ c) (suc a) t j i = (i.0, with_atom_in c a t j i.1)

  pub append_in : (c d : ClauseTree) → IsClauseIn g c → IsClauseIn g d → IsClauseIn g (c ++ d)
  append_in [] d i j = j
  append_in (l ∷ c) d i j = (i.0, append_in c d i.1 j)

  -- instances of clauses
  pub clause_put_in : (s : Substitution) → ((x : ℕ) → IsTermIn g (s x)) → (c : ClauseTree) → IsClauseIn g c → IsClauseIn g (substitute_clause s c)
  clause_put_in s h [] i = tt
  clause_put_in s h (l ∷ c) i = (atom_put_in g s h l.atom i.0, clause_put_in s h c i.1)

  pub renumbered_in : (c : ClauseTree) → IsClauseIn g c → IsClauseIn g (renumbered c)
  renumbered_in c i = clause_put_in (by_place (clause_variables c)) (λ x. tt) c i

  abbrev pub AreClausesIn : List ClauseTree → Type 0
  AreClausesIn cs = AllByRecursion (IsClauseIn g) cs

  pub instances_in : (own : Own) → ((n x : ℕ) → IsTermIn g (own n x)) → (cs : List ClauseTree) → AreClausesIn cs → AreClausesIn (instances own cs)
  instances_in own h [] i = tt
  instances_in own h (c ∷ cs) i = (clause_put_in (own 0) (h 0) c i.0, instances_in (λ n. own (suc n)) (λ n. h (suc n)) cs i.1)

  clause_instance : (s u : Substitution) (c : ClauseTree) → IsClauseIn g c → substitute_clause (erased_for g s) c ≡ substitute_clause u (substitute_clause s c) → IsClauseIn g (substitute_clause s c)
  clause_instance s u [] i h = tt
  clause_instance s u (l ∷ c) i h =
      let left : Lit = literal l.positive (substitute (erased_for g s) l.atom) in
      let right : Lit = literal l.positive (substitute u (substitute s l.atom)) in (
        atom_instance g s u l.atom i.0 (first_atom left right (substitute_clause (erased_for g s) c) (substitute_clause u (substitute_clause s c)) h),
        clause_instance s u c i.1 (other_literals left right (substitute_clause (erased_for g s) c) (substitute_clause u (substitute_clause s c)) h),
      )

  -- instances of clauses of the signature are in it where the erased terms make instances of them
  pub clauses_instance : (s u : Substitution) (cs : List ClauseTree) → AreClausesIn cs → map (substitute_clause (erased_for g s)) cs ≡ map (substitute_clause u) (map (substitute_clause s) cs)
      → AreClausesIn (map (substitute_clause s) cs)
  clauses_instance s u [] i h = tt
  clauses_instance s u (c ∷ cs) i h =
      let left = substitute_clause (erased_for g s) c in
      let right = substitute_clause u (substitute_clause s c) in
      let lefts = map (substitute_clause (erased_for g s)) cs in
      let rights = map (substitute_clause u) (map (substitute_clause s) cs) in (
        clause_instance s u c i.0 (first_clause left right lefts rights h),
        clauses_instance s u cs i.1 (other_clauses left right lefts rights h),
      )
