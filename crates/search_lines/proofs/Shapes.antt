-- Terms and atoms whose symbols are such ones, with their arguments; they stay so with such terms put in.
use Rattle.std.proofs.Common.{◌≡◌, ◌⊎◌, ℕ, suc, ◌+◌, ◌≤◌, ◌<◌, ◌^◌, ◌==◌, Bool, true, false, if◌then◌else◌, List, [], ◌∷◌, length, map, inl, inr, refl, sym, ap, subst, arith}
use Rattle.std.specs.List.{AllByRecursion}
use Rattle.std.proofs.lemmas.Bool.{or_left, or_right, eq-eqb}
use Rattle.fol_core.specs.Bound.{has_symbol, have_symbol, uses_symbol}
use Rattle.fol_core.specs.Fol.{Fol, verum, falsum, equal, atom, negation, conjunction, disjunction, implication, equivalence, forall, exists}
use Rattle.fol_core.specs.Free.{variables_of, variables_of_all}
use Rattle.fol_core.specs.Literals.{equality}
use Rattle.fol_core.specs.Sizes.{depth_of, depths_of}
use Rattle.fol_core.specs.Substitutions.{Substitution, with_term, substitute, substitute_all}
use Rattle.fol_core.specs.Tree.{Tree, var, elem, app, Trees, none, more, trees_of}
use Rattle.ladr_print.specs.HasText.{many}
use Rattle.clausify.specs.Skolem.{skolem_term}
use Rattle.search_lines.proofs.Atoms.{Atoms, joined_all}

-- a number of the machine
abbrev pub IsLow : ℕ → Type 0
IsLow x = x < 2 ^ 64

abbrev mutual
  -- each symbol of a term is such a one, the variables have numbers of the machine, and no element is named
  pub IsTermOf : (ℕ → ℕ → Type 0) → Tree → Type 0
  IsTermOf F (var x) = IsLow x
  IsTermOf F (elem k) = ⊥
  IsTermOf F (app s ts) = F s (many ts) × AreTermsOf F ts

  pub AreTermsOf : (ℕ → ℕ → Type 0) → Trees → Type 0
  AreTermsOf F none = Unit {0}
  AreTermsOf F (more t ts) = IsTermOf F t × AreTermsOf F ts

-- an equation, or an atom whose relation is such a one
abbrev pub IsRelation : (ℕ → ℕ → Type 0) → ℕ → ℕ → Type 0
IsRelation R r n = R r n ⊎ ((r ≡ equality) × (n ≡ 2))

abbrev pub IsAtomOf : (F R : ℕ → ℕ → Type 0) → Tree → Type 0
IsAtomOf F R (var x) = ⊥
IsAtomOf F R (elem k) = ⊥
IsAtomOf F R (app r ts) = IsRelation R r (many ts) × AreTermsOf F ts

pub many_put : (terms : Substitution) (ts : Trees) → many (substitute_all terms ts) ≡ many ts
many_put terms none = refl
many_put terms (more t ts) = ap suc (many_put terms ts)

module _ (F : ℕ → ℕ → Type 0) where
  -- terms that are such
  abbrev pub AreAll : Substitution → Type 0
  AreAll terms = (x : ℕ) → IsLow x → IsTermOf F (terms x)

  mutual
    term_put : (terms : Substitution) → AreAll terms → (t : Tree) → IsTermOf F t → IsTermOf F (substitute terms t)
    term_put terms g (var x) h = g x h
    term_put terms g (elem k) h = h
    term_put terms g (app s ts) h = (subst (F s) (sym (many_put terms ts)) h.0, terms_put terms g ts h.1)

    terms_put : (terms : Substitution) → AreAll terms → (ts : Trees) → AreTermsOf F ts → AreTermsOf F (substitute_all terms ts)
    terms_put terms g none h = tt
    terms_put terms g (more t ts) h = (term_put terms g t h.0, terms_put terms g ts h.1)

  pub atom_put : (R : ℕ → ℕ → Type 0) (terms : Substitution) → AreAll terms → (t : Tree) → IsAtomOf F R t → IsAtomOf F R (substitute terms t)
  atom_put R terms g (var x) h = absurd h
  atom_put R terms g (elem k) h = absurd h
  atom_put R terms g (app r ts) h = (subst (IsRelation R r) (sym (many_put terms ts)) h.0, terms_put terms g ts h.1)

  variables_are : (xs : List ℕ) → AllByRecursion IsLow xs → AreTermsOf F (trees_of (map var xs))
  variables_are [] l = tt
  variables_are (x ∷ xs) l = (l.0, variables_are xs l.1)

  many_variables : (xs : List ℕ) → many (trees_of (map var xs)) ≡ length xs
  many_variables [] = refl
  many_variables (x ∷ xs) = ap suc (many_variables xs)

  -- a Skolem term is one where its symbol is, with so many arguments
  skolem_is : (s : ℕ) (xs : List ℕ) → F s (length xs) → AllByRecursion IsLow xs → IsTermOf F (skolem_term s xs)
  skolem_is s xs h l = (subst (F s) (sym (many_variables xs)) h, variables_are xs l)

  pub with_skolem : (terms : Substitution) (y s : ℕ) (xs : List ℕ) → F s (length xs) → AllByRecursion IsLow xs → AreAll terms → AreAll (with_term terms y (skolem_term s xs))
  with_skolem terms y s xs h l g x k = by (x == y)
    where
      by : (b : Bool) → IsTermOf F (if b then skolem_term s xs else terms x)
      by true = skolem_is s xs h l
      by false = g x k

-- the variables of such an atom
module _ (F R : ℕ → ℕ → Type 0) where
  mutual
    term_low : (t : Tree) → IsTermOf F t → AllByRecursion IsLow (variables_of t)
    term_low (var x) h = (h, tt)
    term_low (elem k) h = tt
    term_low (app s ts) h = terms_low ts h.1

    terms_low : (ts : Trees) → AreTermsOf F ts → AllByRecursion IsLow (variables_of_all ts)
    terms_low none h = tt
    terms_low (more t ts) h = joined_all IsLow (variables_of t) (variables_of_all ts) (term_low t h.0) (terms_low ts h.1)

  pub atom_low : (t : Tree) → IsAtomOf F R t → AllByRecursion IsLow (variables_of t)
  atom_low (var x) h = absurd h
  atom_low (elem k) h = absurd h
  atom_low (app r ts) h = terms_low ts h.1

-- levels: terms of at most so many more levels than a variable has bring as many more
module _ (n : ℕ) where
  abbrev pub AreLow : Substitution → Type 0
  AreLow terms = (x : ℕ) → depth_of (terms x) ≤ n + 1

  mutual
    pub depth_put : (terms : Substitution) → AreLow terms → (t : Tree) → depth_of (substitute terms t) ≤ depth_of t + n
    depth_put terms g (var x) = omega (arith, g x)
    depth_put terms g (elem k) = omega arith
    depth_put terms g (app s ts) = omega (arith, depths_put terms g ts)

    depths_put : (terms : Substitution) → AreLow terms → (ts : Trees) → depths_of (substitute_all terms ts) ≤ depths_of ts + n
    depths_put terms g none = omega arith
    depths_put terms g (more t ts) = omega (arith, depth_put terms g t, depths_put terms g ts)

variables_low : (xs : List ℕ) → depths_of (trees_of (map var xs)) ≤ 1
variables_low [] = omega arith
variables_low (x ∷ xs) = omega (arith, variables_low xs)

pub low_skolem : (terms : Substitution) (y s : ℕ) (xs : List ℕ) → AreLow 1 terms → AreLow 1 (with_term terms y (skolem_term s xs))
low_skolem terms y s xs g x = by (x == y)
  where
    by : (b : Bool) → depth_of (if b then skolem_term s xs else terms x) ≤ 2
    by true = omega (arith, variables_low xs)
    by false = omega (arith, g x)

-- what holds besides of each symbol that a formula has, beside an equation's
module _ (F R : ℕ → ℕ → Type 0) (U : ℕ → Type 0) where
  abbrev With : (ℕ → ℕ → Type 0) → ℕ → ℕ → Type 0
  With P s n = P s n × U s

  mutual
    term_with : (t : Tree) → IsTermOf F t → ((s : ℕ) → has_symbol s t ≡ true → U s) → IsTermOf (With F) t
    term_with (var x) h u = h
    term_with (elem k) h u = absurd h
    term_with (app s ts) h u = (
      (h.0, u s (or_left (s == s) (have_symbol s ts) (eq-eqb s s refl))),
      terms_with ts h.1 (λ n e. u n (or_right (n == s) (have_symbol n ts) e)),
    )

    terms_with : (ts : Trees) → AreTermsOf F ts → ((s : ℕ) → have_symbol s ts ≡ true → U s) → AreTermsOf (With F) ts
    terms_with none h u = tt
    terms_with (more t ts) h u = (
      term_with t h.0 (λ n e. u n (or_left (has_symbol n t) (have_symbol n ts) e)),
      terms_with ts h.1 (λ n e. u n (or_right (has_symbol n t) (have_symbol n ts) e)),
    )

  relation_with : (r n : ℕ) → IsRelation R r n → U r → IsRelation (With R) r n
  relation_with r n (inl h) u = inl (h, u)
  relation_with r n (inr h) u = inr h

  abbrev Uses : Fol → Type 0
  Uses f = (s : ℕ) → uses_symbol s f ≡ true → U s

  pub atoms_with : (f : Fol) → Atoms IsLow (IsAtomOf F R) f → Uses f → Atoms IsLow (IsAtomOf (With F) (With R)) f
  atoms_with verum h u = tt
  atoms_with falsum h u = tt
  atoms_with (equal s t) h u = (
    inr (refl, refl),
    (
      term_with s h.1.0 (λ n e. u n (or_left (has_symbol n s) (has_symbol n t) e)),
      (term_with t h.1.1.0 (λ n e. u n (or_right (has_symbol n s) (has_symbol n t) e)), tt),
    ),
  )
  atoms_with (atom r ts) h u = (
    relation_with r (many ts) h.0 (u r (or_left (r == r) (have_symbol r ts) (eq-eqb r r refl))),
    terms_with ts h.1 (λ n e. u n (or_right (n == r) (have_symbol n ts) e)),
  )
  atoms_with (negation f) h u = atoms_with f h u
  atoms_with (conjunction f g) h u = (atoms_with f h.0 (λ n e. u n (or_left (uses_symbol n f) (uses_symbol n g) e)), atoms_with g h.1 (λ n e. u n (or_right (uses_symbol n f) (uses_symbol n g) e)))
  atoms_with (disjunction f g) h u = (atoms_with f h.0 (λ n e. u n (or_left (uses_symbol n f) (uses_symbol n g) e)), atoms_with g h.1 (λ n e. u n (or_right (uses_symbol n f) (uses_symbol n g) e)))
  atoms_with (implication f g) h u = (atoms_with f h.0 (λ n e. u n (or_left (uses_symbol n f) (uses_symbol n g) e)), atoms_with g h.1 (λ n e. u n (or_right (uses_symbol n f) (uses_symbol n g) e)))
  atoms_with (equivalence f g) h u = (atoms_with f h.0 (λ n e. u n (or_left (uses_symbol n f) (uses_symbol n g) e)), atoms_with g h.1 (λ n e. u n (or_right (uses_symbol n f) (uses_symbol n g) e)))
  atoms_with (forall x f) h u = (h.0, atoms_with f h.1 u)
  atoms_with (exists x f) h u = (h.0, atoms_with f h.1 u)
