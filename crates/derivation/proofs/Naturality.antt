-- Places of instances, and what rules make of them.
use Rattle.std.proofs.Common.{◌≡◌, inl, inr, ℕ, zero, suc, Bool, true, false, ◌&&◌, ◌||◌, if◌then◌else◌, IsTrue, List, [], ◌∷◌, ◌++◌, Option, Some, None, unwrap_or, refl, sym, ap, ap₂, ◌∙◌}
use Rattle.std.proofs.lemmas.Bool.{or_left, or_right, or_cases, and_parts, false≢true}
use Rattle.fol_core.specs.Literals.{ClauseTree}
use Rattle.fol_core.specs.Substitutions.{Substitution, substitute}
use Rattle.fol_core.specs.Tree.{Tree, var, elem, app}
use Rattle.substitutions.specs.Instances.{substitute_literal, substitute_clause}
use Rattle.substitutions.proofs.Replacing.{subterm_substituted}
use Rattle.derivation.specs.Equations.{below, is_no_variable, term_below}
use Rattle.derivation.specs.Places.{has_literal, has_place, atom_at, others, with_atom, are_alike, are_opposite}

pub has_put : (s : Substitution) (sign : Bool) (c : ClauseTree) (a : ℕ) → has_literal sign (substitute_clause s c) a ≡ has_literal sign c a
has_put s sign [] a = refl
has_put s sign (l ∷ c) zero = refl
has_put s sign (l ∷ c) (suc a) = has_put s sign c a

pub place_put : (s : Substitution) (c : ClauseTree) (a : ℕ) → has_place (substitute_clause s c) a ≡ has_place c a
place_put s c a = ap₂ (λ p q. p || q) (has_put s true c a) (has_put s false c a)

-- the atom at a place that is there
pub atom_of_put : (s : Substitution) (sign : Bool) (c : ClauseTree) (a : ℕ) → IsTrue (has_literal sign c a) → atom_at (substitute_clause s c) a ≡ substitute s (atom_at c a)
atom_of_put s sign [] a h = absurd (false≢true h)
atom_of_put s sign (l ∷ c) zero h = refl
atom_of_put s sign (l ∷ c) (suc a) h = atom_of_put s sign c a h

pub atom_at_put : (s : Substitution) (c : ClauseTree) (a : ℕ) → IsTrue (has_place c a) → atom_at (substitute_clause s c) a ≡ substitute s (atom_at c a)
atom_at_put s c a h = elim (or_cases (has_literal true c a) (has_literal false c a) h) [
  | inl p ↦ atom_of_put s true c a p
  | inr p ↦ atom_of_put s false c a p
]

pub others_put : (s : Substitution) (test : ℕ → Bool) (c : ClauseTree) → others test (substitute_clause s c) ≡ substitute_clause s (others test c)
others_put s test [] = refl
others_put s test (l ∷ c) = by (test 0) (others_put s (λ k. test (suc k)) c)
  where
    by : (b : Bool) → others (λ k. test (suc k)) (substitute_clause s c) ≡ substitute_clause s (others (λ k. test (suc k)) c)
        → (if b then others (λ k. test (suc k)) (substitute_clause s c) else substitute_literal s l ∷ others (λ k. test (suc k)) (substitute_clause s c))
        ≡ substitute_clause s (if b then others (λ k. test (suc k)) c else l ∷ others (λ k. test (suc k)) c)
    by true rest = rest
    by false rest = ap (λ d. substitute_literal s l ∷ d) rest

pub with_atom_put : (s : Substitution) (c : ClauseTree) (a : ℕ) (t : Tree) → with_atom (substitute_clause s c) a (substitute s t) ≡ substitute_clause s (with_atom c a t)
with_atom_put s [] a t = refl
with_atom_put s (l ∷ c) zero t = refl
with_atom_put s (l ∷ c) (suc a) t = ap (λ d. substitute_literal s l ∷ d) (with_atom_put s c a t)

pub append_put : (s : Substitution) (c d : ClauseTree) → substitute_clause s (c ++ d) ≡ substitute_clause s c ++ substitute_clause s d
append_put s [] d = refl
append_put s (l ∷ c) d = ap (λ e. substitute_literal s l ∷ e) (append_put s c d)

-- the term below an atom
pub below_put : (s : Substitution) (t : Tree) (path : List ℕ) (u : Tree) → below t path ≡ Some u → below (substitute s t) path ≡ Some (substitute s u)
below_put s t [] u h = cc
below_put s t (k ∷ path) u h = subterm_substituted s t (k ∷ path) u h

pub there_below : (t : Tree) (path : List ℕ) → IsTrue (is_no_variable (below t path)) → below t path ≡ Some (term_below t path)
there_below t path h = by (below t path) h
  where
    by : (o : Option Tree) → IsTrue (is_no_variable o) → o ≡ Some (unwrap_or o (var 0))
    by None h = absurd (false≢true h)
    by (Some t) h = refl

pub no_variable_put : (s : Substitution) (t : Tree) (path : List ℕ) → IsTrue (is_no_variable (below t path)) → IsTrue (is_no_variable (below (substitute s t) path))
no_variable_put s t path h = by (term_below t path) (there_below t path h)
  where
    by : (u : Tree) → below t path ≡ Some u → IsTrue (is_no_variable (below (substitute s t) path))
    by (var x) is = absurd (false≢true (sym (ap is_no_variable is) ∙ h))
    by (elem k) is = ap is_no_variable (below_put s t path (elem k) is)
    by (app f ts) is = ap is_no_variable (below_put s t path (app f ts) is)

pub alike_put : (s u : Substitution) (c : ClauseTree) (a : ℕ) (d : ClauseTree) (b : ℕ) → are_alike (substitute_clause s c) a (substitute_clause u d) b ≡ are_alike c a d b
alike_put s u c a d b = ap₂ (λ p q. p || q) (ap₂ (λ p q. p && q) (has_put s true c a) (has_put u true d b)) (ap₂ (λ p q. p && q) (has_put s false c a) (has_put u false d b))

pub opposites_put : (s u : Substitution) (c : ClauseTree) (a : ℕ) (d : ClauseTree) (b : ℕ) → are_opposite (substitute_clause s c) a (substitute_clause u d) b ≡ are_opposite c a d b
opposites_put s u c a d b = ap₂ (λ p q. p || q) (ap₂ (λ p q. p && q) (has_put s true c a) (has_put u false d b)) (ap₂ (λ p q. p && q) (has_put s false c a) (has_put u true d b))

-- a place with an opposite one is there
pub opposite_places : (c : ClauseTree) (a : ℕ) (d : ClauseTree) (b : ℕ) → IsTrue (are_opposite c a d b) → IsTrue (has_place c a) × IsTrue (has_place d b)
opposite_places c a d b h = elim (or_cases (has_literal true c a && has_literal false d b) (has_literal false c a && has_literal true d b) h) [
  | inl p ↦ let q = and_parts (has_literal true c a) (has_literal false d b) p in (or_left (has_literal true c a) (has_literal false c a) q.0, or_right (has_literal true d b) (has_literal false d b) q.1)
  | inr p ↦ let q = and_parts (has_literal false c a) (has_literal true d b) p in (or_right (has_literal true c a) (has_literal false c a) q.0, or_left (has_literal true d b) (has_literal false d b) q.1)
]

pub alike_places : (c : ClauseTree) (a : ℕ) (d : ClauseTree) (b : ℕ) → IsTrue (are_alike c a d b) → IsTrue (has_place c a) × IsTrue (has_place d b)
alike_places c a d b h = elim (or_cases (has_literal true c a && has_literal true d b) (has_literal false c a && has_literal false d b) h) [
  | inl p ↦ let q = and_parts (has_literal true c a) (has_literal true d b) p in (or_left (has_literal true c a) (has_literal false c a) q.0, or_left (has_literal true d b) (has_literal false d b) q.1)
  | inr p ↦ let q = and_parts (has_literal false c a) (has_literal false d b) p in (or_right (has_literal true c a) (has_literal false c a) q.0, or_right (has_literal true d b) (has_literal false d b) q.1)
]
