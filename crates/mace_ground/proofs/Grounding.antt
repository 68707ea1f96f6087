-- Assignments that agree on a clause's variables.
use Rattle.std.proofs.Common.{◌≡◌, ℕ, zero, suc, ◌+◌, ◌<◌, ◌≤◌, nat_lt, IsTrue, Bool, not, if◌then◌else◌, List, [], ◌∷◌, length, slice_index, refl, sym, ap, ◌∙◌, arith, subst}
use Rattle.std.proofs.lemmas.Bool.{ltb-true, lt-ltb}
use Rattle.fol_core.specs.Literals.{Lit, ClauseTree, is_true_atom, is_true_literal, is_true_clause, IsTrueClause}
use Rattle.fol_core.specs.Meaning.{Meaning}
use Rattle.fol_core.specs.Tree.{Tree, var, elem, app, Trees, none, more}
use Rattle.fol_core.specs.Truth.{Assignment, value_of, values_of}
use Rattle.mace_ground.specs.Instances.{above_variables, above_all_variables, variables_in, assigned_by, IsInstance, InstancesSuffice}
use Rattle.model_tables.specs.Size.{AllBelow}

module _ (m : Meaning) (e f : Assignment) (k : ℕ) (same : (x : ℕ) → x < k → e x ≡ f x) where
  mutual
    value_same : (t : Tree) → above_variables t ≤ k → value_of m e t ≡ value_of m f t
    value_same (var x) h = same x h
    value_same (elem j) h = refl
    value_same (app s ts) h = ap (m.function s) (values_same ts h)

    values_same : (ts : Trees) → above_all_variables ts ≤ k → values_of m e ts ≡ values_of m f ts
    values_same none h = refl
    values_same (more t ts) h = rw (value_same t (omega (arith, h)), values_same ts (omega (arith, h))) refl

  atom_same : (t : Tree) → above_variables t ≤ k → is_true_atom m e t ≡ is_true_atom m f t
  atom_same (var x) h = refl
  atom_same (elem j) h = refl
  atom_same (app s ts) h = rw (values_same ts h) refl

  literal_same : (l : Lit) → above_variables l.atom ≤ k → is_true_literal m e l ≡ is_true_literal m f l
  literal_same l h = ap (λ (b : Bool). if l.positive then b else not b) (atom_same l.atom h)

  pub clause_same : (c : ClauseTree) → variables_in c ≤ k → is_true_clause m e c ≡ is_true_clause m f c
  clause_same [] h = refl
  clause_same (l ∷ c) h = rw (literal_same l (omega (arith, h)), clause_same c (omega (arith, h))) refl

-- the elements of an assignment for the variables from x on
abbrev firsts : Assignment → ℕ → ℕ → List ℕ
firsts e x zero = []
firsts e x (suc k) = e x ∷ firsts e (suc x) k

firsts_many : (e : Assignment) (x k : ℕ) → length (firsts e x k) ≡ k
firsts_many e x zero = refl
firsts_many e x (suc k) = ap suc (firsts_many e (suc x) k)

firsts_at : (e : Assignment) (x k i : ℕ) → i < k → slice_index (firsts e x k) i ≡ e (x + i)
firsts_at e x zero i h = absurd (omega (arith, h))
firsts_at e x (suc k) zero h = let same : x + 0 ≡ x = omega arith in rw same refl
firsts_at e x (suc k) (suc i) h = let same : x + suc i ≡ suc x + i = omega arith in rw same (firsts_at e (suc x) k i (omega (arith, h)))

within_below : (n : ℕ) (m : Meaning) → ((x : ℕ) → m.within x ≡ nat_lt x n) → (x : ℕ) → IsTrue (m.within x) → x < n
within_below n m size x h = ltb-true x n (sym (size x) ∙ h)

firsts_below : (n : ℕ) (e : Assignment) (x k : ℕ) → ((y : ℕ) → e y < n) → AllBelow n (firsts e x k)
firsts_below n e x zero h = tt
firsts_below n e x (suc k) h = (h x, firsts_below n e (suc x) k h)

pub list_below : (n : ℕ) (xs : List ℕ) (i : ℕ) → 0 < n → AllBelow n xs → slice_index xs i < n
list_below n [] i h below = h
list_below n (x ∷ xs) zero h below = below.0
list_below n (x ∷ xs) (suc i) h below = list_below n xs i h below.1

pub suffice : InstancesSuffice
suffice n m c some size = (down, up)
  where
    down : IsTrueClause m c → (xs : List ℕ) → IsInstance n c xs → IsTrue (is_true_clause m (assigned_by xs) c)
    down holds xs is = holds (assigned_by xs) (λ x. size (slice_index xs x) ∙ lt-ltb _ _ (list_below n xs x some is.1))

    up : ((xs : List ℕ) → IsInstance n c xs → IsTrue (is_true_clause m (assigned_by xs) c)) → IsTrueClause m c
    up each e within =
        let k = variables_in c in
        let xs = firsts e 0 k in
        let one = each xs (firsts_many e 0 k, firsts_below n e 0 k (λ y. within_below n m size (e y) (within y))) in
        subst (λ (b : Bool). IsTrue b) (clause_same m (assigned_by xs) e k (λ x h. let same : 0 + x ≡ x = omega arith in firsts_at e 0 k x h ∙ ap e same) c (omega arith)) one
