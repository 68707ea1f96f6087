-- Substitutions one after the other, and those that agree.
use Rattle.std.proofs.Common.{◌≡◌, inl, inr, ℕ, ◌==◌, ◌||◌, IsTrue, [], ◌∷◌, refl, sym, ap, ap₂, ◌∙◌}
use Rattle.std.proofs.lemmas.Bool.{or_left, or_right, or_cases, eq-eqb, eqb-true, false≢true}
use Rattle.std.proofs.Math.Bool.{or-false}
use Rattle.fol_core.specs.Tree.{Tree, var, elem, app, Trees, none, more}
use Rattle.fol_core.specs.Free.{is_in, variables_of, variables_of_all}
use Rattle.fol_core.specs.Literals.{Lit, literal, ClauseTree}
use Rattle.fol_core.specs.Renumbered.{clause_variables}
use Rattle.fol_core.specs.Substitutions.{Substitution, substitute, substitute_all}
use Rattle.fol_core.proofs.Variables.{is_in_joined}
use Rattle.substitutions.specs.Instances.{substitute_literal, substitute_clause, followed}
use Rattle.substitutions.specs.Occurring.{has_variable, have_variable, occurs_in_clause}

mutual
  -- each variable for itself
  pub substitute_variables : (t : Tree) → substitute var t ≡ t
  substitute_variables (var x) = refl
  substitute_variables (elem k) = refl
  substitute_variables (app f ts) = ap (app f) (substitute_variables_all ts)

  pub substitute_variables_all : (ts : Trees) → substitute_all var ts ≡ ts
  substitute_variables_all none = refl
  substitute_variables_all (more t ts) = ap₂ more (substitute_variables t) (substitute_variables_all ts)

pub substitute_variables_clause : (c : ClauseTree) → substitute_clause var c ≡ c
substitute_variables_clause [] = refl
substitute_variables_clause (l ∷ c) = ap₂ (λ a b. literal l.positive a ∷ b) (substitute_variables l.atom) (substitute_variables_clause c)

mutual
  -- one after the other
  pub substitute_twice : (s u : Substitution) (t : Tree) → substitute u (substitute s t) ≡ substitute (followed s u) t
  substitute_twice s u (var x) = refl
  substitute_twice s u (elem k) = refl
  substitute_twice s u (app f ts) = ap (app f) (substitute_twice_all s u ts)

  pub substitute_twice_all : (s u : Substitution) (ts : Trees) → substitute_all u (substitute_all s ts) ≡ substitute_all (followed s u) ts
  substitute_twice_all s u none = refl
  substitute_twice_all s u (more t ts) = ap₂ more (substitute_twice s u t) (substitute_twice_all s u ts)

pub substitute_twice_clause : (s u : Substitution) (c : ClauseTree) → substitute_clause u (substitute_clause s c) ≡ substitute_clause (followed s u) c
substitute_twice_clause s u [] = refl
substitute_twice_clause s u (l ∷ c) = ap₂ (λ a b. literal l.positive a ∷ b) (substitute_twice s u l.atom) (substitute_twice_clause s u c)

mutual
  -- substitutions that agree on the variables make the same
  pub substitute_alike : (s u : Substitution) (t : Tree) → ((x : ℕ) → IsTrue (has_variable x t) → s x ≡ u x) → substitute s t ≡ substitute u t
  substitute_alike s u (var x) h = h x (eq-eqb x x refl)
  substitute_alike s u (elem k) h = refl
  substitute_alike s u (app f ts) h = ap (app f) (substitute_alike_all s u ts h)

  pub substitute_alike_all : (s u : Substitution) (ts : Trees) → ((x : ℕ) → IsTrue (have_variable x ts) → s x ≡ u x) → substitute_all s ts ≡ substitute_all u ts
  substitute_alike_all s u none h = refl
  substitute_alike_all s u (more t ts) h = ap₂ more
      (substitute_alike s u t (λ x i. h x (or_left (has_variable x t) (have_variable x ts) i)))
      (substitute_alike_all s u ts (λ x i. h x (or_right (has_variable x t) (have_variable x ts) i)))

pub substitute_alike_clause : (s u : Substitution) (c : ClauseTree) → ((x : ℕ) → IsTrue (occurs_in_clause x c) → s x ≡ u x) → substitute_clause s c ≡ substitute_clause u c
substitute_alike_clause s u [] h = refl
substitute_alike_clause s u (l ∷ c) h = ap₂ (λ a b. literal l.positive a ∷ b)
    (substitute_alike s u l.atom (λ x i. h x (or_left (has_variable x l.atom) (occurs_in_clause x c) i)))
    (substitute_alike_clause s u c (λ x i. h x (or_right (has_variable x l.atom) (occurs_in_clause x c) i)))

-- the parts of an application, of arguments, of a literal
pub arguments_same : (f g : ℕ) (ss ts : Trees) → app f ss ≡ app g ts → ss ≡ ts
arguments_same f g ss ts h = cc

pub heads_same : (f g : ℕ) (ss ts : Trees) → app f ss ≡ app g ts → f ≡ g
heads_same f g ss ts h = cc

pub first_same : (s t : Tree) (ss ts : Trees) → more s ss ≡ more t ts → s ≡ t
first_same s t ss ts h = cc

pub others_same : (s t : Tree) (ss ts : Trees) → more s ss ≡ more t ts → ss ≡ ts
others_same s t ss ts h = cc

pub first_atom : (l k : Lit) (c d : ClauseTree) → l ∷ c ≡ k ∷ d → l.atom ≡ k.atom
first_atom l k c d h = let e : l ≡ k = cc in ap (λ (x : Lit). x.atom) e

pub other_literals : (l k : Lit) (c d : ClauseTree) → l ∷ c ≡ k ∷ d → c ≡ d
other_literals l k c d h = cc

mutual
  -- and those that make the same agree on the variables
  pub agrees : (s u : Substitution) (t : Tree) → substitute s t ≡ substitute u t → (x : ℕ) → IsTrue (has_variable x t) → s x ≡ u x
  agrees s u (var y) h x i = ap s (eqb-true x y i) ∙ h ∙ sym (ap u (eqb-true x y i))
  agrees s u (elem k) h x i = absurd (false≢true i)
  agrees s u (app f ts) h x i = agrees_all s u ts (arguments_same f f (substitute_all s ts) (substitute_all u ts) h) x i

  pub agrees_all : (s u : Substitution) (ts : Trees) → substitute_all s ts ≡ substitute_all u ts → (x : ℕ) → IsTrue (have_variable x ts) → s x ≡ u x
  agrees_all s u none h x i = absurd (false≢true i)
  agrees_all s u (more t ts) h x i = elim (or_cases (has_variable x t) (have_variable x ts) i) [
    | inl j ↦ agrees s u t (first_same (substitute s t) (substitute u t) (substitute_all s ts) (substitute_all u ts) h) x j
    | inr j ↦ agrees_all s u ts (others_same (substitute s t) (substitute u t) (substitute_all s ts) (substitute_all u ts) h) x j
  ]

pub agrees_clause : (s u : Substitution) (c : ClauseTree) → substitute_clause s c ≡ substitute_clause u c → (x : ℕ) → IsTrue (occurs_in_clause x c) → s x ≡ u x
agrees_clause s u [] h x i = absurd (false≢true i)
agrees_clause s u (l ∷ c) h x i = elim (or_cases (has_variable x l.atom) (occurs_in_clause x c) i) [
  | inl j ↦ agrees s u l.atom (first_atom (substitute_literal s l) (substitute_literal u l) (substitute_clause s c) (substitute_clause u c) h) x j
  | inr j ↦ agrees_clause s u c (other_literals (substitute_literal s l) (substitute_literal u l) (substitute_clause s c) (substitute_clause u c) h) x j
]

mutual
  -- a term has just the variables that are listed
  pub has_listed : (x : ℕ) (t : Tree) → has_variable x t ≡ is_in x (variables_of t)
  has_listed x (var y) = sym (or-false (x == y))
  has_listed x (elem k) = refl
  has_listed x (app f ts) = have_listed x ts

  pub have_listed : (x : ℕ) (ts : Trees) → have_variable x ts ≡ is_in x (variables_of_all ts)
  have_listed x none = refl
  have_listed x (more t ts) = ap₂ (λ a b. a || b) (has_listed x t) (have_listed x ts) ∙ sym (is_in_joined x (variables_of t) (variables_of_all ts))

pub clause_listed : (x : ℕ) (c : ClauseTree) → occurs_in_clause x c ≡ is_in x (clause_variables c)
clause_listed x [] = refl
clause_listed x (l ∷ c) = ap₂ (λ a b. a || b) (has_listed x l.atom) (clause_listed x c) ∙ sym (is_in_joined x (variables_of l.atom) (clause_variables c))
