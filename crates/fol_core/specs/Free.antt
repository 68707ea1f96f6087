-- Free variables and the closure of a formula.
use Rattle.std.specs.Prelude.{ℕ, Bool, ◌==◌, if◌then◌else◌, List, [], ◌∷◌, ◌++◌}
use Rattle.std.specs.List.{list_any}
use Rattle.fol_core.specs.Tree.{Tree, var, elem, app, Trees, none, more}
use Rattle.fol_core.specs.Fol.{Fol, verum, falsum, equal, atom, negation, conjunction, disjunction, implication, equivalence, forall, exists}

-- whether x is among the numbers
abbrev pub is_in : ℕ → List ℕ → Bool
is_in x xs = list_any (λ y. x == y) xs

-- the numbers with x behind them, unless it is among them
abbrev pub noted : List ℕ → ℕ → List ℕ
noted xs x = if is_in x xs then xs else xs ++ x ∷ []

-- the numbers of two lists, each once, by first occurrence
abbrev pub joined : List ℕ → List ℕ → List ℕ
joined xs [] = xs
joined xs (y ∷ ys) = joined (noted xs y) ys

-- the numbers but for x
abbrev pub without : ℕ → List ℕ → List ℕ
without x [] = []
without x (y ∷ ys) = if y == x then without x ys else y ∷ without x ys

abbrev mutual
  -- the variables of a term, each once, by first occurrence
  pub variables_of : Tree → List ℕ
  variables_of (var x) = x ∷ []
  variables_of (elem k) = []
  variables_of (app f ts) = variables_of_all ts

  pub variables_of_all : Trees → List ℕ
  variables_of_all none = []
  variables_of_all (more t ts) = joined (variables_of t) (variables_of_all ts)

-- the free variables of a formula, each once, by first free occurrence: a quantifier binds its
-- variable
abbrev pub free_vars_of : Fol → List ℕ
free_vars_of verum = []
free_vars_of falsum = []
free_vars_of (equal s t) = joined (variables_of s) (variables_of t)
free_vars_of (atom r ts) = variables_of_all ts
free_vars_of (negation f) = free_vars_of f
free_vars_of (conjunction f g) = joined (free_vars_of f) (free_vars_of g)
free_vars_of (disjunction f g) = joined (free_vars_of f) (free_vars_of g)
free_vars_of (implication f g) = joined (free_vars_of f) (free_vars_of g)
free_vars_of (equivalence f g) = joined (free_vars_of f) (free_vars_of g)
free_vars_of (forall x f) = without x (free_vars_of f)
free_vars_of (exists x f) = without x (free_vars_of f)

-- the formula under a universal quantifier for each of the variables, the first outermost
abbrev pub closed_over : List ℕ → Fol → Fol
closed_over [] f = f
closed_over (x ∷ xs) f = forall x (closed_over xs f)

-- the universal closure
abbrev pub closure_of : Fol → Fol
closure_of f = closed_over (free_vars_of f) f
