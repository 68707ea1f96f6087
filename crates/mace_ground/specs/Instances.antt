-- Ground instances of clauses.
use Rattle.std.specs.Prelude.{ℕ, suc, ◌≡◌, ◌+◌, ◌*◌, ◌^◌, ◌<◌, ◌↔◌, IsTrue, max, nat_lt, List, [], ◌∷◌, length, slice_index}
use Rattle.fol_core.specs.Literals.{ClauseTree, is_true_clause, IsTrueClause}
use Rattle.fol_core.specs.Meaning.{Meaning}
use Rattle.fol_core.specs.Tree.{Tree, var, elem, app, Trees, none, more}
use Rattle.fol_core.specs.Truth.{Assignment}
use Rattle.mace_ground.specs.Cells.{Block}
use Rattle.model_tables.specs.Size.{AllBelow}

abbrev mutual
  -- the least number above each variable of a term, 0 where it has none
  pub above_variables : Tree → ℕ
  above_variables (var x) = suc x
  above_variables (elem k) = 0
  above_variables (app s ts) = above_all_variables ts

  pub above_all_variables : Trees → ℕ
  above_all_variables none = 0
  above_all_variables (more t ts) = max (above_variables t) (above_all_variables ts)

-- how many variables a clause has, which are 0 and on
abbrev pub variables_in : ClauseTree → ℕ
variables_in [] = 0
variables_in (l ∷ c) = max (above_variables l.atom) (variables_in c)

-- the elements of a list for the variables 0 and on
abbrev pub assigned_by : List ℕ → Assignment
assigned_by xs = λ x. slice_index xs x

-- how many ground literals the clauses have where there are n elements: those of each instance
abbrev pub ground_literals : ℕ → List ClauseTree → ℕ
ground_literals n [] = 0
ground_literals n (c ∷ cs) = length c * n ^ variables_in c + ground_literals n cs

-- the clauses where there are n elements, with the cells of their symbols
pub record Instances : Type 0 where
  pub size : ℕ
  pub blocks : List Block
  pub clauses : List ClauseTree

-- elements for the variables of a clause: with them it is one of its ground instances
abbrev pub IsInstance : ℕ → ClauseTree → List ℕ → Type 0
IsInstance n c xs = (length xs ≡ variables_in c) × AllBelow n xs

-- where the elements are those below n, a clause is true exactly where its ground instances are
abbrev pub InstancesSuffice : Type 0
InstancesSuffice =
    (n : ℕ) (m : Meaning) (c : ClauseTree) → 0 < n → ((x : ℕ) → m.within x ≡ nat_lt x n)
    → IsTrueClause m c
    ↔ ((xs : List ℕ) → IsInstance n c xs → IsTrue (is_true_clause m (assigned_by xs) c))
