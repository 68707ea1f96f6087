-- Instances of the clauses are true in solutions.
use Rattle.std.proofs.Common.{◌≡◌, ℕ, zero, suc, ◌<◌, IsTrue, List, [], ◌∷◌, length, map, get_or, set, slice_index, sym, ◌∙◌, subst, arith}
use Rattle.std.specs.List.{AllByRecursion}
use Rattle.std.proofs.lemmas.Bool.{lt-ltb}
use Rattle.fol_core.specs.ClauseView.{literal_of}
use Rattle.fol_core.specs.Literals.{ClauseTree, is_true_clause, IsTrueClause, AreTrueClauses}
use Rattle.fol_core.specs.Meaning.{Meaning}
use Rattle.fol_core.specs.declared.clause.Literal.{Literal}
use Rattle.mace_cells.specs.World.{World, Solves}
use Rattle.mace_ground.proofs.Grounding.{list_below}
use Rattle.mace_ground.specs.Instances.{assigned_by}
use Rattle.model_tables.specs.Size.{AllBelow}

pub below_set : (n : ℕ) (xs : List ℕ) (i x : ℕ) → AllBelow n xs → x < n → AllBelow n (set xs i x)
below_set n [] i x below h = tt
below_set n (y ∷ xs) zero x below h = (h, below.1)
below_set n (y ∷ xs) (suc i) x below h = (below.0, below_set n xs i x below.1 h)

one_of : (m : Meaning) (rows : List (ℕ × ClauseTree)) (i : ℕ) (row : ℕ × ClauseTree) → AreTrueClauses m (map (λ r. r.1) rows) → i < length rows → row ≡ get_or rows i row → IsTrueClause m row.1
one_of m [] i row holds h is = absurd (omega (arith, h))
one_of m (r ∷ rows) zero row holds h is = subst (λ (q : ℕ × ClauseTree). IsTrueClause m q.1) (sym is) holds.0
one_of m (r ∷ rows) (suc i) row holds h is = one_of m rows i row holds.1 (omega (arith, h)) is

module _ (w : World) (m : Meaning) (solves : Solves w m) (rows : List (ℕ × ClauseTree)) (i : ℕ) (row : ℕ × ClauseTree) where
  pub clause_true : map (λ r. r.1) rows ≡ w.clauses → i < length rows → row ≡ get_or rows i row → IsTrueClause m row.1
  clause_true same h is = one_of m rows i row (subst (λ (cs : List ClauseTree). AreTrueClauses m cs) (sym same) solves.holds) h is

  pub instance_true : (env : List ℕ) (ls : List Literal) → map (λ r. r.1) rows ≡ w.clauses → i < length rows → row ≡ get_or rows i row → 0 < w.size → AllBelow w.size env → map literal_of ls ≡ row.1
      → IsTrue (is_true_clause m (assigned_by env) (map literal_of ls))
  instance_true env ls same h is some below literals =
      subst (λ (c : ClauseTree). IsTrue (is_true_clause m (assigned_by env) c)) (sym literals)
      (clause_true same h is (assigned_by env) (λ x. solves.size (slice_index env x) ∙ lt-ltb _ _ (list_below w.size env x some below)))

-- what holds of each clause
pub row_has : (P : ClauseTree → Type 0) (rows : List (ℕ × ClauseTree)) (i : ℕ) (row : ℕ × ClauseTree) → AllByRecursion P (map (λ r. r.1) rows) → i < length rows → row ≡ get_or rows i row → P row.1
row_has P [] i row holds h is = absurd (omega (arith, h))
row_has P (r ∷ rows) zero row holds h is = subst (λ (q : ℕ × ClauseTree). P q.1) (sym is) holds.0
row_has P (r ∷ rows) (suc i) row holds h is = row_has P rows i row holds.1 (omega (arith, h)) is
