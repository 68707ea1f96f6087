-- The clauses in their rows, one after the other.
use Rattle.std.proofs.Common.{◌≡◌, ℕ, suc, ◌+◌, ◌<◌, ◌≤◌, List, ◌∷◌, length, map, drop, get_or, sym, ap, ◌∙◌, subst, arith}
use Rattle.std.proofs.Math.Seq.{drop-cons}
use Rattle.fol_core.specs.Literals.{ClauseTree}
use Rattle.mace_ground.specs.Instances.{variables_in}
use Rattle.cell_search.specs.Full.{HaveVariables}

abbrev pub trees : List (ℕ × ClauseTree) → List ClauseTree
trees rows = map (λ r. r.1) rows

module _ (rows : List (ℕ × ClauseTree)) (i : ℕ) (row : ℕ × ClauseTree) (within : i < length rows) (is : row ≡ get_or rows i row) where
  next : trees (drop i rows) ≡ row.1 ∷ trees (drop (i + 1) rows)
  next =
      let same : suc i ≡ i + 1 = omega arith in
      ap trees (drop-cons rows i row within ∙ ap (λ (r : ℕ × ClauseTree). r ∷ drop (suc i) rows) (sym is) ∙ ap (λ (j : ℕ). row ∷ drop j rows) same)

  pub room_more : (so_far new : ℕ) → so_far ≤ new → variables_in row.1 ≤ new → ((n : ℕ) → so_far ≤ n → HaveVariables (trees (drop i rows)) n → HaveVariables (trees rows) n)
      → (n : ℕ) → new ≤ n → HaveVariables (trees (drop (i + 1) rows)) n → HaveVariables (trees rows) n
  room_more so_far new fits here all n h rest = all n (omega (arith, fits, h)) (subst (λ (cs : List ClauseTree). HaveVariables cs n) (sym next) (omega (arith, here, h), rest))
