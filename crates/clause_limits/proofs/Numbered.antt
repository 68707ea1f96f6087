-- A clause is as large with other numbers for its variables.
use Rattle.std.proofs.Common.{◌≡◌, ℕ, nat_lt, max, ◌+◌, ◌||◌, [], ◌∷◌, map, refl, ap, ap₂}
use Rattle.fol_core.specs.Literals.{Lit, literal, ClauseTree}
use Rattle.fol_core.specs.Renumbered.{renumbered, place_in, clause_variables}
use Rattle.fol_core.specs.Sizes.{size_of, sizes_of, depth_of, depths_of}
use Rattle.fol_core.specs.Substitutions.{substitute, substitute_all}
use Rattle.fol_core.specs.Tree.{Tree, var, elem, app, Trees, none, more}
use Rattle.clause_limits.specs.Sizes.{clause_size, clause_depth, is_too_large}

module _ (name : ℕ → ℕ) where
  mutual
    sized : (t : Tree) → size_of (substitute (λ x. var (name x)) t) ≡ size_of t
    sized (var x) = refl
    sized (elem k) = refl
    sized (app f ts) = ap (λ n. n + 1) (all_sized ts)

    all_sized : (ts : Trees) → sizes_of (substitute_all (λ x. var (name x)) ts) ≡ sizes_of ts
    all_sized none = refl
    all_sized (more t ts) = ap₂ (λ m n. m + n) (sized t) (all_sized ts)

  mutual
    deep : (t : Tree) → depth_of (substitute (λ x. var (name x)) t) ≡ depth_of t
    deep (var x) = refl
    deep (elem k) = refl
    deep (app f ts) = ap (λ n. n + 1) (all_deep ts)

    all_deep : (ts : Trees) → depths_of (substitute_all (λ x. var (name x)) ts) ≡ depths_of ts
    all_deep none = refl
    all_deep (more t ts) = ap₂ max (deep t) (all_deep ts)

  clause_sized : (c : ClauseTree) → clause_size (map (λ (l : Lit). literal l.positive (substitute (λ x. var (name x)) l.atom)) c) ≡ clause_size c
  clause_sized [] = refl
  clause_sized (l ∷ c) = ap₂ (λ m n. m + n) (sized l.atom) (clause_sized c)

  clause_deep : (c : ClauseTree) → clause_depth (map (λ (l : Lit). literal l.positive (substitute (λ x. var (name x)) l.atom)) c) ≡ clause_depth c
  clause_deep [] = refl
  clause_deep (l ∷ c) = ap₂ max (deep l.atom) (clause_deep c)

pub numbered_size : (c : ClauseTree) → clause_size (renumbered c) ≡ clause_size c
numbered_size c = clause_sized (λ x. place_in (clause_variables c) x) c

pub numbered_depth : (c : ClauseTree) → clause_depth (renumbered c) ≡ clause_depth c
numbered_depth c = clause_deep (λ x. place_in (clause_variables c) x) c

pub numbered_as_large : (c : ClauseTree) → is_too_large (renumbered c) ≡ is_too_large c
numbered_as_large c = ap₂ (λ m n. nat_lt 1000 m || nat_lt 1000000 n) (numbered_depth c) (numbered_size c)
