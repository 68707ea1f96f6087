-- A clause has no more levels than symbols and variables.
use Rattle.std.proofs.Common.{◌≡◌, ℕ, ◌+◌, ◌≤◌, false, nat_lt, min, ◌||◌, [], ◌∷◌, sym, ap₂, arith}
use Rattle.std.proofs.lemmas.Bool.{le-ltb}
use Rattle.clause_limits.specs.Sizes.{clause_size, clause_depth}
use Rattle.fol_core.specs.Literals.{ClauseTree}
use Rattle.fol_core.specs.Sizes.{size_of, sizes_of, depth_of, depths_of}
use Rattle.fol_core.specs.Tree.{Tree, var, elem, app, Trees, none, more}

mutual
  levels_within : (t : Tree) → depth_of t ≤ size_of t
  levels_within (var x) = omega arith
  levels_within (elem k) = omega arith
  levels_within (app f ts) = let h = all_within ts in omega (arith, h)

  all_within : (ts : Trees) → depths_of ts ≤ sizes_of ts
  all_within none = omega arith
  all_within (more t ts) = let h = levels_within t in let k = all_within ts in omega (arith, h, k)

pub clause_within : (c : ClauseTree) → clause_depth c ≤ clause_size c
clause_within [] = omega arith
clause_within (l ∷ c) = let h = levels_within l.atom in let k = clause_within c in omega (arith, h, k)

-- so one of few symbols and variables has few levels
pub few_enough : (c : ClauseTree) (levels symbols left : ℕ) → left + clause_size c ≡ min levels symbols
    → false ≡ (nat_lt levels (clause_depth c) || nat_lt symbols (clause_size c))
few_enough c levels symbols left is =
    let h = clause_within c in
    ap₂ (λ a b. a || b) (sym (le-ltb levels (clause_depth c) (omega (arith, is, h)))) (sym (le-ltb symbols (clause_size c) (omega (arith, is))))
