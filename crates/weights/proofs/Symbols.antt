-- Without rules, symbols and variables weigh 1.
use Rattle.std.proofs.Common.{◌≡◌, ℕ, ◌+◌, [], ◌∷◌, refl, ◌∙◌, arith}
use Rattle.fol_core.specs.Literals.{ClauseTree}
use Rattle.fol_core.specs.Sizes.{size_of, sizes_of}
use Rattle.fol_core.specs.Tree.{Tree, var, elem, app, Trees, none, more}
use Rattle.prover_steps.specs.Searching.{clause_size}
use Rattle.weights.specs.Weighing.{weight_within, term_weight, sum_of_atoms}
use Rattle.weights.specs.WeighingLaws.{sum_of_weights, SymbolsWeigh}
use Rattle.weights.proofs.Weights.{first_is, weights_follow}

-- a sum that stops, of one more weight that stopped
stops : (k a b m n : ℕ) → a ≡ weight_within b → weight_within (k + b + m) ≡ weight_within (k + b + n) → weight_within (k + (a + m)) ≡ weight_within (k + (b + n))
stops k a b m n h e = omega arith

mutual
  term_weighs : (t : Tree) → term_weight [] t ≡ weight_within (size_of t)
  term_weighs (var x) = first_is (var x, 1) []
  term_weighs (elem k) = first_is (elem k, 1) []
  term_weighs (app f ts) = let rest = all_weigh 1 ts in weights_follow [] f ts ∙ rest ∙ omega arith

  all_weigh : (k : ℕ) (ts : Trees) → weight_within (k + sum_of_weights [] ts) ≡ weight_within (k + sizes_of ts)
  all_weigh k none = refl
  all_weigh k (more t ts) = stops k (term_weight [] t) (size_of t) (sum_of_weights [] ts) (sizes_of ts) (term_weighs t) (all_weigh (k + size_of t) ts)

atoms_weigh : (k : ℕ) (c : ClauseTree) → weight_within (k + sum_of_atoms [] c) ≡ weight_within (k + clause_size c)
atoms_weigh k [] = refl
atoms_weigh k (l ∷ c) = stops k (term_weight [] l.atom) (size_of l.atom) (sum_of_atoms [] c) (clause_size c) (term_weighs l.atom) (atoms_weigh (k + size_of l.atom) c)

pub symbols_weigh : SymbolsWeigh
symbols_weigh c = let total = atoms_weigh 0 c in omega (arith, total)
