-- Terms of several clauses, whose variables are renamed apart as they are looked at.
use Rattle.std.specs.Coded.{Coded, code_by, coded×, coded_ℕ, coded_list}
use Rattle.std.specs.Prelude.{ℕ, List, map, refl}
use Rattle.fol_core.specs.Substitutions.{Substitution}
use Rattle.fol_core.specs.Tree.{Tree, Trees, trees_of}
use Rattle.fol_core.specs.TreeCodes.{coded_tree}
use Rattle.substitutions.specs.Apart.{Own, interleaved}
use Rattle.substitutions.specs.Instances.{followed}

-- what a substitution for the variables of so many clauses makes of those of each
abbrev pub own_among : ℕ → Substitution → Own
own_among n s = λ k. followed (interleaved n k) s

-- terms that are to be made the same, of so many clauses
pub record Equated : Type 0 where
  pub many : ℕ
  pub pairs : List (Tree × Tree)

-- the sides of pairs
abbrev pub left_sides : List (Tree × Tree) → Trees
left_sides ps = trees_of (map (λ p. p.0) ps)

abbrev pub right_sides : List (Tree × Tree) → Trees
right_sides ps = trees_of (map (λ p. p.1) ps)

abbrev pub coded_equated : Coded Equated
coded_equated =
    code_by (ℕ × List (Tree × Tree)) (coded× coded_ℕ (coded_list (coded× coded_tree coded_tree)))
    (λ e. (e.many, e.pairs)) (λ p. record { many = p.0; pairs = p.1 }) (λ _. refl)
