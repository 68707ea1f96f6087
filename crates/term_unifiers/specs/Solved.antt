-- What is found of unifiers.
use Rattle.fol_core.specs.Substitutions.{Substitution}
use Rattle.fol_core.specs.Tree.{Trees}
use Rattle.std.specs.Prelude.{◌≡◌, List}
use Rattle.std.specs.Prelude.{ℕ}
use Rattle.term_unifiers.specs.Merging.{Merging, IsMerging, FitsLinks}
use Rattle.term_unifiers.specs.Shapes.{Shape}
use Rattle.unifiers.specs.Unifier.{Unifies}

-- nothing unifies
abbrev pub HasNoUnifier : Trees → Trees → Type 0
HasNoUnifier ss ts = (u : Substitution) → ¬ Unifies u ss ts

-- nodes with pairs, before any are merged
pub record IsBegun (shapes : List Shape) (left_numbers right_numbers : List ℕ) (m : Merging)
    : Type 0 where
  pub merging : IsMerging shapes m
  pub lefts : m.lefts ≡ left_numbers
  pub rights : m.rights ≡ right_numbers
  pub apart : (label : Substitution) → FitsLinks label m.links
