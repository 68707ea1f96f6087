-- Rules of inference on instances of the parents, and when a clause is a conclusion.
use Rattle.std.specs.Prelude.{◌≡◌, Bool, List, [], ◌∷◌, map}
use Rattle.fol_core.specs.Literals.{ClauseTree}
use Rattle.fol_core.specs.Renumbered.{renumbered}
use Rattle.fol_core.specs.Substitutions.{Substitution}
use Rattle.fol_core.specs.Tree.{Tree}
use Rattle.substitutions.specs.Apart.{Own, instances}
use Rattle.substitutions.specs.Instances.{substitute_clause}

-- A rule: whether the places are there in the parents and of the kinds and signs that it takes;
-- which terms have to be equal in the parents' instances; and what is made of those.
pub record InferenceRule : Type 0 where
  pub fits : List ClauseTree → Bool
  pub pairs : List ClauseTree → List (Tree × Tree)
  pub rest : List ClauseTree → ClauseTree

-- the terms of each pair are the same
abbrev pub AreSame : List (Tree × Tree) → Type 0
AreSame [] = Unit {0}
AreSame (p ∷ ps) = (p.0 ≡ p.1) × AreSame ps

abbrev pub UnifiesFamily : InferenceRule → List ClauseTree → Own → Type 0
UnifiesFamily r cs own = AreSame (r.pairs (instances own cs))

-- what unifies all pairs at once, where whatever else does gives instances of its instances
pub record IsMostGeneralFamily (r : InferenceRule) (cs : List ClauseTree) (own : Own) : Type 0 where
  pub unifies : UnifiesFamily r cs own
  pub general : (other : Own) → UnifiesFamily r cs other → (u : Substitution)
      × (instances other cs ≡ map (substitute_clause u) (instances own cs))

-- what a rule concludes: by a most general unifier, with the variables numbered
abbrev pub Concludes : InferenceRule → List ClauseTree → ClauseTree → Type 0
Concludes r cs c =
    (own : Own) × IsMostGeneralFamily r cs own × (c ≡ renumbered (r.rest (instances own cs)))
