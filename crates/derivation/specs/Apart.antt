-- Parents renamed apart, and what a rule concludes of them.
use Rattle.std.specs.Prelude.{◌≡◌, IsTrue, List, map, Some}
use Rattle.fol_core.specs.Literals.{ClauseTree}
use Rattle.fol_core.specs.Renumbered.{renumbered}
use Rattle.fol_core.specs.Substitutions.{Substitution}
use Rattle.fol_core.specs.Tree.{Tree, Trees, trees_of}
use Rattle.substitutions.specs.Instances.{substitute_clause}
use Rattle.unifiers.specs.Unifier.{Unifies, IsMostGeneral}
use Rattle.derivation.specs.Lines.{FirstWord, Inference, inference_of}
use Rattle.substitutions.specs.Apart.{Own, instances, AreRenamedApart}
use Rattle.derivation.specs.Rule.{AreSame, Concludes}

-- the sides of pairs
abbrev pub lefts : List (Tree × Tree) → Trees
lefts ps = trees_of (map (λ p. p.0) ps)

abbrev pub rights : List (Tree × Tree) → Trees
rights ps = trees_of (map (λ p. p.1) ps)

-- what a most general unifier of parents renamed apart makes of them, numbered, is the rule's
-- conclusion
abbrev pub UnifierConcludes : Type 0
UnifierConcludes =
    (w : FirstWord) (i : Inference) (cs : List ClauseTree) (apart : Own) (s : Substitution) →
    inference_of w ≡ Some i → AreRenamedApart cs apart → IsTrue (i.rule.fits cs)
    → IsMostGeneral s (lefts (i.rule.pairs (instances apart cs)))
    (rights (i.rule.pairs (instances apart cs)))
    → Concludes i.rule cs (renumbered (substitute_clause s (i.rule.rest (instances apart cs))))

-- and where they have no unifier, the parents have none
abbrev pub NoneConcludes : Type 0
NoneConcludes =
    (w : FirstWord) (i : Inference) (cs : List ClauseTree) (apart : Own) → inference_of w ≡ Some i →
    AreRenamedApart cs apart → IsTrue (i.rule.fits cs)
    → ((s : Substitution) →
    ¬ Unifies s (lefts (i.rule.pairs (instances apart cs)))
    (rights (i.rule.pairs (instances apart cs))))
    → (own : Own) → ¬ AreSame (i.rule.pairs (instances own cs))
