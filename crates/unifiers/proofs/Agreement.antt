-- Numbered conclusions are the same, whatever the unifier and the renaming.
use Rattle.std.proofs.Common.{◌≡◌, sym, ap, ◌∙◌}
use Rattle.fol_core.specs.Literals.{ClauseTree}
use Rattle.fol_core.specs.Renumbered.{renumbered}
use Rattle.fol_core.specs.Substitutions.{Substitution, substitute_all}
use Rattle.fol_core.specs.Tree.{Trees}
use Rattle.substitutions.specs.Instances.{substitute_clause, followed}
use Rattle.substitutions.proofs.Composing.{substitute_twice_all, substitute_twice_clause, substitute_alike_clause}
use Rattle.substitutions.proofs.Variants.{instances_same}
use Rattle.unifiers.specs.Laws.{AreInstancesBy}
use Rattle.unifiers.specs.Unifier.{Unifies, IsMostGeneral}

-- what a unifier of renamed terms makes of the renamed clause is an instance of what a most general one makes of the clause
instance_of : (ss ts us vs : Trees) (c d : ClauseTree) (there s u : Substitution) → AreInstancesBy ss ts c us vs d there → IsMostGeneral s ss ts → Unifies u us vs
    → (r : Substitution) × (substitute_clause u d ≡ substitute_clause r (substitute_clause s c))
instance_of ss ts us vs c d there s u renamed general unifies =
    let covered = general.covers (followed there u)
    (sym (substitute_twice_all there u ss) ∙ ap (substitute_all u) (sym renamed.left) ∙ unifies ∙ ap (substitute_all u) renamed.right ∙ substitute_twice_all there u ts) in (
      covered.0,
      ap (substitute_clause u) renamed.clause ∙ substitute_twice_clause there u c
          ∙ substitute_alike_clause (followed there u) (followed s covered.0) c (λ x i. covered.1 x) ∙ sym (substitute_twice_clause s covered.0 c),
    )

pub agree : (ss ts us vs : Trees) (c d : ClauseTree) (there back s u : Substitution) → AreInstancesBy ss ts c us vs d there → AreInstancesBy us vs d ss ts c back
    → IsMostGeneral s ss ts → IsMostGeneral u us vs → renumbered (substitute_clause s c) ≡ renumbered (substitute_clause u d)
agree ss ts us vs c d there back s u forth turned one other =
    let a = instance_of ss ts us vs c d there s u forth one other.unifies in
    let b = instance_of us vs ss ts d c back u s turned other one.unifies in
    instances_same (substitute_clause s c) (substitute_clause u d) a.0 b.0 a.1 b.1
