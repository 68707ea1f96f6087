-- What holds of unifiers and of matching.
use Rattle.std.specs.Prelude.{◌≡◌, List, [], Some, None}
use Rattle.fol_core.specs.Literals.{ClauseTree}
use Rattle.fol_core.specs.Renumbered.{renumbered}
use Rattle.fol_core.specs.Substitutions.{Substitution, substitute, substitute_all}
use Rattle.fol_core.specs.Tree.{Tree, Trees}
use Rattle.substitutions.specs.Bindings.{Binding, by_bindings}
use Rattle.substitutions.specs.Instances.{substitute_clause}
use Rattle.unifiers.specs.Matching.{matched, Agrees}
use Rattle.unifiers.specs.Unifier.{Unifies, IsMostGeneral, solution, unifier_of}

-- what is found is most general
abbrev pub FindsMostGeneral : Type 0
FindsMostGeneral =
    (ss ts : Trees) (bs : List Binding) → unifier_of ss ts ≡ Some bs →
    IsMostGeneral (solution bs) ss ts

-- and where nothing is found there is nothing
abbrev pub FindsWhatIsThere : Type 0
FindsWhatIsThere = (ss ts : Trees) (u : Substitution) → unifier_of ss ts ≡ None → ¬ Unifies u ss ts

-- terms and a clause, and others, are made of each other by putting in terms
pub record AreInstancesBy (ss ts : Trees) (c : ClauseTree) (us vs : Trees) (d : ClauseTree)
    (there : Substitution) : Type 0 where
  pub left : us ≡ substitute_all there ss
  pub right : vs ≡ substitute_all there ts
  pub clause : d ≡ substitute_clause there c

-- A numbered conclusion depends neither on the most general unifier nor on how the parents were
-- renamed.
abbrev pub ConclusionsAgree : Type 0
ConclusionsAgree =
    (ss ts us vs : Trees) (c d : ClauseTree) (there back s u : Substitution) →
    AreInstancesBy ss ts c us vs d there → AreInstancesBy us vs d ss ts c back
    → IsMostGeneral s ss ts → IsMostGeneral u us vs →
    renumbered (substitute_clause s c) ≡ renumbered (substitute_clause u d)

-- a match makes of the first term the second
abbrev pub MatchesMake : Type 0
MatchesMake =
    (s t : Tree) (bs : List Binding) → matched s t [] ≡ Some bs → substitute (by_bindings bs) s ≡ t

-- and is found where something does, which gives the variables the same terms
abbrev pub MatchesAreFound : Type 0
MatchesAreFound =
    (s t : Tree) (u : Substitution) → substitute u s ≡ t → (bs : List Binding)
    × (matched s t [] ≡ Some bs) × Agrees u bs
