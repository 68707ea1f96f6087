-- The terms that stand for variables, as the code keeps them: a later one stands before an earlier
-- one.
use Rattle.std.specs.Prelude.{ℕ, ◌==◌, List, fold}
use Rattle.std.specs.Borrow.{Bor}
use Rattle.std.specs.Option.{option_map_or}
use Rattle.indexmap.specs.IndexMap.{IndexMap, get}
use Rattle.fol_core.specs.Tree.{var}
use Rattle.fol_core.specs.TermView.{tree_of}
use Rattle.fol_core.specs.declared.term.Term.{Term}
use Rattle.fol_core.specs.Substitutions.{Substitution, with_term}

abbrev pub substitution_kept : List (ℕ × Term) → Substitution
substitution_kept values =
    fold (λ (terms : Substitution) (v : ℕ × Term). with_term terms v.0 (tree_of v.1)) var values

-- what rows that are found by their variables put in for one
abbrev pub put_by : {S : Type 0} → IndexMap ℕ (Bor Term) S → Substitution
put_by rows = λ x. option_map_or (λ t. tree_of t.now) (get (λ y z. y == z) rows x) (var x)
