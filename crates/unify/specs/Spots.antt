-- Terms of a bank in contexts.
use Rattle.std.specs.Prelude.{ℕ, ◌+◌, ◌≡◌, ◌⊎◌, List, [], ◌∷◌}
use Rattle.fol_core.specs.Substitutions.{Substitution, substitute}
use Rattle.fol_core.specs.Tree.{Tree, var}
use Rattle.term_bank.specs.Bank.{tree_at}
use Rattle.term_bank.specs.declared.id.TermId.{TermId}
use Rattle.unify.specs.declared.spot.Spot.{Spot}

-- a variable of a term stands for that of the number that is greater by the context
abbrev pub raised : ℕ → Substitution
raised i = λ x. var (x + i)

-- the term in its context
abbrev pub spot_tree : List Tree → Spot → Tree
spot_tree bank p = substitute (raised p.context) (tree_at bank p.term.0)

-- one of the list
abbrev pub In : {A : Type 0} → A → List A → Type 0
In x [] = ⊥
In x (y ∷ ys) = (x ≡ y) ⊎ In x ys

abbrev pub spot : TermId → ℕ → Spot
spot k i = record { term = k; context = i }
