-- How a first term stands to a second one by the path order.
use Rattle.std.specs.Prelude.{ℕ, ◌≡◌, Bool, true, false, List, [], ◌∷◌}
use Rattle.fol_core.specs.Tree.{Tree}
use Rattle.held_clauses.specs.declared.path_order.Rank.{Rank}
use Rattle.held_clauses.specs.declared.path_order.Rank.TheVariants.{Above, Same, Other}
use Rattle.term_order.specs.Lpo.{lpo_greater}

-- greater, or the same, or neither
abbrev pub IsRanked : (ℕ → ℕ → Bool) → Tree → Tree → Rank → Type 0
IsRanked above s t Above = lpo_greater above s t ≡ true
IsRanked above s t Same = s ≡ t
IsRanked above s t Other = (lpo_greater above s t ≡ false) × (s ≡ t → ⊥)

abbrev pub above_if : Bool → Rank
above_if true = Above
above_if false = Other

abbrev pub same_if : Bool → Rank
same_if true = Same
same_if false = Other

-- whether the first of a list is greater than that of another one
abbrev pub IsFirst : (ℕ → ℕ → Bool) → List Tree → List Tree → Bool → Type 0
IsFirst above [] vs b = Unit {0}
IsFirst above (u ∷ us) [] b = Unit {0}
IsFirst above (u ∷ us) (v ∷ vs) b = b ≡ lpo_greater above u v
