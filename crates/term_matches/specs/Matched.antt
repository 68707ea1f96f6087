-- Matches with terms that are lent.
use Rattle.std.specs.Prelude.{ℕ, ◌≡◌, Bool, true, false, List, ◌++◌, Option, Some, None, IsSome}
use Rattle.std.specs.Borrow.{Bor}
use Rattle.std.specs.List.{All}
use Rattle.std.specs.Option.{option_map_or}
use Rattle.fol_core.specs.Tree.{var}
use Rattle.fol_core.specs.TermView.{tree_of}
use Rattle.fol_core.specs.declared.term.Term.{Term}
use Rattle.substitutions.specs.Bindings.{Binding}

-- a variable with the term that is lent for it, if there is one
abbrev pub lent_binding : ℕ × Option (Bor Term) → Binding
lent_binding b = (b.0, option_map_or (λ t. tree_of t.now) b.1 (var b.0))

-- each variable has one
abbrev pub HaveTerms : List (ℕ × Option (Bor Term)) → Type 0
HaveTerms bs = All (λ b. IsSome b.1) bs

-- whether bindings are found, and which
abbrev pub IsFound : Bool → Option (List Binding) → List Binding → Type 0
IsFound true o bs = o ≡ Some bs
IsFound false o bs = o ≡ None

-- bindings stand in front of others
abbrev pub StandInFront : List Binding → List Binding → Type 0
StandInFront old new = (more : List Binding) × (new ≡ old ++ more)

-- bindings are found, or not; those that were there stay in front
pub record MatchesOnto (found : Bool) (o : Option (List Binding)) (old new : List Binding) : Type 0
  where
    pub is : IsFound found o new
    pub front : StandInFront old new
